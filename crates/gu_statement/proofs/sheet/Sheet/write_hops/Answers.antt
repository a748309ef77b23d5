use Rattle.std.proofs.Common.{ap, arith}
use Rattle.std.specs.Prelude.{flat_map}
use Rattle.std.proofs.lemmas.List.{take_all}
use Rattle.gu_base.specs.History.{live}
use Rattle.gu_base.specs.declared.entry.Record.{Record}
use Rattle.gu_statement.specs.Kinds.{hop_text}
use Rattle.gu_statement.proofs.Coming.{more_at, same}
use Rattle.gu_statement.proofs.Counting.{as_long}
use Rattle.gu_statement.proofs.sheet.Sheet.write_hops.Goals as goal

pub loop-place-preserved : goal.loop-place-preserved
loop-place-preserved g c =
    let book = c.args.self.now.book.now in
    more_at (hop_text book.house (live book.history) c.args.self.now.whose) (live book.history)
    c.loop-place.place _ _ _ _ _ _
    (omega (
      arith,
      c.loop-place-test.true,
      as_long (λ (r : Record). r.number) c.args.self.now.live.now
          (live book.history) c.requires,
    )) c.loop-place.invariant c.in_ok-write_hop.ensures

pub returns : goal.returns
returns g c =
    let book = c.args.self.now.book.now in
    same _ _ _ _ _ _
    (ap (flat_map (hop_text book.house (live book.history) c.args.self.now.whose))
    (take_all c.loop-place.place (live book.history) (omega (
      arith,
      c.loop-place-test.false,
      as_long (λ
          (r : Record). r.number) c.args.self.now.live.now (live book.history) c.requires,
    ))))
    c.loop-place.invariant
