use Rattle.std.proofs.Common.{◌≡◌, ◌∙◌, false, List, length, map, sym, ap, subst, arith, rules}
use Rattle.std.proofs.lemmas.List.{length-map}
use Rattle.gu_base.specs.History.{is_reversed}
use Rattle.gu_base.specs.House.{House}
use Rattle.gu_base.specs.declared.entry.Entry.{Entry}
use Rattle.gu_lives.proofs.WholeLive.{whole_live}
use Rattle.gu_roll.specs.Carried.{carried, keeps}
use Rattle.gu_roll.specs.Numbering.{AreOf}
use Rattle.gu_roll.specs.Reopened.{live_opening}
use Rattle.gu_roll.proofs.Carry.{carried_whole, opening_long}
use Rattle.gu_roll.proofs.More.{none_apart_same}
use Rattle.gu_roll.proofs.Renamed.{kept_are_of, number_of}
use Rattle.gu_roll.proofs.picking.pick.Goals as goal

pub entries_of-requires : goal.entries_of-requires
entries_of-requires c =
    let t = c.args.book.now.house in
    let h = c.args.book.now.history in
    let whole = carried_whole t h
    (whole_live c.requires.lawful c.requires.small c.requires.run c.history.ensures.fits) c.args.asked.keep in
    let same : c.deref-3.result.now ≡ map number_of (carried c.args.asked.keep h) =
    c.deref-3.ensures.value ∙ c.in_ok-numbers.ensures in
    record { few = omega (arith, ap length same, length-map (carried c.args.asked.keep h) number_of, whole.few) }

pub tally_of-requires : goal.tally_of-requires
tally_of-requires c =
    let t = c.args.book.now.house in
    let h = c.args.book.now.history in
    let whole = carried_whole t h
    (whole_live c.requires.lawful c.requires.small c.requires.run c.history.ensures.fits) c.args.asked.keep in
    record {
      few =
          omega (
            arith,
            ap length c.in_ok-numbers.ensures,
            length-map (carried c.args.asked.keep h) number_of,
            whole.few,
          );
    }

pub returns-clause-opens : goal.returns-clause-opens
returns-clause-opens c =
    none_apart_same 1 c.args.new.now.opening (live_opening c.args.book.now.house c.args.book.now.history) (search rules)

pub returns-clause-can : goal.returns-clause-can
returns-clause-can c whole =
    let t = c.args.book.now.house in
    let long = opening_long t c.requires.lawful c.requires.small in
    let count : c.opening_count.result ≡ length t.opening =
    c.opening_count.ensures.count ∙ ap (λ (u : House). length u.opening) c.house-2.ensures in
    record {
      lawful = c.requires.lawful;
      small = c.requires.small;
      run = c.requires.run;
      few = c.history.ensures.fits;
      unreversed = λ n low high.
          subst (λ (h : List Entry). is_reversed h n ≡ false) c.history.ensures.value
          (c.are_live-is_whole.ensures whole n (omega (arith, high, count, long)));
    }

pub returns-clause-entries : goal.returns-clause-entries
returns-clause-entries c =
    let t = c.args.book.now.house in
    let h = c.args.book.now.history in
    let l = carried c.args.asked.keep h in
    let whole = carried_whole t h
    (whole_live c.requires.lawful c.requires.small c.requires.run c.history.ensures.fits) c.args.asked.keep in
    let of : AreOf c.history-3.result.now l =
    subst (λ (k : List Entry). AreOf k l) (sym c.history-3.ensures.value)
    (kept_are_of (keeps c.args.asked.keep h) h) in
    c.in-Ok.ensures t l whole of (c.deref-3.ensures.value ∙ c.in_ok-numbers.ensures)
