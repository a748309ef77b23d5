use Rattle.std.proofs.Common.{ap, sym, ◌∙◌, ◌∷◌, arith, ℕ, List}
use Rattle.std.specs.Prelude.{flat_map}
use Rattle.std.proofs.lemmas.List.{take_all}
use Rattle.gu_statement.specs.Kinds.{balance_text}
use Rattle.gu_base.specs.History.{live}
use Rattle.gu_statement.proofs.Coming.{then, same, taken_behind, is_there}
use Rattle.gu_statement.proofs.sheet.Sheet.write_balances.Goals as goal
use Rattle.gu_statement.proofs.sheet.Sheet.write_balances.Goals.{in-Some+in_ok-write_balance-in-Some, in-None}

pub loop-place-preserved : goal.loop-place-preserved
loop-place-preserved g c =
    let book = c.args.self.now.book.now in
    let f = balance_text book.house (live book.history) c.args.self.now.whose in
    let at = sym (rw c.house-house.ensures at c.firm_at.ensures) in
    elim c.match-firm_at.branch [
      | in-Some+in_ok-write_balance-in-Some w ↦
          rw (w.out-is, w.writer-is)
          (same _ _ _ _ _ _
          (taken_behind f book.house.house book.house.firms c.loop-place.place _ (at ∙ w.in-Some.is))
          (then _ _ _ _ _ _ _ _ c.loop-place.invariant w.in_ok-write_balance-in-Some.ensures))
      | in-None w ↦
          let count = rw c.house-house.ensures at c.firm_count-place-end.ensures in
          absurd (is_there book.house.firms c.loop-place.place (omega (arith, count, c.loop-place-test.true))
          (at ∙ w.in-None.is))
    ]

pub returns : goal.returns
returns g c =
    let book = c.args.self.now.book.now in
    let count = rw c.house-house.ensures at c.firm_count-place-end.ensures in
    same _ _ _ _ _ _
    (ap (λ (xs : List (List ℕ)).
    flat_map (balance_text book.house (live book.history) c.args.self.now.whose) (book.house.house ∷ xs))
    (take_all c.loop-place.place book.house.firms (omega (arith, count, c.loop-place-test.false))))
    c.loop-place.invariant
