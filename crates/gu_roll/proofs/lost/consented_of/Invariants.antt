use Rattle.std.proofs.Common.{◌≡◌, ℕ, false, drop}
use Rattle.std.specs.BTreeSet.{contains}
use Rattle.std.specs.Ordering.{nat_cmp}
use Rattle.gu_roll.proofs.Consented.{consented_after}
use Rattle.gu_roll.proofs.lost.consented_of.Given as goal

abbrev pub invariant-loop-entry : goal.invariant-loop-entry
invariant-loop-entry l =
    (n : ℕ) → consented_after n (contains nat_cmp l.consented n) (drop l.entry-index l.history)
    ≡ consented_after n false l.history
