use Rattle.std.proofs.Common.{◌≡◌, ◌||◌, ℕ, drop}
use Rattle.std.specs.List.{list_any}
use Rattle.std.specs.BTreeSet.{contains}
use Rattle.std.specs.Ordering.{nat_cmp}
use Rattle.gu_roll.specs.Opened.{decides_at}
use Rattle.gu_roll.proofs.waiting.decided_of.Given as goal

abbrev pub invariant-loop-number : goal.invariant-loop-number
invariant-loop-number l =
    (k : ℕ) → (contains nat_cmp l.decided k || list_any (decides_at l.history k) (drop l.number-index l.numbers))
    ≡ list_any (decides_at l.history k) l.numbers
