-- The terms of the agreements of a table are in range.
use Rattle.std.proofs.Common.{◌≡◌, ◌≤◌, Bool, true, false, List, [], ◌∷◌, refl, IsTrue, IfSome, arith, rules}
use Rattle.std.specs.Map.{lookup}
use Rattle.std.proofs.lemmas.Grind.{common_steps}
use Rattle.gu_base.specs.declared.house.Pair.{Pair}
use Rattle.gu_base.specs.declared.house.Agreement.{Agreement}
use Rattle.gu_parties.specs.Terms.{is_in_range, are_in_range}
use Rattle.std.proofs.lemmas.Bool.{and_parts}
use Rattle.gu_base.specs.Limits.{highest_rate, highest_limit}

pub in_range_limits : (a : Agreement) → IsTrue (is_in_range a) → (a.rate ≤ highest_rate) × (a.limit ≤ highest_limit)
in_range_limits a h = grind (arith, common_steps)

-- an agreement that is found
pub found_in_range : (test : Pair → Bool) (es : List (Pair × Agreement)) → IsTrue (are_in_range es)
    → IfSome (lookup test es) (λ a. (a.rate ≤ highest_rate) × (a.limit ≤ highest_limit))
found_in_range test [] h = search rules
found_in_range test (e ∷ es) h =
    by (test e.0) refl (and_parts (is_in_range e.1) (are_in_range es) h) (found_in_range test es)
  where
    by : (t : Bool) → test e.0 ≡ t → IsTrue (is_in_range e.1) × IsTrue (are_in_range es)
        → (IsTrue (are_in_range es)
        → IfSome (lookup test es) (λ a. (a.rate ≤ highest_rate) × (a.limit ≤ highest_limit)))
        → IfSome (lookup test (e ∷ es)) (λ a. (a.rate ≤ highest_rate) × (a.limit ≤ highest_limit))
    by true t here rest = rw t (in_range_limits e.1 here.0)
    by false t here rest = rw t (rest here.1)
