-- The sum over the elements that pass a test, of a list with one element more.
use Rattle.gu_base.proofs.Sums.{sum_kept}
use Rattle.std.{proofs.Common.{arith, Bool, cond, List, [], ℕ, ◌++◌, ◌+◌, ◌∷◌, ◌≡◌}, specs.Prelude.{filter, sum_by}}

-- wherever it stands, it adds what it counts, if it passes
pub sum_one_more : {X : Type 0} (w : X → ℕ) (takes : X → Bool) (before : List X) (x : X) (after : List X)
    → sum_by w (filter takes (before ++ x ∷ after)) ≡ sum_by w (filter takes (before ++ after)) + cond (takes x) (w x) 0
sum_one_more w takes [] x after = omega (arith, sum_kept w (takes x) x (filter takes after))
sum_one_more w takes (y ∷ before) x after = omega (
  arith,
  sum_kept w (takes y) y (filter takes (before ++ x ∷ after)),
  sum_kept w (takes y) y (filter takes (before ++ after)),
  sum_one_more w takes before x after,
)

-- what a number that grew by it is the sum of
pub more_sum : {X : Type 0} (w : X → ℕ) (takes : X → Bool) (before : List X) (x : X) (after : List X) (old new : ℕ)
    → new ≡ old + cond (takes x) (w x) 0
    → old ≡ sum_by w (filter takes (before ++ after)) → new ≡ sum_by w (filter takes (before ++ x ∷ after))
more_sum w takes before x after old new grown is = omega (arith, sum_one_more w takes before x after)

-- what a number that shrank by it is the sum of
pub less_sum : {X : Type 0} (w : X → ℕ) (takes : X → Bool) (before : List X) (x : X) (after : List X) (old new : ℕ)
    → new + cond (takes x) (w x) 0 ≡ old
    → old ≡ sum_by w (filter takes (before ++ x ∷ after)) → new ≡ sum_by w (filter takes (before ++ after))
less_sum w takes before x after old new shrunk is = omega (arith, sum_one_more w takes before x after)
