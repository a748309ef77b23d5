-- Whom new entries concern: one entry, and one part, more.
use Rattle.std.proofs.Common.{◌≡◌, ℕ, zero, suc, ◌+◌, Bool, true, false, ◌&&◌, ◌||◌, List, [], ◌∷◌, refl, ap, arith}
use Rattle.std.proofs.Common.{drop, ◌∙◌}
use Rattle.std.specs.Prelude.{Some, slice_get}
use Rattle.gu_base.specs.History.{numbered_as, numbered_from}
use Rattle.gu_base.specs.declared.entry.Entry.{Entry}

-- what one more part adds, if there is a number b
pub one_more : (a b x y : Bool) → ((a || (b && x)) || (b && y)) ≡ (a || (b && (x || y)))
one_more true b x y = refl
one_more false true x y = refl
one_more false false x y = refl

-- what is found first, or later
pub either : (a x y : Bool) → ((a || x) || y) ≡ (a || (x || y))
either true x y = refl
either false x y = refl

pub or_false : (a : Bool) → (a || false) ≡ a
or_false true = refl
or_false false = refl

-- the record at a place, before those behind it
pub records_at : (k i : ℕ) (h : List Entry) (e : Entry) → slice_get h i ≡ Some e
    → drop i (numbered_from k h) ≡ numbered_as (k + i) e ∷ drop (suc i) (numbered_from k h)
records_at k i [] e there = absurd (cc)
records_at k zero (x ∷ h) e there =
    let here : x ≡ e = cc in
    let number : k ≡ k + 0 = omega arith in
    ap (λ y. numbered_as k y ∷ numbered_from (k + 1) h) here
    ∙ ap (λ n. numbered_as n e ∷ numbered_from (k + 1) h) number
records_at k (suc i) (x ∷ h) e there =
    let number : k + 1 + i ≡ k + suc i = omega arith in
    records_at (k + 1) i h e there ∙ ap (λ n. numbered_as n e ∷ drop (suc i) (numbered_from (k + 1) h)) number
