-- A run goes on from a place to another.
use Rattle.std.proofs.Common.{◌≡◌, ℕ, ◌-◌, ◌≤◌, List, [], ◌∷◌, ◌++◌, length, take, drop, zero, suc, refl, sym, ap}
use Rattle.std.proofs.Common.{◌∙◌, arith, append_assoc, take-append-drop, length-take, length-append}
use Rattle.std.proofs.lemmas.List.{take-append-le, take_all}
use Rattle.gu_base.specs.House.{House}
use Rattle.gu_base.specs.Runs.{IsRunFrom}
use Rattle.gu_base.specs.declared.entry.Entry.{Entry}

-- a front and what stands behind it, up to a place
pub take_between : (xs : List Entry) (a b : ℕ) → a ≤ b → take a xs ++ take (b - a) (drop a xs) ≡ take b xs
take_between xs zero b le = ap (λ (k : ℕ). take k xs) (omega arith)
take_between [] (suc a) zero le = absurd (omega (arith, le))
take_between [] (suc a) (suc b) le = nothing (suc b - suc a)
  where
    nothing : (k : ℕ) → take {A = Entry} k [] ≡ []
    nothing zero = refl
    nothing (suc k) = refl
take_between (x ∷ xs) (suc a) zero le = absurd (omega (arith, le))
take_between (x ∷ xs) (suc a) (suc b) le =
    let e : suc b - suc a ≡ b - a = omega arith in
    rw e (ap (λ (t : List Entry). x ∷ t) (take_between xs a b (omega (arith, le))))

-- the whole, from a place on
whole_is : (xs : List Entry) (a k : ℕ)
    → xs ≡ (take a xs ++ take k (drop a xs)) ++ drop k (drop a xs)
whole_is xs a k =
    sym (append_assoc (take a xs) (take k (drop a xs)) (drop k (drop a xs))
    ∙ ap (λ (l : List Entry). take a xs ++ l) (take-append-drop k (drop a xs)) ∙ take-append-drop a xs)

pub run_between : (t : House) (o h : List Entry) (a b : ℕ) → IsRunFrom t o h → length o ≤ a → a ≤ length h
    → IsRunFrom t (take a h) (take a h ++ take (b - a) (drop a h))
run_between t o h a b run low high = record {
  begins = (take (b - a) (drop a h), refl);
  accepted = λ before after e is later.
      run.accepted before (after ++ drop (b - a) (drop a h)) e
      (whole_is h a (b - a) ∙ ap (λ (l : List Entry). l ++ drop (b - a) (drop a h)) is
      ∙ append_assoc before (e ∷ after) (drop (b - a) (drop a h)))
      (omega (arith, low, high, later, length-take a h));
}

-- a run begins with its opening
pub begins_with : (t : House) (o h : List Entry) → IsRunFrom t o h → (length o ≤ length h) × (take (length o) h ≡ o)
begins_with t o h run =
    let rest = run.begins.0 in
    let is : h ≡ o ++ rest = run.begins.1 in (
      omega (arith, ap length is, length-append o rest),
      ap (take (length o)) is ∙ take-append-le (length o) o rest (omega arith) ∙ take_all (length o) o (omega arith),
    )

-- all of it
pub take_whole : (xs : List Entry) (n : ℕ) → length xs ≤ n → take n xs ≡ xs
take_whole xs n le = take_all n xs le
