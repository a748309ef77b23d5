-- A history that is made again behind the opening of another house.
use Rattle.std.proofs.Common.{◌≡◌, ◌≤◌, ℕ, zero, suc, List, [], ◌∷◌, ◌++◌, length, drop, refl, sym, ◌∙◌, ap, arith, ◌+◌}
use Rattle.std.specs.Prelude.{Some, slice_get}
use Rattle.gu_base.specs.House.{House, HasLawfulOpening}
use Rattle.gu_base.specs.Limits.{most_entries}
use Rattle.gu_base.specs.Runs.{opening_history, IsRunFrom}
use Rattle.gu_base.specs.declared.entry.Entry.{Entry}
use Rattle.gu_lives.specs.Extends.{Extends}
use Rattle.gu_roll.specs.Reopened.{begun_under}
use Rattle.gu_roll.proofs.Carry.{opening_long}

-- behind a list stands what it was put before
drop_front : {A : Type 0} (xs ys : List A) (n : ℕ) → length xs ≡ n → drop n (xs ++ ys) ≡ ys
drop_front [] ys zero is = refl
drop_front [] ys (suc n) is = absurd (cc)
drop_front (x ∷ xs) ys zero is = absurd (cc)
drop_front (x ∷ xs) ys (suc n) is = drop_front xs ys n (omega (arith, is))

-- from a place on stands what is read there, and what is behind it
pub drop_at : (xs : List Entry) (i : ℕ) (x : Entry) → slice_get xs i ≡ Some x → drop i xs ≡ x ∷ drop (i + 1) xs
drop_at [] i x is = absurd (cc)
drop_at (y ∷ xs) zero x is = let same : y ≡ x = cc in λ k. same k ∷ xs
drop_at (y ∷ xs) (suc i) x is =
    let e : suc (i + 1) ≡ suc i + 1 = omega arith in
    drop_at xs i x is ∙ ap (λ (k : ℕ). x ∷ drop k (y ∷ xs)) e

-- a run from the opening is the opening, and behind it what stands behind as many entries
pub is_begun_under : (t u : House) (h : List Entry) → Extends t u → opening_history u ≡ opening_history t
    → HasLawfulOpening t → length t.opening ≤ most_entries → IsRunFrom u (opening_history u) h
    → h ≡ begun_under u h
is_begun_under t u h ext same lawful small run =
    let o = opening_history u in
    let rest = run.begins.0 in
    let long : length o ≡ length u.opening =
    ap length same ∙ opening_long t lawful small ∙ ap length (sym ext.opening) in
    run.begins.1
    ∙ ap (λ k. o ++ k)
    (sym (ap (drop (length u.opening)) run.begins.1 ∙ drop_front o rest (length u.opening) long))

-- a run from nothing that begins with the opening is one from there
pub run_begun : (u : House) (h rest : List Entry) → IsRunFrom u [] h → h ≡ opening_history u ++ rest
    → IsRunFrom u (opening_history u) h
run_begun u h rest run is = record {
  begins = (rest, is);
  accepted = λ before after e cut low. run.accepted before after e cut (omega arith);
}
