-- Runs that go on from one another.
use Rattle.std.proofs.Common.{◌≡◌, ◌≤◌, ◌⊎◌, inl, inr, List, [], ◌∷◌, ◌++◌, length, refl, sym, ap, ◌∙◌, arith, ⊎_elim}
use Rattle.std.proofs.Common.{length-append, append_assoc}
use Rattle.gu_base.specs.House.{House}
use Rattle.gu_base.specs.Runs.{IsRunFrom}
use Rattle.gu_base.specs.declared.entry.Entry.{Entry}
use Rattle.gu_desk.specs.Begins.{BeginsWith}

-- a run from an opening is one from a later beginning of it too
pub run_later : (t : House) (o h es : List Entry) → BeginsWith h o → IsRunFrom t o (h ++ es) → IsRunFrom t h (h ++ es)
run_later t o h es longer run = record {
  begins = (es, refl);
  accepted = λ before rest e same long.
      let n = ap (λ (l : List Entry). length l) longer.is in
      let m = length-append o longer.rest in run.accepted before rest e same (omega (arith, n, m, long));
}

-- where two lists in one are cut before an entry: behind the first, or within it
cut : (h more before rest : List Entry) (e : Entry) → h ++ more ≡ before ++ e ∷ rest
    → (length h ≤ length before) ⊎ ((others : List Entry) × (h ≡ before ++ e ∷ others))
cut [] more before rest e same = inl (omega arith)
cut (x ∷ h) more [] rest e same = inr (h, (let first : x ≡ e = cc in ap (λ (y : Entry). y ∷ h) first))
cut (x ∷ h) more (b ∷ bs) rest e same =
    let first : x ≡ b = cc in
    let others : h ++ more ≡ bs ++ e ∷ rest = cc in
    ⊎_elim (λ (n : length h ≤ length bs). inl (omega (arith, n)))
    (λ (p : (l : List Entry) × (h ≡ bs ++ e ∷ l)).
    inr (p.0, ap (λ (y : Entry). y ∷ h) first ∙ ap (λ (l : List Entry). b ∷ l) p.1))
    (cut h more bs rest e others)

-- a run of a run is a run
pub run_on : (t : House) (o h x : List Entry) → IsRunFrom t o h → IsRunFrom t h x → IsRunFrom t o x
run_on t o h x first second = record {
  begins = (
    first.begins.0 ++ second.begins.0,
    second.begins.1 ∙ ap (λ (l : List Entry). l ++ second.begins.0) first.begins.1
        ∙ append_assoc o first.begins.0 second.begins.0,
  );
  accepted = λ before rest e same long.
      ⊎_elim
      (λ (n : length h ≤ length before). second.accepted before rest e same n)
      (λ (p : (l : List Entry) × (h ≡ before ++ e ∷ l)). first.accepted before p.0 e p.1 long)
      (cut h second.begins.0 before rest e (sym second.begins.1 ∙ same));
}
