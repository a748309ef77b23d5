-- An entry whose role wasn't met yet.
use Rattle.std.proofs.Common.{◌≡◌, ◌≤◌, ◌+◌, inl, inr, ℕ, true, false, List, [], ◌∷◌, length, arith, refl, sym}
use Rattle.std.specs.Prelude.{◌==◌, Option, Some, None}
use Rattle.std.proofs.lemmas.Bool.{cases_Bool, eq-eqb}
use Rattle.gu_codec.specs.Fields.{fields_before}
use Rattle.gu_message.specs.Finding.{entries, behind}

-- the entry of this party, if there is one, whose fields begin these, and those behind it
abbrev pub entries_with : ℕ → Option (List ℕ) → List (ℕ × List ℕ) → List (List ℕ × List (ℕ × List ℕ))
entries_with tag None fs = entries tag fs
entries_with tag (Some party) fs = (party, fields_before tag fs) ∷ entries tag fs

pub entry_of : (tag : ℕ) (f : ℕ × List ℕ) (fs : List (ℕ × List ℕ)) → (f.0 == tag) ≡ true
    → length (entries tag (f ∷ fs)) ≡ 1 + length (entries tag fs)
entry_of tag f fs e = rw e (omega arith)

pub no_entry : (tag : ℕ) (f : ℕ × List ℕ) (fs : List (ℕ × List ℕ)) → (f.0 == tag) ≡ false
    → length (entries tag (f ∷ fs)) ≡ length (entries tag fs)
no_entry tag f fs e = rw e refl

one_or_none : (tag : ℕ) (f : ℕ × List ℕ) (fs : List (ℕ × List ℕ))
    → length (entries tag fs) ≤ length (entries tag (f ∷ fs))
one_or_none tag f fs = elim (cases_Bool (f.0 == tag)) [
  | inl same ↦ omega (arith, entry_of tag f fs same)
  | inr other ↦ omega (arith, no_entry tag f fs other)
]

-- there are no more behind a field than there are at all
behind_le : (tag first : ℕ) (fs : List (ℕ × List ℕ)) → length (entries tag (behind first fs)) ≤ length (entries tag fs)
behind_le tag first [] = omega arith
behind_le tag first (f ∷ fs) = elim (cases_Bool (f.0 == first)) [
  | inl same ↦ rw same (one_or_none tag f fs)
  | inr other ↦ rw other (let rest = behind_le tag first fs in omega (arith, rest, one_or_none tag f fs))
]

-- one at most, and one behind a field: so it is the one
pub lone_entry : (tag first : ℕ) (fs : List (ℕ × List ℕ)) → length (entries tag fs) ≤ 1
    → 1 ≤ length (entries tag (behind first fs)) → true ≡ (length (entries tag (behind first fs)) == 1)
lone_entry tag first fs most least =
    sym (eq-eqb (length (entries tag (behind first fs))) 1 (omega (arith, most, least, behind_le tag first fs)))
