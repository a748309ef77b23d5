-- How many parts a history has, with one more entry.
use Rattle.gu_book.proofs
use Rattle.gu_book.specs
use proofs.{Keeps.lawful, Refused.accepted_small}
use proofs.Vocabulary.{ap, arith, Command, Consents, Entry, House, is_change, IsWithinLimits, length, List, live}
use proofs.Vocabulary.{refl, Reverse, Split, true, [], ℕ, ◌++◌, ◌+◌, ◌∷◌, ◌≡◌, ◌≤◌}
use Rattle.gu_depend.proofs.Vocabulary.{Accepted, answer_to, call_of, is_consenting}
use Rattle.std.proofs.{Common.length-append, lemmas.List.Sums.{sum_by-append, sum_by-cons}}
use specs.{Kept.IsKept, Parts.{ArePartsOf, parts_kept}, Visits.parts_in}

pub parts_none : ArePartsOf [] 0
parts_none = record { value = refl; few = omega arith }

-- those of an entry stand beside the others
parts_push : (h : List Entry) (e : Entry) → parts_kept (h ++ e ∷ []) ≡ parts_kept h + parts_in e.command
parts_push h e =
    omega (
      arith,
      sum_by-append (λ (x : Entry). parts_in x.command) h (e ∷ []),
      sum_by-cons (λ (x : Entry). parts_in x.command) e [],
    )

-- with an entry of so many parts, at most 100
parts_next : (h : List Entry) (e : Entry) (n p : ℕ) → ArePartsOf h n → p ≡ parts_in e.command → p ≤ 100
    → ArePartsOf (h ++ e ∷ []) (n + p)
parts_next h e n p are is few = record {
  value = omega (arith, are.value, parts_push h e, is);
  few = omega (arith, are.few, length-append h (e ∷ []), few);
}

few_within : (c : Command) → IsWithinLimits c → parts_in c ≤ 100
few_within (Split n ps) within = within.few
few_within _ within = omega arith

-- an accepted change
pub parts_more : {t : House} {h : List Entry} {cs : Consents} (kept : IsKept t h cs) (m : ℕ) (e : Entry)
    → answer_to t h (call_of e) ≡ Accepted m e.status → is_change e.command ≡ true → (n p : ℕ) → ArePartsOf h n
    → p ≡ parts_in e.command → ArePartsOf (h ++ e ∷ []) (n + p)
parts_more {t} {h} kept m e ok change n p are is =
    let small = few_within e.command (accepted_small t (live h) e.firm e.command (lawful kept m e ok change)) in
    parts_next h e n p are is (omega (arith, is, small))

-- an entry without parts
pub parts_same : (h : List Entry) (e : Entry) (n : ℕ) → ArePartsOf h n → parts_in e.command ≡ 0
    → ArePartsOf (h ++ e ∷ []) n
parts_same h e n are none = record {
  value = omega (arith, are.value, parts_push h e, none);
  few = omega (arith, are.few, length-append h (e ∷ []));
}

-- a consent has none
pub none_of_consent : (c : Command) → is_consenting c ≡ true → parts_in c ≡ 0
none_of_consent (Split n ps) is = absurd (cc)
none_of_consent _ is = refl

-- nor has a Reverse
pub none_of_reverse : (c : Command) (k : ℕ) → c ≡ Reverse k → parts_in c ≡ 0
none_of_reverse c k is = ap parts_in is
