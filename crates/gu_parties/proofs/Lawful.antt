-- The agreements of a table stay ones that calls could make.
use Rattle.std.proofs.Common.{◌≡◌, ◌∙◌, ℕ, Bool, true, false, ◌&&◌, ◌||◌, not, List, [], ◌∷◌, ◌++◌, refl, sym, ap}
use Rattle.std.proofs.Common.{subst, is_some}
use Rattle.std.specs.Prelude.{IsTrue, if◌then◌else◌, bytes_eq, nat_le, is_none}
use Rattle.std.specs.Bool.{Decides}
use Rattle.std.specs.List.{list_any, list_all, IsDistinct}
use Rattle.std.specs.Map.{lookup, keys_of}
use Rattle.std.proofs.lemmas.Bool.{and_parts}
use Rattle.std.proofs.lemmas.Slice.Eq.{bytes_eq-Decides}
use Rattle.std.proofs.lemmas.List.Folds.{list_any-append}
use Rattle.std.proofs.lemmas.Map.Keys.{IsDistinct-push}
use Rattle.std.proofs.lemmas.Map.Made.{is_some-lookup}
use Rattle.indexmap.specs.IndexSet.{insert_key}
use Rattle.gu_base.specs.SamePartsLaws.{bytes_same, decides_from, equivalence_from}
use Rattle.gu_base.specs.declared.house.Pair.{Pair}
use Rattle.gu_base.specs.declared.house.Agreement.{Agreement}
use Rattle.gu_base.specs.House.{House, knows_firm, agreement, same_pair, can_be_made, HasLawfulOpening}
use Rattle.gu_base.specs.Numbers.{are_terms}
use Rattle.gu_base.specs.Limits.{highest_rate, highest_limit}
use Rattle.gu_parties.specs.Table.{opened}
use Rattle.gu_parties.specs.Kept.{HasLawfulAgreements}
use Rattle.gu_parties.specs.Terms.{is_in_range, are_in_range}

-- a table that knows as many firms, with the same agreements
pub record Grows (t u : House) : Type 0 where
  pub firms : (firm : List ℕ) → knows_firm t firm ≡ true → knows_firm u firm ≡ true
  pub agreements : u.agreements ≡ t.agreements
  pub opening : u.opening ≡ t.opening

made_still : (known known_taker known_new known_taker_new other terms free : Bool) → (known ≡ true → known_new ≡ true)
    → (known_taker ≡ true → known_taker_new ≡ true) → IsTrue (known && known_taker && other && terms && free)
    → IsTrue (known_new && known_taker_new && other && terms && free)
made_still true true a b other terms free h k all = rw (h refl, k refl) all
made_still true false a b other terms free h k all = absurd cc
made_still false c a b other terms free h k all = absurd cc

all_still : (t u : House) → Grows t u → (es : List (Pair × Agreement)) → IsTrue (list_all (can_be_made t) es)
    → IsTrue (list_all (can_be_made u) es)
all_still t u g [] h = refl
all_still t u g (e ∷ es) h =
    let parts = and_parts (can_be_made t e) (list_all (can_be_made t) es) h in
    let here : IsTrue (can_be_made u e) =
    rw g.agreements
    (made_still (knows_firm t e.0.giver) (knows_firm t e.0.taker) (knows_firm u e.0.giver) (knows_firm u e.0.taker)
    (not (bytes_eq e.0.giver e.0.taker)) (are_terms e.1.rate e.1.limit) (is_none (agreement t e.0.giver e.0.taker))
    (g.firms e.0.giver) (g.firms e.0.taker) parts.0) in
    rw here (all_still t u g es parts.1)

opening_still : (t u : House) → Grows t u → HasLawfulOpening t → HasLawfulOpening u
opening_still t u g h = record {
  lawful = rw g.opening (all_still t u g t.opening h.lawful);
  distinct = rw g.opening h.distinct;
}

pub lawful_still : (t u : House) → Grows t u → HasLawfulAgreements t → HasLawfulAgreements u
lawful_still t u g h = record {
  fixed = opening_still (opened t) (opened u) (record { firms = g.firms; agreements = refl; opening = g.agreements })
      h.fixed;
  made = opening_still t u g h.made;
}

known_same : (t u : House) → u.house ≡ t.house → u.firms ≡ t.firms → (firm : List ℕ) → knows_firm t firm ≡ true
    → knows_firm u firm ≡ true
known_same t u house firms firm known = rw (house, firms) known

-- one firm more
pub with_firm : (t : House) (firm : List ℕ) → Grows t (record t { firms = insert_key bytes_eq t.firms firm })
with_firm t firm = record {
  firms = λ other known. known_more (bytes_eq t.house other) (list_any (bytes_eq firm) t.firms) other known;
  agreements = refl;
  opening = refl;
}
  where
    either : (house before new : Bool) → (house || before) ≡ true → (house || (before || (new || false))) ≡ true
    either true before new h = refl
    either false true new h = refl
    either false false new h = cc

    known_more : (house : Bool) (there : Bool) (other : List ℕ) → (house || list_any (bytes_eq other) t.firms) ≡ true
        → (house || list_any (bytes_eq other) (if there then t.firms else t.firms ++ firm ∷ [])) ≡ true
    known_more house true other known = known
    known_more house false other known =
        rw (list_any-append (bytes_eq other) t.firms (firm ∷ []))
        (either house (list_any (bytes_eq other) t.firms) (bytes_eq other firm) known)

-- no agreements
pub none_lawful : (t : House) → t.opening ≡ [] → HasLawfulOpening t
unfolding IsDistinct
none_lawful t none =
    record { lawful = rw none refl; distinct = subst (λ es. IsDistinct same_pair (keys_of es)) (sym none) tt }

pub bare_lawful : (t : House) → t.agreements ≡ [] → t.opening ≡ [] → HasLawfulAgreements t
bare_lawful t fixed made = record { fixed = none_lawful (opened t) fixed; made = none_lawful t made }

-- those that were fixed in the opening
pub opened_lawful : (t : House) → HasLawfulAgreements t → HasLawfulAgreements (opened t)
opened_lawful t h = record { fixed = none_lawful (opened (opened t)) refl; made = h.fixed }

same_pair-Decides : (p q : Pair) → Decides (same_pair p q) (p ≡ q)
same_pair-Decides p q =
    decides_from same_pair p q (λ h.
    let k = and_parts _ _ h in
    let g : p.giver ≡ q.giver = (bytes_eq-Decides _ _).0 k.0 in
    let t : p.taker ≡ q.taker = (bytes_eq-Decides _ _).0 k.1 in
    λ i. record { giver = g i; taker = t i })
    (rw (bytes_same p.giver, bytes_same p.taker) refl)

all_more : (t : House) (es : List (Pair × Agreement)) (e : Pair × Agreement) → IsTrue (list_all (can_be_made t) es)
    → IsTrue (can_be_made t e) → IsTrue (list_all (can_be_made t) (es ++ e ∷ []))
all_more t [] e h k = rw k refl
all_more t (x ∷ es) e h k =
    let here = and_parts (can_be_made t x) (list_all (can_be_made t) es) h in rw here.0 (all_more t es e here.1 k)

keys_more : (es : List (Pair × Agreement)) (e : Pair × Agreement) → keys_of (es ++ e ∷ []) ≡ keys_of es ++ e.0 ∷ []
keys_more [] e = refl
keys_more (x ∷ es) e = ap (λ (ks : List Pair). x.0 ∷ ks) (keys_more es e)

-- one agreement more, of a pair that has none
pub with_agreement : (t : House) (e : Pair × Agreement) → t.opening ≡ [] → IsTrue (can_be_made (opened t) e)
    → is_some (lookup (same_pair e.0) t.agreements) ≡ false → HasLawfulAgreements t
    → HasLawfulAgreements (record t { agreements = t.agreements ++ e ∷ [] })
with_agreement t e none can absent h = record {
  fixed = record {
    lawful = all_more (opened t) t.agreements e h.fixed.lawful can;
    distinct = subst (IsDistinct same_pair) (sym (keys_more t.agreements e))
        (IsDistinct-push (equivalence_from same_pair same_pair-Decides) (keys_of t.agreements) e.0 h.fixed.distinct
        (sym (is_some-lookup (same_pair e.0) t.agreements) ∙ absent));
  };
  made = none_lawful _ none;
}

-- the terms that are fixed are in range
range_of : (known taker other rate limit free : Bool) → IsTrue (known && taker && other && (rate && limit) && free)
    → IsTrue (rate && limit)
range_of known taker other rate limit free h =
    (and_parts (known && taker && other) (rate && limit)
    (and_parts (known && taker && other && (rate && limit)) free h).0).1

all_in_range : (t : House) (es : List (Pair × Agreement)) → IsTrue (list_all (can_be_made t) es)
    → IsTrue (are_in_range es)
all_in_range t [] h = refl
all_in_range t (e ∷ es) h =
    let parts = and_parts (can_be_made t e) (list_all (can_be_made t) es) h in
    let here : IsTrue (is_in_range e.1) = range_of (knows_firm t e.0.giver) (knows_firm t e.0.taker)
    (not (bytes_eq e.0.giver e.0.taker)) (nat_le e.1.rate highest_rate) (nat_le e.1.limit highest_limit) _ parts.0 in
    rw here (all_in_range t es parts.1)

pub fixed_in_range : (t : House) → HasLawfulAgreements t → IsTrue (are_in_range t.agreements)
fixed_in_range t h = all_in_range (opened t) t.agreements h.fixed.lawful

pub can_make : (t : House) (giver taker : List ℕ) (a : Agreement) → knows_firm t giver ≡ true
    → knows_firm t taker ≡ true → bytes_eq giver taker ≡ false → IsTrue (is_in_range a)
    → IsTrue (can_be_made (opened t) (record { giver = giver; taker = taker }, a))
can_make t giver taker a g k other range =
    let parts = and_parts (nat_le a.rate highest_rate) (nat_le a.limit highest_limit) range in
    rw (g, k, other, parts.0, parts.1) refl

-- a copy, before and behind the agreements of the opening
pub copied_fixed : (t u : House) → HasLawfulAgreements t → u.house ≡ t.house → u.firms ≡ t.firms
    → u.agreements ≡ t.agreements → u.opening ≡ [] → HasLawfulAgreements u
copied_fixed t u h house firms agreements none = record {
  fixed = opening_still (opened t) (opened u)
      (record { firms = known_same t u house firms; agreements = refl; opening = agreements }) h.fixed;
  made = none_lawful u none;
}

pub copied_all : (t u : House) → HasLawfulAgreements t → u.house ≡ t.house → u.firms ≡ t.firms
    → u.agreements ≡ t.agreements → u.opening ≡ t.opening → HasLawfulAgreements u
copied_all t u h house firms agreements opening =
    lawful_still t u (record { firms = known_same t u house firms; agreements = agreements; opening = opening }) h
