-- A table that lacks nothing beside the opening has more.
use Rattle.std.proofs.Common.{◌≡◌, ℕ, ◌+◌, Bool, true, false, List, [], ◌∷◌, Option, Some, None, refl, ◌∙◌, ap, cond}
use Rattle.std.proofs.lemmas.Bool.{and_parts}
use Rattle.std.proofs.lemmas.Bool.Decides.{Decides-eqb}
use Rattle.std.proofs.lemmas.Slice.Eq.{bytes_eq-Decides}
use Rattle.std.specs.Prelude.{option_map}
use Rattle.gu_base.specs.House.{House}
use Rattle.gu_base.specs.SamePartsLaws.{bytes_same, number_same}
use Rattle.gu_base.specs.declared.house.Pair.{Pair}
use Rattle.gu_base.specs.declared.house.Agreement.{Agreement}
use Rattle.gu_lives.specs.Extends.{Extends, HasMore, extends, same_made}
use Rattle.gu_roll.specs.Lack.{first, first_apart, house_lack, lack_of, line_lacks, other_lack_of}
use Rattle.gu_roll.specs.declared.lack.Lack.{Lack}
use Rattle.gu_roll.specs.declared.lack.Lack.TheVariants.{OtherOpening}
use Rattle.gu_roll.proofs.Lacking.{lacks_none}

-- the first table with the opening of the second
abbrev pub reopened : House → House → House
reopened t u = record t { opening = u.opening }

line_same : (x : Pair × Agreement) → same_made x x ≡ true
line_same x =
    rw (bytes_same x.0.giver, bytes_same x.0.taker, number_same x.1.rate, number_same x.1.limit) refl

none_apart : (n : ℕ) (us : List (Pair × Agreement)) → first_apart n us us ≡ None
none_apart n [] = refl
none_apart n (u ∷ us) = rw (line_same u) (none_apart (n + 1) us)

passed_over : (o : Option Lack) (rest : List (Option Lack)) → first (o ∷ None ∷ rest) ≡ first (o ∷ rest)
passed_over None rest = refl
passed_over (Some lack) rest = refl

reopened_lack : (t u : House) → lack_of (reopened t u) u ≡ other_lack_of t u
reopened_lack t u =
    ap (λ (o : Option Lack). first (house_lack t u ∷ o ∷ line_lacks t u))
    (ap (option_map OtherOpening) (none_apart 1 u.opening))
    ∙ passed_over (house_lack t u) (line_lacks t u)

pub has_more : (t u : House) → (extends (reopened t u) u ≡ true → Extends (reopened t u) u)
    → other_lack_of t u ≡ None → HasMore t u
has_more t u test none =
    let more = (test (lacks_none (reopened t u) u (reopened_lack t u ∙ none))).more in
    record {
      house = more.house;
      firms = more.firms;
      accounts = more.accounts;
      instruments = more.instruments;
      terms = more.terms;
    }

-- two openings that are nowhere apart are the same
same_line : (x y : Pair × Agreement) → same_made x y ≡ true → x ≡ y
same_line x y is =
    let parts = and_parts _ _ is in
    let pair = and_parts _ _ parts.0 in
    let terms = and_parts _ _ parts.1 in
    let g = (bytes_eq-Decides x.0.giver y.0.giver).0 pair.0 in
    let k = (bytes_eq-Decides x.0.taker y.0.taker).0 pair.1 in
    let r = (Decides-eqb x.1.rate y.1.rate).0 terms.0 in
    let l = (Decides-eqb x.1.limit y.1.limit).0 terms.1 in
    λ i. (record { giver = g i; taker = k i }, record { rate = r i; limit = l i })

pub none_apart_same : (n : ℕ) (us ts : List (Pair × Agreement)) → first_apart n us ts ≡ None → us ≡ ts
none_apart_same n [] [] none = refl
none_apart_same n [] (t ∷ ts) none = absurd (cc)
none_apart_same n (u ∷ us) [] none = absurd (cc)
none_apart_same n (u ∷ us) (t ∷ ts) none =
    here (same_made u t) refl none (λ later. none_apart_same (n + 1) us ts later)
  where
    here : (b : Bool) → same_made u t ≡ b → cond b (first_apart (n + 1) us ts) (Some n) ≡ None
        → (first_apart (n + 1) us ts ≡ None → us ≡ ts) → u ∷ us ≡ t ∷ ts
    here true same later behind =
        let x = same_line u t same in
        let rest = behind later in
        λ i. x i ∷ rest i
    here false same later behind = absurd (cc)
