-- The terms that a book keeps: what they say of a giver and a taker, and how they follow the changes.
use Rattle.gu_book.proofs.Vocabulary
use Rattle.gu_depend.proofs
use proofs.{Deals.{both_same, dealt, numbered}, LastMoves.deals_there, TermsFollow.without_row}
use proofs.Vocabulary.{Agree, Agreement, Charge, charge_of_kind, charges, Claim, counted, Dealing, dealings}
use proofs.Vocabulary.{dealings_in, Deed, deed_of, Given, highest_rate, Kind, limit_of, Makes, most_lots, or_none}
use proofs.Vocabulary.{Raise, raised_under, Raises, terms_of, use_of_kind, use_of_node, used_of, used_under, Uses}
use Rattle.gu_base.proofs.{Dealt.all_sound, Sums.sum_option}
use Rattle.gu_base.specs.{Limits.highest_limit, Terms.{made_by_deed, made_in, raised_by_deed, used_by_deed}}
use Rattle.gu_book.proofs.{Charging.{fewer_given, sum_most}, Leaves.cond_same, Within.node_within}
use Rattle.gu_book.proofs.Takings.{IsSmallDeed}
use Rattle.gu_fees.specs.{Rows.{FeeRows, used_in}, Terms.{row_of, TermsView}}
use Vocabulary.{agreement, All, All-cons, All-contains_itself}
use Vocabulary.{All-head, All-nil, All-tail, All-weaker, AllWithinLimits, ap, AreFeesOf, AreTermsOf, arith}
use Vocabulary.{Bool, bytes_eq, charge_of, Command, cond, Contains, facts, false, filter, filter_map, first_refused}
use Vocabulary.{House, IfSome, IsWithinLimits, length, List, Node, None, Option, option_and_then, option_map}
use Vocabulary.{option_or, Record, refl, Some, sum_by, sum_by-cons, true, [], ℕ, ◌&&◌, ◌*◌, ◌+◌, ◌∙◌, ◌∷◌, ◌≡◌, ◌≤◌}

-- ---- what is kept of a giver and a taker

module _ {t : House} {l : List Record} {v : TermsView} (are : AreTermsOf t l v) (g k : List ℕ) where
  file_limit : (o : Option Agreement)
      → option_map (λ (a : Agreement). a.limit) o ≡ option_map (λ (a : Agreement). a.limit + 0) (option_or o None)
  file_limit None = refl
  file_limit (Some a) = ap (λ n. Some n) (omega arith)

  -- and where there is none, the house table does
  pub filed_terms : row_of v g k ≡ None → agreement t g k ≡ terms_of t l g k
  filed_terms none = cc (or_none _, without_row t l v are g k none)

  pub filed_limit : row_of v g k ≡ None → option_map (λ (a : Agreement). a.limit) (agreement t g k) ≡ limit_of t l g k
  filed_limit none = cc (file_limit _, without_row t l v are g k none)

  pub filed_used : row_of v g k ≡ None → 0 ≡ used_of l g k
  filed_used none = cc (without_row t l v are g k none)

-- ---- what the charges say of uses

abbrev used_told : Option Deed → ℕ
used_told None = 0
used_told (Some d) = used_by_deed d

abbrev of_pair : List ℕ → List ℕ → Charge → Bool
of_pair g k c = bytes_eq c.giver g && bytes_eq c.taker k

-- a change costs as many lots as it uses
abbrev UsesCharged : House → List Record → List ℕ → List ℕ → Record → Type 0
UsesCharged t l g k r =
    counted (of_pair g k) (λ c. c.lots) (charge_of t l r.command) ≡ used_told (deed_of l g k r.firm r.command)

used_cons : (r : Record) (o : Option Deed) (ds : List Dealing) → used_under (dealt r o ds) ≡ used_told o + used_under ds
used_cons r None ds = omega arith
used_cons r (Some d) ds = sum_by-cons (λ d. used_by_deed d.deed) (numbered r d) ds

uses_in : (t : House) (l : List Record) (g k : List ℕ) (among : List Record) → All (UsesCharged t l g k) among
    → sum_by (λ c. c.lots) (filter (of_pair g k) (filter_map (λ r. charge_of t l r.command) among))
    ≡ used_under (dealings_in l among g k)
uses_in t l g k [] each = refl
uses_in t l g k (r ∷ among) each =
    omega (
      arith,
      sum_option (of_pair g k) (λ (c : Charge). c.lots) (charge_of t l r.command)
          (filter_map (λ r. charge_of t l r.command) among),
      used_cons r (deed_of l g k r.firm r.command)
          (dealings_in l among g k),
      All-head (UsesCharged t l g k) r among each,
      uses_in t l g k among (All-tail (UsesCharged t l g k) r among each),
    )

told_if : (b : Bool) (d : Deed) → cond b (used_by_deed d) 0 ≡ used_told (cond b (Some d) None)
told_if true d = refl
told_if false d = refl

module _ (t : House) (l : List Record) (none : first_refused t [] l ≡ None) where
  -- whoever deals has terms
  has_terms : (g k : List ℕ) (r : Record) (d : Deed) → Contains l r → deed_of l g k r.firm r.command ≡ Some d
      → terms_of t l g k ≡ None → ⊥
  has_terms g k r d there deals absent =
      deals_there l r there g k d deals ((all_sound _ _ ((facts t l none).deals g k)).none absent)

  given_charged : (g k x y : List ℕ) (lots : ℕ) (o : Option Agreement) → (o ≡ None → ⊥)
      → counted (of_pair g k) (λ c. c.lots)
      (option_map (λ (a : Agreement). record { giver = x; taker = y; lots = lots; rate = a.rate }) o)
      ≡ used_told (cond (bytes_eq x g && bytes_eq y k) (Some (Uses lots)) None)
  given_charged g k x y lots None some = absurd (some refl)
  given_charged g k x y lots (Some a) some = told_if (bytes_eq x g && bytes_eq y k) (Uses lots)

  kind_charged : (g k : List ℕ) (lots : ℕ) (kind : Kind)
      → ((x y : List ℕ) (d : Deed) → use_of_kind x y lots kind ≡ Some d → terms_of t l x y ≡ None → ⊥)
      → counted (of_pair g k) (λ c. c.lots) (charge_of_kind t l lots kind) ≡ used_told (use_of_kind g k lots kind)
  kind_charged g k lots (Given m x y) some = given_charged g k x y lots _ (some x y (Uses lots) (cc (both_same x y)))
  kind_charged g k lots _ some = refl

  claim_charged : (g k : List ℕ) (o : Option Node)
      → ((x y : List ℕ) (d : Deed) → option_and_then (use_of_node x y) o ≡ Some d → terms_of t l x y ≡ None → ⊥)
      → counted (of_pair g k) (λ c. c.lots) (option_and_then (λ (x : Node). charge_of_kind t l x.lots x.kind) o)
      ≡ used_told (option_and_then (use_of_node g k) o)
  claim_charged g k None some = refl
  claim_charged g k (Some x) some = kind_charged g k x.lots x.kind some

  change_charged : (g k by : List ℕ) (c : Command)
      → ((x y : List ℕ) (d : Deed) → deed_of l x y by c ≡ Some d → terms_of t l x y ≡ None → ⊥)
      → counted (of_pair g k) (λ c. c.lots) (charge_of t l c) ≡ used_told (deed_of l g k by c)
  change_charged g k by (Claim n _) some = claim_charged g k _ some
  change_charged g k by (Agree x y rate limit) some =
      let b = bytes_eq x g && bytes_eq y k in cond_same 0 b ∙ told_if b (Makes (record { rate = rate; limit = limit }))
  change_charged g k by (Raise x lots) some =
      let b = bytes_eq x g && bytes_eq by k in cond_same 0 b ∙ told_if b (Raises lots)
  change_charged g k by _ some = refl

  -- the lots that are charged under an agreement are those that are used of it
  pub uses_charged : (g k : List ℕ)
      → sum_by (λ c. c.lots) (filter (of_pair g k) (charges t l)) ≡ used_of l g k
  uses_charged g k =
      uses_in t l g k l
      (All-weaker (Contains l) (UsesCharged t l g k)
      (λ r there. change_charged g k r.firm r.command (λ x y d deals. has_terms x y r d there deals)) l
      (All-contains_itself l))

  pub uses_are : (fees : FeeRows) → AreFeesOf t l fees → (g k : List ℕ) → used_in fees g k ≡ used_of l g k
  uses_are fees are g k = are.sums.used g k ∙ uses_charged g k

-- ---- small dealings

small_if : (b : Bool) (d : Deed) → IsSmallDeed d → IfSome (cond b (Some d) None) IsSmallDeed
small_if true d small = small
small_if false d small = tt

small_kind : (g k : List ℕ) (lots : ℕ) (kind : Kind) → lots ≤ most_lots → IfSome (use_of_kind g k lots kind) IsSmallDeed
small_kind g k lots (Given m x y) small = small_if _ _ small
small_kind g k lots _ small = tt

small_node : (g k : List ℕ) (o : Option Node) → IfSome o (λ x. x.lots ≤ 10000000)
    → IfSome (option_and_then (use_of_node g k) o) IsSmallDeed
small_node g k None small = tt
small_node g k (Some x) small = small_kind g k x.lots x.kind small

pub deed_small : (l : List Record) (g k by : List ℕ) (c : Command) → AllWithinLimits l → IsWithinLimits c
    → IfSome (deed_of l g k by c) IsSmallDeed
deed_small l g k by (Agree x y rate limit) all within = small_if _ _ within
deed_small l g k by (Raise x lots) all within = small_if _ _ within
deed_small l g k by (Claim n _) all within = small_node g k _ (node_within l n all)
deed_small l g k by _ all within = tt

abbrev HasSmallDeed : Dealing → Type 0
HasSmallDeed d = IsSmallDeed d.deed

small_cons : (r : Record) (o : Option Deed) (ds : List Dealing) → IfSome o IsSmallDeed → All HasSmallDeed ds
    → All HasSmallDeed (dealt r o ds)
small_cons r None ds small all = all
small_cons r (Some d) ds small all = All-cons HasSmallDeed (numbered r d) ds small all

small_in : (l : List Record) (g k : List ℕ) → AllWithinLimits l → (among : List Record) → AllWithinLimits among
    → All HasSmallDeed (dealings_in l among g k)
small_in l g k all [] within = All-nil HasSmallDeed
small_in l g k all (r ∷ among) within =
    small_cons r _ _ (deed_small l g k _ _ all (All-head (λ (r : Record). IsWithinLimits r.command) r among within))
    (small_in l g k all among (All-tail (λ (r : Record). IsWithinLimits r.command) r among within))

small_counts : (d : Deed) → IsSmallDeed d → (raised_by_deed d ≤ 10000000000000) × (used_by_deed d ≤ 10000000)
small_counts (Makes a) small = (omega arith, omega arith)
small_counts (Raises lots) small = (small, omega arith)
small_counts (Uses lots) small = (omega arith, small)

-- what the dealings of a list of a million changes at most count, where each counts no more than this
dealt_most : (l : List Record) (g k : List ℕ) → AllWithinLimits l → length l ≤ 1000000 → (counts : Deed → ℕ) (most : ℕ)
    → ((d : Deed) → IsSmallDeed d → counts d ≤ most)
    → sum_by (λ (d : Dealing). counts d.deed) (dealings l g k) ≤ 1000000 * most
dealt_most l g k all few counts most each =
    sum_most _ _ _
    (All-weaker HasSmallDeed (λ (d : Dealing). counts d.deed ≤ most) (λ d. each d.deed) (dealings l g k)
    (small_in l g k all l all)) (omega (arith, fewer_given))

-- what is raised and what is used in such a list
pub raised_most : (l : List Record) (g k : List ℕ) → AllWithinLimits l → length l ≤ 1000000
    → raised_under (dealings l g k) ≤ 10000000000000000000
raised_most l g k all few =
    omega (arith, dealt_most l g k all few raised_by_deed 10000000000000 (λ d small. (small_counts d small).0))

pub used_most : (l : List Record) (g k : List ℕ) → AllWithinLimits l → length l ≤ 1000000
    → used_under (dealings l g k) ≤ 10000000000000
used_most l g k all few =
    omega (arith, dealt_most l g k all few used_by_deed 10000000 (λ d small. (small_counts d small).1))

abbrev HasRate : Agreement → Type 0
HasRate a = a.rate ≤ highest_rate

made_first : (d : Deed) (rest : Option Agreement) → IsSmallDeed d → IfSome rest HasRate
    → IfSome (option_or (made_by_deed d) rest) HasRate
made_first (Makes a) rest small later = small.rate_fits
made_first _ rest small later = later

made_small : (ds : List Dealing) → All HasSmallDeed ds → IfSome (made_in ds) HasRate
made_small [] all = tt
made_small (d ∷ ds) all =
    made_first _ _ (All-head HasSmallDeed d ds all) (made_small ds (All-tail HasSmallDeed d ds all))

file_first : (file made : Option Agreement) → IfSome file (λ a. (a.rate ≤ highest_rate) × (a.limit ≤ highest_limit))
    → IfSome made HasRate → IfSome (option_or file made) HasRate
file_first None made in_range small = small
file_first (Some a) made in_range small = in_range.0

-- the rate of terms is in range, where those of the house table are
pub terms_rate : (t : House) (l : List Record) (g k : List ℕ) → AllWithinLimits l
    → IfSome (agreement t g k) (λ a. (a.rate ≤ highest_rate) × (a.limit ≤ highest_limit)) → (o : Option Agreement)
    → o ≡ terms_of t l g k → IfSome o (λ a. a.rate ≤ highest_rate)
terms_rate t l g k all in_range o e = rw e (file_first _ _ in_range (made_small _ (small_in l g k all l all)))
