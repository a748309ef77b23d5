-- What changes deal under the terms of a giver and a taker, and what holds of the changes of a legal list wherever they
-- stand.
use Rattle.gu_base.proofs
use Rattle.gu_base.specs
use Rattle.gu_depend.proofs.Grown
use Rattle.gu_depend.proofs.Vocabulary
use Grown.{at_name, Follows, Grown, grown_none, grown_push, line_of_grown, place_same, ThereFor, Within}
use proofs.{Accepted.unless_none, Dealt.{fit_append, fit_without_use, may_raise, may_use, unfit_without_raise}}
use proofs.{Dealt.unfit_without_terms, Decisions.{before, here, which}}
use proofs.Passing.{AgreeHolds, ClaimHolds, decision_passes, none_unless, split_passes}
use Rattle.{gu_depend.proofs.Finds.{and_then_told, by_test, once_push}, std.proofs.lemmas.Option.cond_some}
use specs.{Dealt.first_under_deed, declared.refusal.Refusal.TheVariants.{NotOffered, NotYours}}
use specs.{Refusals.{is_giver, limit_by, limit_row, trade_row, used_by}, Terms.dealing_of}
use Vocabulary.{Agree, agree_passes, Agreement, agreement, All, All-head, All-nil, All-push, All-tail, All-weaker}
use Vocabulary.{AllFit, and_parts, ap, append-nil, append_assoc, arith, at_node, at_node_none, Bool, bytes_eq}
use Vocabulary.{bytes_eq-Decides, bytes_same, Cancel, Claim, claim_passes, Command, cond, cons_option, count_by}
use Vocabulary.{Dealing, dealings, dealings_in, deals_under, decides, decides_well, decision_of, Deed, deed_of}
use Vocabulary.{depth_of, EntryPart, filter_map, filter_map-append, find-append, first, first_refused, first_unfit}
use Vocabulary.{fits, Given, House, inl, inr, is_given, is_offered, is_taker, IsLegal, Kind, knows_firm, leave_out}
use Vocabulary.{legal_from_replay, length, length-append, limit_of, List, Makes, name_same, no_some, Node, node_called}
use Vocabulary.{node_more, node_of, None, none_or_some, not, Option, option_map, or_cases, owns, Pair, pair_of}
use Vocabulary.{Part, Raise, raise_passes, raised_row, Raises, Record, refl, Refusal, refusal_of, refusal_parts, Refuse}
use Vocabulary.{row, same_Some, Some, Split, SplitHolds, splits, splits_well, sym, Trade, true, unfit_none, unless}
use Vocabulary.{use_of_kind, use_of_node, used_of, Uses, without, [], ℕ, ◌&&◌, ◌++◌, ◌+◌, ◌==◌, ◌↔◌, ◌∙◌, ◌∷◌, ◌≡◌, ◌≤◌}

-- ---- pairs

pub both_same : (g k : List ℕ) → (bytes_eq g g && bytes_eq k k) ≡ true
both_same g k = cc (bytes_same g, bytes_same k)

-- what holds of one pair holds of the same pair
pub at_pair : (P : List ℕ → List ℕ → Type 0) (g k x y : List ℕ) → (bytes_eq g x && bytes_eq k y) ≡ true → P g k → P x y
at_pair P g k x y is held =
    let p = and_parts _ _ is in
    rw ((bytes_eq-Decides k y).0 p.1) at (rw ((bytes_eq-Decides g x).0 p.0) at held)

-- what holds of a pair and its deed holds of the two for whom it is given
pub given_for : (P : List ℕ → List ℕ → Deed → Type 0) (g k x y : List ℕ) (e d : Deed)
    → cond (bytes_eq x g && bytes_eq y k) (Some e) None ≡ Some d → P x y e → P g k d
given_for P g k x y e d h held =
    let c = cond_some _ e d h in rw c.1 at (at_pair (λ g k. P g k e) x y g k c.0 held)

-- ---- the deed of a change, in lists of which one has some of the changes of the other

abbrev pub numbered : Record → Deed → Dealing
numbered r d = record { number = r.number; deed = d }

-- what a change deals, before other dealings
abbrev pub dealt : Record → Option Deed → List Dealing → List Dealing
dealt r o ds = cons_option (option_map (numbered r) o) ds

-- what a change deals for two, with whom it deals, and what stands first on what it deals
abbrev pub deed_in : List Record → List ℕ → List ℕ → Record → Option Deed
deed_in l g k r = deed_of l g k r.firm r.command

abbrev pub pair_in : List Record → Record → Option Pair
pair_in l r = pair_of l r.firm r.command

abbrev pub first_on_deal : House → List Record → Record → Option ℕ
first_on_deal t l r = deals_under t l r.number r.firm r.command

-- a change whose node is there deals the same in both lists
pub deed_grown : (l b : List Record) (g k by : List ℕ) (c : Command) → Within l b → ThereFor b c
    → deed_of b g k by c ≡ deed_of l g k by c
deed_grown l b g k by (Claim n _) w there =
    let x = there n (name_same n) in rw (x.1 ∙ sym (w.nodes n x.0 x.1))
deed_grown l b g k by _ w there = refl

pub gives_alike : {X Y : Type 0} (f h : X → Option Y) (xs : List X) → All (λ x. f x ≡ h x) xs
    → filter_map f xs ≡ filter_map h xs
gives_alike f h [] all = refl
gives_alike f h (x ∷ xs) all =
    cc (All-head (λ x. f x ≡ h x) x xs all, gives_alike f h xs (All-tail (λ x. f x ≡ h x) x xs all))

pub dealings_grown : (l b : List Record) (g k : List ℕ) → Grown l b → dealings b g k ≡ dealings_in l b g k
dealings_grown l b g k grown =
    gives_alike _ _ b
    (All-weaker _ (λ r. dealing_of b g k r ≡ dealing_of l g k r)
    (λ r there. rw (deed_grown l b g k _ _ grown.within there)) b grown.named)

pub dealings_append : (l xs ys : List Record) (g k : List ℕ)
    → dealings_in l (xs ++ ys) g k ≡ dealings_in l xs g k ++ dealings_in l ys g k
dealings_append l xs ys g k = filter_map-append _ xs ys

-- what is dealt, cut at a change
pub dealings_cut : (l p : List Record) (r : Record) (s : List Record) (g k : List ℕ) (o : Option Deed)
    → deed_in l g k r ≡ o
    → dealings_in l (p ++ r ∷ s) g k ≡ dealings_in l p g k ++ dealt r o (dealings_in l s g k)
dealings_cut l p r s g k o e = cc (dealings_append l p _ g k)

-- a change that deals nothing adds nothing
pub dealings_idle : (l p : List Record) (r : Record) (g k : List ℕ) → deed_in l g k r ≡ None
    → dealings_in l (p ++ r ∷ []) g k ≡ dealings_in l p g k
dealings_idle l p r g k e = dealings_cut l p r [] g k None e ∙ append-nil _

pub not_empty : (front : List Dealing) (d : Dealing) (behind : List Dealing) → [] ≡ front ++ d ∷ behind → ⊥
not_empty [] d behind e = cc
not_empty (x ∷ front) d behind e = cc

-- ---- what is accepted fits

pub raised_may : (lots : ℕ) (o : Option ℕ) → (raised_row lots o ≡ None) ↔ (may_raise lots o ≡ true)
raised_may lots None = (λ h. cc, λ h. cc)
raised_may lots (Some _) = (λ h. unless_none _ _ h, λ h. none_unless _ _ h)

used_may : (lots : ℕ) (o : Option ℕ) → (limit_row lots o ≡ None) ↔ (may_use lots o ≡ true)
used_may lots None = (λ h. cc, λ h. cc)
used_may lots (Some _) = (λ h. unless_none _ _ h, λ h. none_unless _ _ h)

abbrev pub pair : List ℕ → List ℕ → Option Pair
pair g k = Some (record { giver = g; taker = k })

-- a command with this deed is of this pair, stands under what its deed stands under, and fits where it is accepted
pub record IsDeal (l : List Record) (by : List ℕ) (c : Command) (g k : List ℕ) (d : Deed) : Type 0 where
  pub of : pair_of l by c ≡ pair g k
  pub under : (t : House) (n : ℕ) → deals_under t l n by c ≡ first_under_deed (agreement t g k) (dealings l g k) n d
  pub fit : (t : House) → row t l by c ≡ None → fits (agreement t g k) (dealings l g k) d ≡ true

pub deal : (l : List Record) (by : List ℕ) (c : Command) (g k : List ℕ) (d : Deed) → deed_of l g k by c ≡ Some d
    → IsDeal l by c g k d
deal l by (Agree x y rate limit) g k d h =
    given_for (IsDeal l by _) g k x y _ d h
    (record { of = refl; under = λ t n. refl; fit = λ t h. (agree_passes t l by x y rate _ h).1 })
deal l by (Raise x lots) g k d h =
    given_for (IsDeal l by (Raise x lots)) g k x by _ d h (record {
      of = refl;
      under = λ t n. refl;
      fit = λ t h. (raised_may lots _).0 (raise_passes t l by x _ h).1;
    })
deal l by (Claim n account) g k d h =
    let x = and_then_told (use_of_node g k) (node_of l n) d h in of_kind x.0 x.1.0 x.0.kind refl x.1.1
  where
    of_kind : (x : Node) → node_of l n ≡ Some x → (kind : Kind) → x.kind ≡ kind → use_of_kind g k x.lots kind ≡ Some d
        → IsDeal l by (Claim n account) g k d
    of_kind x there (Given m a b) is h =
        given_for (IsDeal l by (Claim n account)) g k a b (Uses x.lots) d h (record {
          of = cc;
          under = λ t n. refl;
          fit = λ t h.
              let passes =
              claim_passes t l by account x (rw there at h) in
              (used_may (used_of l a b + x.lots) (limit_of t l a b)).0 (rw is at passes.2);
        })
    of_kind x there _ is h = cc
deal l by _ g k d h = cc

-- and what fits is within the limit
pub claim_within : (t : House) (l b : List Record) (n : EntryPart) (by account : List ℕ) (x : Node)
    → node_of l n ≡ Some x
    → ((g k : List ℕ) (d : Deed) → deed_of l g k by (Claim n account) ≡ Some d
    → fits (agreement t g k) (dealings b g k) d ≡ true)
    → (kind : Kind) → x.kind ≡ kind → is_given kind ≡ true
    → limit_row (used_by b kind + x.lots) (limit_by t b kind) ≡ None
claim_within t l b n by account x found fit (Given m g k) is given =
    (used_may _ (limit_of t b g k)).1 (fit g k (Uses x.lots) (cc (both_same g k)))
claim_within t l b n by account x found fit _ is given = cc

-- ---- whom a change deals with

-- what stands under terms deals for a giver and a taker
pub deals_some : (t : House) (l : List Record) (n : ℕ) (by : List ℕ) (c : Command) (m : ℕ)
    → deals_under t l n by c ≡ Some m → (g : List ℕ) × (k : List ℕ) × (d : Deed) × (deed_of l g k by c ≡ Some d)
deals_some t l n by (Agree x y rate limit) m h =
    let made = Makes (record { rate = rate; limit = limit }) in
    (x, y, made, rw (both_same x y))
deals_some t l n by (Raise x lots) m h = (x, by, Raises lots, rw (both_same x by))
deals_some t l n by _ m h = cc

pub pair_told : (p q : Pair) → Some p ≡ Some q → (p.giver ≡ q.giver) × (p.taker ≡ q.taker)
pair_told p q e = let one = same_Some p q e in (rw one, rw one)

-- a change deals for one giver and one taker, and for the others nothing
pub undealt : (l : List Record) (x y by : List ℕ) (c : Command) → (pair_of l by c ≡ pair x y → ⊥)
    → deed_of l x y by c ≡ None
undealt l x y by c other = no_some _ (λ d e. other (deal l by c x y d e).of)

-- ---- one left out

-- without one of them, the first that doesn't fit is the first that stands on it
pub unfit_without : (file : Option Agreement) (xs : List Dealing) (k : Dealing) (ys : List Dealing)
    → AllFit file [] (xs ++ k ∷ ys) → leave_out k.number (xs ++ k ∷ ys) ≡ xs ++ ys → (e : Deed) → k.deed ≡ e
    → first_unfit file [] (xs ++ ys) ≡ first_under_deed file (xs ++ k ∷ ys) k.number e
unfit_without file xs k ys all left (Makes a) is = unfit_without_terms _ xs k ys a is all
unfit_without file xs k ys all left (Raises _) is =
    unfit_without_raise _ xs k ys _ is all
    ∙ sym (rw left)
unfit_without file xs k ys all left (Uses _) is = unfit_none _ [] _ (fit_without_use _ xs k ys _ is all)

-- the dealings but the one of a number are those of the changes without it
pub left_out : (l : List Record) (g k : List ℕ) (n : ℕ) (b : List Record)
    → leave_out n (dealings_in l b g k) ≡ dealings_in l (without b n) g k
left_out l g k n [] = refl
left_out l g k n (r ∷ b) = let rest = left_out l g k n b in elim (none_or_some (deed_in l g k r)) [
  | inl none ↦ by_test (r.number == n) (λ is. cc) (λ other. cc)
  | inr d ↦ by_test (r.number == n) (λ is. cc) (λ other. cc)
]

-- ---- what holds of the changes of a legal list over the whole list, wherever each of them stands

-- ---- what a list names, and what it finds

-- a node is split once and decided once at most, and only given ones are decided
pub record NamedOnce (l : List Record) : Type 0 where
  pub given : (n : EntryPart) (r : Record) → decision_of l n ≡ Some r
      → (x : Node) × ((node_of l n ≡ Some x) × (is_given x.kind ≡ true))
  pub splits_once : (n : EntryPart) → count_by (λ r. splits n r.command) l ≤ 1
  pub decisions_once : (n : EntryPart) → count_by (λ r. decides n r.command) l ≤ 1

-- what no changes have, and one more that is accepted keeps, each front of a legal list has
along : (t : House) (l : List Record) (P : List Record → Type 0) → IsLegal t l
    → ((b : List Record) (r : Record) (rest : List Record) → l ≡ (b ++ r ∷ []) ++ rest
    → refusal_of t b r.firm r.command ≡ None → P b → P (b ++ r ∷ []))
    → (b front rest : List Record) → l ≡ b ++ (front ++ rest) → P b → P (b ++ front)
along t l P legal keeps b [] rest e held = rw (append-nil b) held
along t l P legal keeps b (r ∷ front) rest e held =
    let cut = e ∙ sym (append_assoc b (r ∷ []) (front ++ rest)) in
    rw (append_assoc b _ front) at (along t l P legal keeps _ front rest cut
    (keeps b r (front ++ rest) cut (legal.accepted b _ r e) held))

pub named_once : (t : House) (l : List Record) → first_refused t [] l ≡ None → NamedOnce l
named_once t l none = along t l NamedOnce (legal_from_replay t l none) (λ b r rest e accepted s.
    let h = (refusal_parts t b _ _ accepted).1 in
    record {
      given = λ n d e. elim (which b r n d e) [
        | before e ↦ (let x = s.given n d e in (x.0, (node_more b _ n x.0 x.1.0, x.1.1)))
        | here is _ ↦ (let w = decides_well t b _ _ n h is in
            (w.node, (node_more b _ n _ w.there, w.given)))
      ];
      splits_once = λ n.
          once_push _ b r (s.splits_once n) (λ is. (splits_well t b _ _ n h is).whole);
      decisions_once = λ n.
          once_push _ b r (s.decisions_once n) (λ is. (decides_well t b _ _ n h is).undecided);
    }) [] l [] (sym (append-nil l))
    (record { given = λ n r e. cc; splits_once = λ n. omega arith; decisions_once = λ n. omega arith })

-- a node of the list, of which this holds
pub record SettledAt (l : List Record) (n : EntryPart) (P : Node → Type 0) : Type 0 where
  pub node : Node
  pub there : node_of l n ≡ Some node
  pub holds : P node

-- what a Refuse or a Cancel asks of its node
abbrev pub IsYours : (Kind → Bool) → Node → Type 0
IsYours yours x = (is_given x.kind ≡ true) × (yours x.kind ≡ true)

abbrev pub SettledAs : House → List Record → List ℕ → Command → Type 0
SettledAs t l by (Trade firm account instrument side lots) = trade_row t by firm account instrument lots ≡ None
SettledAs t l by (Split n ps) = SettledAt l n (SplitHolds t l by ps)
SettledAs t l by (Claim n account) = SettledAt l n (ClaimHolds t by account)
SettledAs t l by (Refuse n) = SettledAt l n (IsYours (is_taker by))
SettledAs t l by (Cancel n) = SettledAt l n (IsYours (is_giver by))
SettledAs t l by (Agree giver taker rate limit) = AgreeHolds t by giver taker rate limit
SettledAs t l by (Raise giver lots) = knows_firm t giver ≡ true
SettledAs t l by _ = Unit {0}

pub record Settled (t : House) (l : List Record) (r : Record) : Type 0 where
  pub known : knows_firm t r.firm ≡ true
  pub stands : SettledAs t l r.firm r.command

-- ---- a node that is no longer offered has its decision, if it ever has one

pub free_decided : (l b : List Record) (n : EntryPart) (x : Node) → NamedOnce l → Within l b → node_of b n ≡ Some x
    → not (is_offered b x) ≡ true → decision_of b n ≡ decision_of l n
free_decided l b n x s w found free = elim (none_or_some _) [
  | inl none ↦ none ∙ sym (no_some _ (λ d h.
      let y = s.given n d h in cc (w.nodes n x found, node_called b n x found)))
  | inr d ↦ cc (w.decisions n d.0 d.1)
]

-- ---- what is accepted behind some changes is settled over all

-- a Split that holds in the one list holds in the other, where its node is the same in both
pub split_moved : (t : House) (l b : List Record) (by : List ℕ) (ps : List Part) (x : Node)
    → owns b by x.name ≡ owns l by x.name → decision_of b x.name ≡ decision_of l x.name
    → depth_of b x.name ≡ depth_of l x.name → SplitHolds t l by ps x → SplitHolds t b by ps x
split_moved t l b by ps x owned same deep h = record {
  owned = owned ∙ h.owned;
  free = rw same h.free;
  count = h.count;
  shallow = rw deep h.shallow;
  parts = h.parts;
  sums = h.sums;
}

-- the row of a Refuse or a Cancel, by who may ask for it
abbrev pub decision_row : List Record → (Kind → Bool) → Node → Option Refusal
decision_row b yours x = first (unless (is_offered b x) NotOffered ∷ unless (yours x.kind) NotYours ∷ [])

module _ (t : House) (l b : List Record) (by : List ℕ) (s : NamedOnce l) (g : Grown l b) where
  settles_at : (n : EntryPart) (line : Node → Option Refusal) (P : Node → Type 0) → at_node line (node_of b n) ≡ None
      → ((x : Node) → node_of b n ≡ Some x → line x ≡ None → P x) → SettledAt l n P
  settles_at n line P h holds =
      let x = at_node_none _ _ h in
      record { node = x.0; there = g.within.nodes n x.0 x.1.0; holds = holds x.0 x.1.0 x.1.1 }

  decision_settles : (n : EntryPart) (yours : Kind → Bool) → at_node (decision_row b yours) (node_of b n) ≡ None
      → SettledAt l n (IsYours yours)
  decision_settles n yours h =
      settles_at n _ _ h (λ x found passes. let p = decision_passes b x _ passes in (p.0, p.2))

  settles : (c : Command) → row t b by c ≡ None → SettledAs t l by c
  settles (Trade _ _ _ _ _) h = h
  settles (Split n ps) h =
      settles_at n _ _ h
      (λ x found passes. let named = at_name b n x found in
      let holds = (split_passes t b by ps x passes).0 in
      let same = free_decided l b _ x s g.within named holds.free in
      split_moved t b l by ps x (rw (place_same l b _ x g named same)) (sym same)
      (rw (line_of_grown l b g x.name x named)) holds)
  settles (Claim n _) h = settles_at n _ _ h (λ x found passes. (claim_passes t b by _ x passes).0)
  settles (Refuse n) h = decision_settles n _ h
  settles (Cancel n) h = decision_settles n _ h
  settles (Agree _ _ _ _) h = (agree_passes t b by _ _ _ _ h).0
  settles (Raise _ _) h = (raise_passes t b by _ _ h).0
  settles _ h = tt

-- a change that is accepted names a node that is there
pub accepted_there : (t : House) (b : List Record) (by : List ℕ) (c : Command) → row t b by c ≡ None → ThereFor b c
accepted_there t b by c h n is = elim (or_cases _ _ is) [
  | inl split ↦ (let y = splits_well t b by c n h split in (y.node, y.there))
  | inr decided ↦ (let y = decides_well t b by c n h decided in (y.node, y.there))
]

-- ---- along the list

-- so it follows what it stands on
pub accepted_follows : (t : House) (l b : List Record) (by : List ℕ) (c : Command) → NamedOnce l → Within l b
    → row t b by c ≡ None → Follows l b c
accepted_follows t l b by c s w h = record {
  there = accepted_there t b by c h;
  decided = λ n is. let y = splits_well t b by c n h is in free_decided l b n _ s w y.there y.free;
}

-- the second list is a front of the first
pub front_within : (l b rest : List Record) → l ≡ b ++ rest → Within l b
front_within l b rest e =
    rw e (record {
      nodes = λ n x found. node_more b _ n x found;
      decisions = λ n r found. cc (find-append _ b _);
    })

-- what holds of a legal list as a whole
pub record Facts (t : House) (l b : List Record) : Type 0 where
  pub grown : Grown l b
  pub settled : All (Settled t l) b
  pub deals : (giver taker : List ℕ) → AllFit (agreement t giver taker) [] (dealings_in l b giver taker)

-- what holds of a front of a legal list, over the whole list
pub front_facts : (t : House) (l front rest : List Record) → l ≡ front ++ rest → first_refused t [] l ≡ None
    → Facts t l front
front_facts t l front rest e none = along t l (Facts t l) (legal_from_replay t l none) (λ b r rest e h f.
    let s = named_once t l none in
    let p = refusal_parts t b _ r.command h in
    record {
      grown = grown_push l b r f.grown (front_within l (b ++ r ∷ []) rest e)
          (omega (arith, length-append (b ++ r ∷ []) rest, ap length e))
          (accepted_follows t l b r.firm r.command s f.grown.within p.1);
      settled = All-push (Settled t l) b r f.settled
          (record { known = p.0; stands = settles t l b r.firm s f.grown r.command p.1 });
      deals = λ g k. elim (none_or_some (deed_in l g k r)) [
        | inl none ↦ rw (dealings_idle l b r g k none) (f.deals g k)
        | inr d ↦ (
            let same =
            deed_grown l b g k r.firm r.command f.grown.within (accepted_there t b r.firm r.command p.1) ∙ d.1 in
            let fit = rw (dealings_grown l b g k f.grown) at ((deal b r.firm r.command g k d.0 same).fit t p.1) in
            rw (dealings_cut l b r [] g k _ d.1)
            (fit_append (agreement t g k) [] (dealings_in l b g k) (numbered r d.0 ∷ []) (f.deals g k) (fit, tt)))
      ];
    }) [] front rest e (record { grown = grown_none l; settled = All-nil (Settled t l); deals = λ giver taker. tt })

pub facts : (t : House) (l : List Record) → first_refused t [] l ≡ None → Facts t l l
facts t l none = front_facts t l l [] (sym (append-nil l)) none
