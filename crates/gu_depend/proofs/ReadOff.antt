-- What stands on a change, read off trees and terms that show the list, and how many entries stand beside it.
use Rattle.gu_depend.proofs
use Rattle.gu_tree.specs
use proofs.Deals.{both_same, deal, deed_in, first_on_deal, named_once, pair_in}
use proofs.Finds.{alike_at, and_then_steps, and_then_told, by_test, filter_all, found_once, some_with}
use proofs.Grown.{made_number, maker}
use proofs.{Replay.Legal, StandsUnder.{least_in, least_one, legal_rising, looked_up}, TermsFollow.pair_place}
use proofs.Vocabulary.{Agree, ap, AreTermsOf, arith, Bool, Cancel, change_of, Claim, Command, cond}
use proofs.Vocabulary.{Contains, dealings, dealings_in, deals_under, decides, Decides-eqb, decision_of, Deed, EntryPart}
use proofs.Vocabulary.{false, find_passes, found_in, House, inl, inr, IsLegal, IsSomeAnd, least, legal_from_replay}
use proofs.Vocabulary.{length, List, Makes, name_same, Node, node_of, None, none_or_some, number_in, numbers_under}
use proofs.Vocabulary.{Option, option_and_then, option_map, Pair, pair_at, PairView, Part, place_of_pair, Raise, Raises}
use proofs.Vocabulary.{Record, refl, Refuse, replay_from_legal, RisesFrom, same_Some, Some, Split, split_of, splits}
use proofs.Vocabulary.{standing_on, sym, TermsView, Trade, true, unwrap_or, without, [], ℕ, ◌==◌, ◌↔◌, ◌∙◌, ◌∷◌, ◌≡◌}
use Rattle.gu_depend.specs.{Terms.entries_dealt, Touch.is_trade_or_decision}
use Rattle.gu_fees.specs.{Pairs.{deed_at, standing_under}, Rows.is_pair, Terms.{entries_in, row_of, standing_in}}
use Rattle.gu_tree.proofs.{Parts.{at_fact, some_and}, ShowsLess.no_root_part, ToldAt.{IsToldAt, told_at}}
use Rattle.std.{proofs.{Common.◌≢◌, lemmas.Bool.{ne_eqb, or_from, or_right}}, specs.{Map.lookup, Prelude.slice_get}}
use specs.{Grove.{Grove, HasTree, IsPlace, place_of, tree_of}, NumbersOn.numbers_on_parts}
use specs.{Paths.node_at, Rose.{head_of, Rose, split_of_node}, ShownAll.{named_place, place_in, ShowsAll}}

-- ---- a trade, a decision, or neither

of_trade : (k trade : ℕ) (d : Option ℕ) → trade ≡ k → is_trade_or_decision k trade d ≡ true
of_trade k trade None same = (Decides-eqb trade k).1 same
of_trade k trade (Some d) same = rw ((Decides-eqb trade k).1 same)

of_neither : (k trade : ℕ) (d : Option ℕ) → trade ≢ k → d ≢ Some k → is_trade_or_decision k trade d ≡ false
of_neither k trade None other undecided = ne_eqb trade k other
of_neither k trade (Some d) other undecided = or_from _ _ (ne_eqb trade k other) (ne_eqb d k (λ e. undecided (rw e)))

-- what is read at a node: its Split where the change made or decided it, else what stands first on its parts
abbrev pub read_at : Rose → Bool → Option ℕ
read_at v b = cond b (option_map (λ s. s.0) (split_of_node v)) (least (numbers_on_parts v))

-- ---- one change of a number

module _ (t : House) (l : List Record) (list : Legal t l) (k : ℕ) (r : Record) (there : change_of l k ≡ Some r) where
  number_is : r.number ≡ k
  number_is = (Decides-eqb r.number k).0 (find_passes _ l r there)

  among : Contains l r
  among = found_in _ l r there

  -- what has its number is the change
  only_change : (d : Record) → Contains l d → d.number ≡ k → d ≡ r
  only_change d in_list is = same_Some d r (cc (found_once _ l d in_list ((Decides-eqb d.number k).1 is) (list.once k)))

  -- what is looked up for it is what stands on the number
  looked_up_here : RisesFrom 0 l → least (numbers_under t l r.number r.firm r.command) ≡ standing_on t l k
  looked_up_here rises = sym (looked_up t l rises list r among) ∙ ap (standing_on t l) number_is

  -- a Split isn't a trade with a root
  split_no_trade : (n : EntryPart) (ps : List Part) → r.command ≡ Split n ps → (trade : ℕ) (root : Node)
      → node_of l (record { entry = trade; part = 0 }) ≡ Some root → trade ≡ k → ⊥
  split_no_trade n ps is trade root found same =
      let name : EntryPart = record { entry = trade; part = 0 } in
      let m = maker l _ _ found in
      let one = only_change _ m.among (cc (made_number m.change _ _ m.makes_it)) in
      cc (no_root_part trade r.number 1 n r.firm ps (omega arith))

  -- nor a decision
  split_no_decision : (n : EntryPart) (ps : List Part) → r.command ≡ Split n ps → (o : Option Record)
      → decision_of l n ≡ o → option_map (λ d. d.number) o ≡ Some k → ⊥
  split_no_decision n ps is None e h = cc
  split_no_decision n ps is (Some d) e h =
      cc (
        only_change d (found_in (λ r. decides n r.command) l d e) (same_Some d.number k h),
        find_passes (λ r. decides n r.command) l d e,
      )

  module _ (trade : ℕ) (v : Rose) (told : IsToldAt l trade v) where
    split_at : (n : EntryPart) → Some n ≡ Some (head_of v).name
        → option_map (λ s. s.0) (split_of_node v) ≡ least (number_in (split_of l n))
    split_at n at = cc (same_Some _ _ at, least_in _)

    at_decision : (n : EntryPart) → decides n r.command ≡ true → Some n ≡ Some (head_of v).name
        → read_at v (is_trade_or_decision k trade (head_of v).decision) ≡ least (number_in (split_of l n))
    at_decision n passes at =
        let name = same_Some _ _ at in
        let found : decision_of l n ≡ Some r =
        found_once _ l r among passes ((named_once t l list.replayed).decisions_once n) in
        -- it is the decision of its node
        let own : (head_of v).decision ≡ Some k = cc number_is in
        cc (or_right (trade == k) (k == k) ((Decides-eqb k k).1 refl), split_at n at)

    -- what is read there is what is looked up for the change
    read_here : (c : Command) → r.command ≡ c → named_place r.number c ≡ Some (head_of v).name
        → read_at v (is_trade_or_decision k trade (head_of v).decision) ≡ least (numbers_under t l r.number r.firm c)
    read_here (Trade _ _ _ _ _) is at =
        let name = same_Some _ _ at in
        let root = told.rooted (sym (ap (λ m. m.part) name)) in
        cc (of_trade k trade (head_of v).decision (cc number_is), split_at _ at)
    read_here (Split n ps) is at =
        let found : split_of l n ≡ Some r = found_once (λ r. splits n r.command) l r among
        (rw is (name_same n)) ((named_once t l list.replayed).splits_once n) in
        let undecided = λ (h : (head_of v).decision ≡ Some k). split_no_decision n ps is (decision_of l n) refl
        (cc (same_Some n _ at)) in
        let neither = of_neither k trade _ (split_no_trade n ps is trade told.root told.has_root) undecided in
        cc (same_Some n _ at)
    read_here (Claim n _) is at = at_decision n (rw is (name_same n)) at
    read_here (Refuse n) is at = at_decision n (rw is (name_same n)) at
    read_here (Cancel n) is at = at_decision n (rw is (name_same n)) at
    read_here _ is at = cc

-- ---- the answers

module _ (t : House) (l : List Record) (rises : RisesFrom 0 l) (legal : IsLegal t l) where
  abbrev list : Legal t l
  list = legal_rising t l rises legal

  deals_alone : (k : ℕ) (by : List ℕ) (c : Command) → named_place k c ≡ None
      → deals_under t l k by c ≡ least (numbers_under t l k by c)
  deals_alone k by (Agree _ _ _ _) h = sym (least_one _)
  deals_alone k by (Raise _ _) h = sym (least_one _)
  deals_alone k by _ h = cc

  -- what stands on a change without a place, of those whose giver and taker it deals for
  pub placeless : (k : ℕ) → place_in l k ≡ None
      → option_and_then (λ r. first_on_deal t l r) (change_of l k) ≡ standing_on t l k
  placeless k none = elim (none_or_some (change_of l k)) [
    | inl absent ↦ cc (filter_all (λ r. r.number == k) l absent, list.replayed)
    | inr r ↦ (
        let alone = deals_alone r.0.number r.0.firm r.0.command (cc) in
        cc (looked_up_here t l list k r.0 r.1 rises))
  ]

module _ (g : Grove) (t : House) (l : List Record) (rises : RisesFrom 0 l) (legal : IsLegal t l)
    (shows : ShowsAll l g) where
  pub nothing_placed : (k : ℕ) → place_of g k ≡ None
      → option_and_then (λ r. first_on_deal t l r) (change_of l k) ≡ standing_on t l k
  nothing_placed k none = placeless t l rises legal k (cc (shows.places k))

  -- and what is read at the node that lies where the trees place the change
  pub read_as : (k trade : ℕ) (p : List ℕ) (v : Rose) → IsSomeAnd (place_of g k) (λ n. IsPlace g n trade p)
      → HasTree g trade (λ t. node_at p t ≡ Some v) → (b : Bool) → is_trade_or_decision k trade (head_of v).decision ≡ b
      → read_at v b ≡ standing_on t l k
  read_as k trade p v place has b is =
      let n = some_with _ (place_of g k) place in
      let tree = some_and (λ t. node_at p t ≡ Some v) (tree_of g trade) has in
      let leads = rw (same_Some n.1.1.tree tree.0 (sym n.1.1.found ∙ tree.1)) at n.1.1.there in
      let named = at_fact (λ u. (head_of u).name ≡ n.0) (node_at p tree.0) v tree.2 leads in
      let placed : place_of g k ≡ Some (head_of v).name = cc in
      let r = and_then_told _ (change_of l k) _ (sym (shows.places k) ∙ placed) in
      let told = told_at l trade tree.0 (rw tree.1 at (shows.trees trade)) p v tree.2 in
      sym (ap (read_at v) is)
      ∙ (read_here t l (list t l rises legal) k r.0 r.1.0 trade v told r.0.command refl r.1.1
      ∙ looked_up_here t l (list t l rises legal) k r.0 r.1.0 rises)

-- none is answered exactly where the others alone are legal
pub none_where_legal : (t : House) (l : List Record) (k : ℕ) (o : Option ℕ) → o ≡ standing_on t l k
    → (o ≡ None) ↔ IsLegal t (without l k)
none_where_legal t l k o is = (λ none. legal_from_replay t _ (cc), λ others. is ∙ replay_from_legal t _ others)

-- ---- the deed of a number

-- where the first change of the number deals, its deed is found
deed_found : (l : List Record) (g k : List ℕ) (n : ℕ) (r : Record) (d : Deed) (b : List Record) → change_of b n ≡ Some r
    → deed_in l g k r ≡ Some d → deed_at (dealings_in l b g k) n ≡ Some d
deed_found l g k n r d [] found deals = cc
deed_found l g k n r d (s ∷ b) found deals =
    by_test (s.number == n) (λ is. let same = same_Some s r (cc) in cc) (λ other.
    let rest = deed_found l g k n r d b (cc) deals in
    elim (none_or_some (deed_in l g k s)) [ inl none ↦ cc | inr e ↦ cc ])

-- ---- read off the terms

abbrev standing_of : ℕ → PairView → Option ℕ
standing_of n r = standing_under r.file r.dealings n

module _ (t : House) (l : List Record) (v : TermsView) (are : AreTermsOf t l v) where
  -- of a change that deals for these two
  read_deal : (r : Record) → change_of l r.number ≡ Some r → (g k : List ℕ) (d : Deed) → deed_in l g k r ≡ Some d
      → option_and_then (λ i. standing_in v.pairs i r.number) (pair_place v l r)
      ≡ first_on_deal t l r
  read_deal r found g k d deals =
      let is_deal = deal l _ _ g k d deals in
      let q = are.ready r _ (found_in _ l r found) is_deal.of in
      let row = are.rows g k q.0 q.1 in
      let steps = and_then_steps (slice_get v.pairs) (standing_of r.number) (lookup (is_pair g k) v.places) in
      cc (deed_found l g k _ r d l found deals, is_deal.under t r.number)

  read_by : (r : Record) → change_of l r.number ≡ Some r → (c : Command) → r.command ≡ c → named_place r.number c ≡ None
      → option_and_then (λ i. standing_in v.pairs i r.number) (pair_place v l r) ≡ deals_under t l r.number r.firm c
  read_by r found (Agree g k rate limit) is none =
      cc (read_deal r found g k (Makes (record { rate = rate; limit = limit })) (cc (both_same g k)))
  read_by r found (Raise g lots) is none = cc (read_deal r found g r.firm (Raises lots) (cc (both_same g r.firm)))
  read_by r found (Claim m _) is none = cc
  read_by r found _ is none = cc

  -- what the terms say stands on a number without a place in the trees is what the list says
  pub read_off : (n : ℕ) → place_in l n ≡ None → option_and_then (λ i. standing_in v.pairs i n) (pair_at v n)
      ≡ option_and_then (λ r. first_on_deal t l r) (change_of l n)
  read_off n none =
      ap (option_and_then (λ i. standing_in v.pairs i n)) (are.placed n)
      ∙ (and_then_steps (pair_place v l) _ (change_of l n)
      ∙ alike_at _ (first_on_deal t l) _
      (λ r found. let number = (Decides-eqb r.number n).0 (find_passes _ l r found) in
      rw (← number) (read_by r (rw (← number) at found) r.command refl (cc))))

  -- and so does the row of its place, where there is one
  pub read_beside : RisesFrom 0 l → IsLegal t l → (n : ℕ) → place_in l n ≡ None → (o : Option PairView)
      → o ≡ option_and_then (slice_get v.pairs) (pair_at v n) → option_and_then (standing_of n) o ≡ standing_on t l n
  read_beside rises legal n none o is =
      cc (and_then_steps (slice_get v.pairs) (standing_of n) (pair_at v n), read_off n none)
      ∙ placeless t l rises legal n none

-- ---- how many entries stand beside a change

abbrev count_at : TermsView → Option ℕ → ℕ
count_at v o = unwrap_or (option_map (λ i. entries_in v.pairs i) o) 0

-- how many are dealt for a pair
abbrev count_of : List Record → Option Pair → ℕ
count_of l o = unwrap_or (option_map (λ (p : Pair). length (dealings l p.giver p.taker)) o) 0

counts_through : (v : TermsView) (o : Option ℕ) → count_at v o ≡ unwrap_or
    (option_map (λ (r : PairView). length r.dealings) (option_and_then (slice_get v.pairs) o)) 0
counts_through v None = refl
counts_through v (Some i) = refl

module _ (t : House) (l : List Record) (v : TermsView) (are : AreTermsOf t l v) where
  of_pair : (o : Option Pair) → ((p : Pair) → o ≡ Some p → (q : PairView) × (row_of v p.giver p.taker ≡ Some q))
      → count_at v (option_and_then (place_of_pair v) o) ≡ count_of l o
  of_pair None there = refl
  of_pair (Some p) there =
      let q = there p refl in
      cc (counts_through v _, (are.rows p.giver p.taker q.0 q.1).1)

  pub counted : (n : ℕ) → count_at v (pair_at v n) ≡ entries_dealt l n
  counted n =
      let pairs = λ (r : Record). pair_in l r in
      cc (
        are.placed n,
        and_then_steps pairs (place_of_pair v) (change_of l n),
        of_pair (option_and_then pairs (change_of l n)) (λ p e. let r = and_then_told pairs (change_of l n) p e in
            are.ready r.0 p (found_in (λ r. r.number == n) l r.0 r.1.0) r.1.1),
      )

  -- and so does the row of its place
  pub count_beside : (n : ℕ) (o : Option PairView) → o ≡ option_and_then (slice_get v.pairs) (pair_at v n)
      → unwrap_or (option_map (λ (r : PairView). length r.dealings) o) 0 ≡ entries_dealt l n
  count_beside n o is = cc (counts_through v (pair_at v n), counted n)
