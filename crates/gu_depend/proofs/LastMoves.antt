-- What a change that stands behind others moves.
use Rattle.gu_depend.proofs
use proofs.Deals.{accepted_there, deal}
use proofs.Deals.{dealings_append, dealings_cut, dealings_grown, deed_in, facts, front_facts, gives_alike, not_empty}
use proofs.Finds.{alike_at, all_in, and_then_told, cut_at, find_beside, found_some, none_before, none_there}
use proofs.Grown.{at_name, Grown, line_of_grown, made_number, maker, NamesThere, place_same, ThereFor, Within}
use proofs.{Replay.{Legal, NumbersOnce}, StandsLast.accepted_at, State.{charge_alike, SameTermsFor}}
use proofs.Vocabulary.{agreement, All-contains, AllFit, ap, append-nil}
use proofs.Vocabulary.{arith, Bool, Charge, charge_of, Command, cond, cons_option, Contains, dealings, dealings_in}
use proofs.Vocabulary.{decides, Decides-eqb, decision_of, Deed, EntryPart, false, false_from_ne_true, filter_map-append}
use proofs.Vocabulary.{find, House, inl, inr, is_none, is_trade_of, length, line_within, List, lots_at}
use proofs.Vocabulary.{made, name_same, names, Node, node_of, nodes, None, none_or_some, Option, option_and_then}
use proofs.Vocabulary.{option_map, or_parts, parent, Record, refl, replay_front, root_along, root_of, row, same_name}
use proofs.Vocabulary.{same_place, same_Some, Side, Some, split_of, splits, subst, suc, sum_by, sum_by-append}
use proofs.Vocabulary.{sym, terms_of, trades_in, true, unwrap_or, zero, [], ℕ, ◌&&◌, ◌++◌, ◌+◌, ◌==◌, ◌∙◌, ◌∷◌, ◌≡◌}
use Rattle.gu_base.proofs.{Dealt.{all_sound, terms_stay}, NodeNames.nodes_push, Sums.{sum_agree_on, sum_plus}}
use Rattle.gu_depend.specs.Moves.{MovesItsOwn}
pub use Rattle.gu_depend.proofs.State.{position_is, sum_filter}

swapped : (old new : ℕ) (b : Bool) → (b ≡ false → new ≡ old) → new + cond b old 0 ≡ old + cond b new 0
swapped old new true same = omega arith
swapped old new false same = omega (arith, same refl)

-- ---- roots

root_at : (l : List Record) (x : Node) (p : EntryPart) → node_of l x.name ≡ Some x → (xs : List Node)
    → (root_along xs ≡ Some p → (y : Node) × (node_of l p ≡ Some y)) → root_along (x ∷ xs) ≡ Some p
    → (y : Node) × (node_of l p ≡ Some y)
root_at l x p found [] later h = (x, subst (λ z. node_of l z ≡ Some x) (same_Some x.name p h) found)
root_at l x p found (y ∷ ys) later h = later h

-- the root of a node is a node of the list
pub root_found : (f : ℕ) (l : List Record) (p m : EntryPart) (x : Node) → node_of l m ≡ Some x
    → root_along (line_within f l (Some x)) ≡ Some p → (z : Node) × (node_of l p ≡ Some z)
root_found zero l p m x found h = cc
root_found (suc f) l p m x found h =
    let above = option_and_then (node_of l) (parent x.kind) in
    root_at l x p (at_name l m x found) (line_within f l above) (λ later. elim (none_or_some above) [
      | inl none ↦ cc
      | inr y ↦ (
          let up = and_then_told (node_of l) (parent x.kind) y.0 y.1 in
          root_found f l p up.0 y.0 up.1.1 (cc))
    ]) h

-- ---- what a claim costs

-- a claim of a node that is there, under terms that are the same, is charged the same in both lists
pub charge_same : (t : House) (l b : List Record) → Within l b → (by : List ℕ) (c : Command) → ThereFor b c
    → SameTermsFor t l b by c → charge_of t b c ≡ charge_of t l c
charge_same t l b w by c there same =
    charge_alike t l b by c (λ n is. let x = there n is in cc (w.nodes n x.0 x.1)) same

-- whoever deals has dealings
pub deals_there : (l : List Record) (d : Record) → Contains l d → (g k : List ℕ) (e : Deed)
    → deed_in l g k d ≡ Some e → dealings l g k ≡ [] → ⊥
deals_there l d among g k e deals empty =
    let c = cut_at l d among in
    not_empty _ _ _
    (sym empty ∙ (ap (λ z. dealings_in l z g k) c.is ∙ dealings_cut l c.before d c.behind g k (Some e) deals))

-- ---- a change behind the others

-- a front of a legal list, of which one change is left, and the list
pub record IsBefore (t : House) (l : List Record) (r : Record) : Type 0 where
  pub grown : Grown (l ++ r ∷ []) l
  pub whole : Grown (l ++ r ∷ []) (l ++ r ∷ [])
  pub once : NumbersOnce (l ++ r ∷ [])
  pub accepted : row t l r.firm r.command ≡ None
  pub deals : (g k : List ℕ) → AllFit (agreement t g k) [] (dealings l g k)

module _ {t : House} {l : List Record} {r : Record} (b : IsBefore t l r) where
  -- the change isn't the trade of a node before it
  pub other_trade : (p : EntryPart) (y : Node) → node_of l p ≡ Some y → (r.number == p.entry) ≡ false
  other_trade p y found = false_from_ne_true _ (λ h.
      let by = maker l p y found in
      let own = made_number by.change p y by.makes_it in
      let none = none_before _ l r [] (b.once p.entry) h in
      none_there _ l _ none by.among
      ((Decides-eqb by.change.number p.entry).1 (sym own)))

  pub trades_kept : (instrument : List ℕ) (side : Side) (m : EntryPart) (x : Node) → node_of l m ≡ Some x
      → trades_in (l ++ r ∷ []) instrument side m ≡ trades_in l instrument side m
  trades_kept instrument side m x found =
      let trade = λ (p : EntryPart) (d : Record). (d.number == p.entry) && is_trade_of instrument side d.command in
      cc (
        line_of_grown (l ++ r ∷ []) l b.grown m x found,
        alike_at (λ p. find (trade p) (l ++ r ∷ [])) (λ p. find (trade p) l) (root_of l m) (λ p h.
            let y = root_found (length l) l p m x found (cc) in
            cc (find_beside (trade p) l r [] (rw (other_trade p y.0 y.1)), append-nil l)),
      )

  pub split_kept : (m : EntryPart) → splits m r.command ≡ false → split_of (l ++ r ∷ []) m ≡ split_of l m
  split_kept m un = cc (find_beside _ l r [] un, append-nil l)

  -- terms that are there stay
  terms_kept : (g k : List ℕ) → ((terms_of t l g k ≡ None) → ⊥) → terms_of t l g k ≡ terms_of t (l ++ r ∷ []) g k
  terms_kept g k some = elim (none_or_some _) [
    | inl none ↦ absurd (some none)
    | inr a ↦ (
        let stay = terms_stay _ (dealings l g k) (dealings_in (l ++ r ∷ []) (r ∷ []) g k) a.0 a.1 in
        cc (dealings_append (l ++ r ∷ []) l (r ∷ []) g k, dealings_grown (l ++ r ∷ []) l g k b.grown))
  ]

  -- a change before it costs what it cost, since whoever deals has terms
  pub charge_kept : (d : Record) → Contains l d → charge_of t l d.command ≡ charge_of t (l ++ r ∷ []) d.command
  charge_kept d among =
      charge_same t _ l b.grown.within d.firm _
      (All-contains (NamesThere l) l d b.grown.named among) (λ g k lots deals.
      terms_kept g k (λ none.
      deals_there l d among g k _ deals
      ((all_sound _ _ (b.deals g k)).none none)))

  -- what it costs itself can be read off either list, since what it uses fits
  pub own_charge : charge_of t l r.command ≡ charge_of t (l ++ r ∷ []) r.command
  own_charge =
      charge_same t _ l b.grown.within r.firm _ (accepted_there t l _ _ b.accepted)
      (λ g k lots deals.
      terms_kept g k (λ none. let fit = (deal l _ _ g k _ deals).fit t b.accepted in
      cc))

pub is_before : (t : House) (l : List Record) (r : Record) → Legal t (l ++ r ∷ []) → IsBefore t l r
is_before t l r legal = record {
  grown = (front_facts t _ l _ refl legal.replayed).grown;
  whole = (facts t _ legal.replayed).grown;
  deals = (facts t l (replay_front t [] l _ legal.replayed)).deals;
  once = legal.once;
  accepted = accepted_at t _ l r [] legal refl;
}

pub moves_its_own : (t : House) (l : List Record) (r : Record) → Legal t (l ++ r ∷ []) → MovesItsOwn t l r
moves_its_own t l r legal = let b = is_before t l r legal in record {
  positions = λ at instrument side.
      let old = lots_at l at instrument side in
      let new = lots_at (l ++ r ∷ []) at instrument side in
      let p : Node → Bool = λ x. names x.name r.command in
      let cut = ap (sum_by new) (nodes_push l r) ∙ sum_by-append new (nodes l) (made r) in
      let lost = λ (x : Node). new x + cond (p x) (old x) 0 in
      let gained = λ (x : Node). old x + cond (p x) (new x) 0 in
      let each = sum_agree_on lost gained (nodes l) (all_in (λ x. lost x ≡ gained x) (nodes l)
      (λ x among.
      let y = found_some (λ z. same_name z.name x.name) (nodes l) x among (name_same x.name) in
      -- one that the change doesn't name adds what it added
      swapped (old x) (new x) (p x) (λ un.
      let apart = or_parts (splits x.name r.command) (decides x.name r.command) un in
      let split = split_kept b x.name apart.0 in
      let decision =
      find_beside (λ d. decides x.name d.command) l r [] apart.1 ∙ ap (λ z. decision_of z x.name) (append-nil l) in
      let stands = ap (λ p. unwrap_or (option_map (same_place at) p) false)
      (sym (place_same (l ++ r ∷ []) l x.name y.0 b.grown y.1 (sym decision))) in
      let trades = trades_kept b instrument side x.name y.0 y.1 in
      λ i.
      cond (is_none (split i)) (cond (stands i && trades i) x.lots 0) 0))) in
      let left = sum_plus new (λ x. cond (p x) (old x) 0) (nodes l) in
      let right = sum_plus old (λ x. cond (p x) (new x) 0) (nodes l) in
      omega (
        arith,
        position_is (l ++ r ∷ []) at instrument side,
        position_is l at instrument side,
        sum_filter old p (nodes l),
        sum_filter new p (nodes l),
      );
  charged =
      let h : Record → Option Charge = λ d. charge_of t (l ++ r ∷ []) d.command in
      let own = sym (own_charge b) in
      let kept = all_in (λ (d : Record). charge_of t l d.command ≡ h d) l (charge_kept b) in
      let old = sym (gives_alike (λ d. charge_of t l d.command) h l kept) in
      filter_map-append h l (r ∷ []) ∙ (λ i. old i ++ cons_option (own i) []);
}
