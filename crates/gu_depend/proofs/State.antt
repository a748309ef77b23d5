-- Lists that find the same, and have the same changes, leave the same trees, positions and fees.
use Rattle.gu_depend.proofs.Vocabulary
use Rattle.gu_base.{proofs.Sums.{sum_kept, sum_option}, specs.Rows.{made_by, row_of, rows_from, rows_within}}
use Rattle.gu_depend.proofs.Deals.{both_same, NamedOnce}
use Rattle.gu_depend.proofs.{Finds.{alike_at, counts_less, find_permuted}, Replay.{NumbersOnce, same_finds, SameFinds}}
use Vocabulary.{and_parts, ap, arith, Bool, Charge, charge_of, charge_of_kind, charges, Claim, claimed_account}
use Vocabulary.{Command, cond, counted, deed_of, EntryPart, false, filter, filter_map, flat_map, Given, House}
use Vocabulary.{is_none, is_some, is_trade_of, IsPermutation, IsSameState, Kind, limit_of, line_within, List, lots_at}
use Vocabulary.{made, name_same, names, Node, node_of, nodes, None, Option, option_and_then, option_map, parent}
use Vocabulary.{Place, place_along, place_of, place_of_kind, position_of, Record, refl, root_along, same_place, Side}
use Vocabulary.{Some, split_of, suc, sum_by, sum_by-append, sum_by-cons, sum_by-IsPermutation, sym, terms_of, trades_in}
use Vocabulary.{true, unwrap_or, use_of_kind, use_of_node, used_of, Uses, zero, [], ℕ, ◌&&◌, ◌+◌, ◌==◌, ◌∙◌, ◌∷◌, ◌≡◌}

module _ {l o : List Record} (f : SameFinds l o) where
  line_same : (n : ℕ) (x : Option Node) → line_within n o x ≡ line_within n l x
  line_same zero None = refl
  line_same (suc n) None = refl
  line_same zero (Some x) = refl
  line_same (suc n) (Some x) = λ i. x ∷ line_same n (option_and_then (λ m. f.nodes m i) (parent x.kind)) i

  along_same : (xs : List Node) → place_along o xs ≡ place_along l xs
  along_same [] = refl
  along_same (x ∷ xs) = λ i.
      place_of_kind x.kind (option_and_then (λ r. claimed_account r.command) (f.decisions x.name i)) (along_same xs i)

  place_same : (n : EntryPart) → place_of o n ≡ place_of l n
  place_same n = λ i. along_same (line_same (f.long i) (f.nodes n i) i) i

  row_same : (depth : ℕ) (x : Node) → row_of o depth x ≡ row_of l depth x
  row_same depth x = cc (place_same _, f.decisions x.name)

  rows_same : (levels depth : ℕ) (x : Node) → rows_within levels o depth x ≡ rows_within levels l depth x
  rows_same zero depth x = cc (row_same depth x)
  rows_same (suc levels) depth x =
      λ i. row_same depth x i ∷ flat_map (λ y. rows_same levels (depth + 1) y i) (made_by (f.splits_same x.name i))

  rows_from_same : (x : Option Node) → rows_from o x ≡ rows_from l x
  rows_from_same None = refl
  rows_from_same (Some x) = λ i. rows_same (f.long i) 0 x i

-- ---- sums over the nodes

pub sum_filter : {X : Type 0} (w : X → ℕ) (p : X → Bool) (xs : List X)
    → sum_by w (filter p xs) ≡ sum_by (λ x. cond (p x) (w x) 0) xs
sum_filter w p [] = refl
sum_filter w p (x ∷ xs) =
    omega (arith, sum_kept w (p x) x (filter p xs), sum_filter w p xs, sum_by-cons (λ x. cond (p x) (w x) 0) x xs)

pub position_is : (l : List Record) (at : Place) (instrument : List ℕ) (side : Side)
    → position_of l at.firm at.account instrument side ≡ sum_by (lots_at l at instrument side) (nodes l)
position_is l at instrument side =
    sum_filter _ _ (filter (λ x. is_none (split_of l x.name)) (nodes l))
    ∙ sum_filter _ (λ x. is_none (split_of l x.name)) (nodes l)

-- a sum over the nodes is one over the changes
pub sum_made : (w : Node → ℕ) (l : List Record) → sum_by w (nodes l) ≡ sum_by (λ r. sum_by w (made r)) l
sum_made w [] = refl
sum_made w (r ∷ l) =
    omega (arith, sum_by-append w (made r) (nodes l), sum_made w l, sum_by-cons (λ r. sum_by w (made r)) r l)

module _ {l o : List Record} (same : IsPermutation l o) (once : NumbersOnce l) (f : SameFinds l o) where
  trades_same : (instrument : List ℕ) (side : Side) (n : EntryPart)
      → trades_in o instrument side n ≡ trades_in l instrument side n
  trades_same instrument side n = λ i. is_some (option_and_then (λ t.
      let own : Record → Bool = λ r. r.number == t.entry in
      let trades : Record → Bool = λ r. own r && is_trade_of instrument side r.command in
      let few = counts_less _ own l (λ r h. (and_parts _ (is_trade_of instrument side r.command) h).0) in
      find_permuted trades l o same (omega (arith, once t.entry)) i)
      (root_along (line_same f (f.long i) (f.nodes n i) i)))

  positions_same : (firm account instrument : List ℕ) (side : Side)
      → position_of o firm account instrument side ≡ position_of l firm account instrument side
  positions_same firm account instrument side =
      let at : Place = record { firm = firm; account = account } in
      let w = lots_at l at instrument side in
      position_is o at _ _
      ∙ ((λ i.
      sum_by (λ x.
      cond (is_none (f.splits_same x.name i))
      (cond
      (unwrap_or (option_map (same_place at) (place_same f x.name i)) false && trades_same instrument side x.name i)
      x.lots 0)
      0)
      (nodes o))
      ∙ (sum_made w o
      ∙ (sum_by-IsPermutation (λ r. sum_by w (made r)) l o same
      ∙ (sym (sum_made w l) ∙ sym (position_is l at instrument side)))))

-- ---- sums over the charges

-- a sum over charges is one over the changes
pub sum_charged : (takes : Charge → Bool) (counts : Charge → ℕ) (h : Record → Option Charge) (l : List Record)
    → sum_by counts (filter takes (filter_map h l)) ≡ sum_by (λ r. counted takes counts (h r)) l
sum_charged takes counts h [] = refl
sum_charged takes counts h (r ∷ l) =
    omega (
      arith,
      sum_option takes counts (h r) (filter_map h l),
      sum_charged takes counts h l,
      sum_by-cons (λ r. counted takes counts (h r)) r l,
    )

-- the terms of each giver and taker are the same, and so are the limits, and what is used
pub record SameDeals (t : House) (l o : List Record) : Type 0 where
  pub terms : (g k : List ℕ) → terms_of t o g k ≡ terms_of t l g k
  pub limits : (g k : List ℕ) → limit_of t o g k ≡ limit_of t l g k
  pub used : (g k : List ℕ) → used_of o g k ≡ used_of l g k

-- the terms of those whose lots a change uses are the same in both lists
abbrev pub SameTermsFor : House → List Record → List Record → List ℕ → Command → Type 0
SameTermsFor t l b by c =
    (g k : List ℕ) (lots : ℕ) → deed_of b g k by c ≡ Some (Uses lots) → terms_of t b g k ≡ terms_of t l g k

charge_of_given : (t : House) (l b : List Record) (lots : ℕ) (kind : Kind)
    → ((g k : List ℕ) → use_of_kind g k lots kind ≡ Some (Uses lots) → terms_of t b g k ≡ terms_of t l g k)
    → charge_of_kind t b lots kind ≡ charge_of_kind t l lots kind
charge_of_given t l b lots (Given m g k) same = rw (same g k (rw (both_same g k)))
charge_of_given t l b lots _ same = refl

-- a change whose node and terms are the same is charged the same
pub charge_alike : (t : House) (l b : List Record) (by : List ℕ) (c : Command)
    → ((n : EntryPart) → names n c ≡ true → node_of b n ≡ node_of l n) → SameTermsFor t l b by c
    → charge_of t b c ≡ charge_of t l c
charge_alike t l b by (Claim n _) nodes same =
    cc (
      alike_at _ _ _ (λ x e.
          charge_of_given t l b _ _
          (λ g k deals. same g k _ (ap (option_and_then (use_of_node g k)) e ∙ deals))),
      nodes n (name_same n),
    )
charge_alike t l b by _ nodes same = refl

pub charge_same : (t : House) (l o : List Record) → SameFinds l o → SameDeals t l o → (c : Command)
    → charge_of t o c ≡ charge_of t l c
charge_same t l o f deals c = charge_alike t l o [] c (λ n _. f.nodes n) (λ g k lots _. deals.terms g k)

charges_same : (t : House) (takes : Charge → Bool) (counts : Charge → ℕ) (l o : List Record) → IsPermutation l o
    → SameFinds l o → SameDeals t l o
    → sum_by counts (filter takes (charges t o)) ≡ sum_by counts (filter takes (charges t l))
charges_same t takes counts l o same f deals =
    sum_charged _ _ _ o
    ∙ ((λ i. sum_by (λ r. counted takes counts (charge_same t l o f deals r.command i)) o)
    ∙ (sum_by-IsPermutation (λ r. counted takes counts (charge_of t l r.command)) l o same
    ∙ sym (sum_charged takes counts (λ r. charge_of t l r.command) l)))

-- every order of a list in which a node is split once and decided once, and no number stands twice, leaves the same,
-- where it leaves the same terms
pub state_same : (t : House) (l o : List Record) → IsPermutation l o → NumbersOnce l → NamedOnce l → SameDeals t l o
    → IsSameState t l o
state_same t l o same once s deals =
    let f = same_finds l o same once s in
    record {
      trees = λ trade i. rows_from_same f (f.nodes (record { entry = trade; part = 0 }) i) i;
      positions = positions_same same once f;
      paid = λ firm. charges_same t _ _ l o same f deals;
      received = λ firm. charges_same t _ _ l o same f deals;
      used = deals.used;
      terms = deals.terms;
      limits = deals.limits;
    }
