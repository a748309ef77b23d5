-- The changes of some trades alone give these trades the rows that they have.
use Rattle.std.proofs.Common.{◌≡◌, ℕ, zero, suc, ◌+◌, ◌-◌, min, ◌<◌, ◌≤◌, Bool, true, false, List, [], ◌∷◌, ◌++◌}
use Rattle.std.proofs.Common.{length, refl, sym, ◌∙◌, ap, subst, cond, arith, Contains, Option, inl, inr}
use Rattle.std.specs.Prelude.{Some, None, find, filter, flat_map, option_map, option_and_then}
use Rattle.std.specs.List.{All}
use Rattle.std.proofs.lemmas.Option.{same_Some}
use Rattle.std.proofs.lemmas.List.Elements.{All-cons, All-nil, All-head, All-tail, All-contains}
use Rattle.std.proofs.lemmas.List.Sums.{length-filter, count_by-le-length}
use Rattle.gu_base.specs.Numbers.{EntryPart}
use Rattle.gu_base.specs.House.{House}
use Rattle.gu_base.specs.History.{RisesFrom}
use Rattle.gu_base.specs.Nodes.{node_of, nodes_of, same_name, splits, decides, parent, split_of}
use Rattle.gu_base.specs.Nodes.{decision_of, claim_of, claimed_account}
use Rattle.gu_base.specs.Places.{line_within, line_of, place_along, place_of, place_of_kind, root_along}
use Rattle.gu_base.specs.Rows.{row_of, rows_within, rows_from, rows_of, parts_of, made_by, state_of, taker_of}
use Rattle.gu_base.specs.Standing.{IsLegal}
use Rattle.gu_base.specs.declared.command.Command.{Command}
use Rattle.gu_base.specs.declared.command.Command.TheVariants.{Trade, Split, Claim, Refuse, Cancel, Agree, Raise}
use Rattle.gu_base.specs.declared.command.Command.TheVariants.{Initiate, Decline, Reverse}
use Rattle.gu_base.specs.declared.entry.Record.{Record}
use Rattle.gu_base.specs.declared.node.Kind.TheVariants.{Root}
use Rattle.gu_base.specs.declared.node.Node.{Node}
use Rattle.gu_base.proofs.Basics.{none_or_some}
use Rattle.gu_base.proofs.NodeNames.{name_is, name_same, made, made_of, node_called, part_parent}
use Rattle.gu_base.proofs.Numbered.{rises_kept}
use Rattle.gu_base.proofs.PartPlaces.{no_low_part}
use Rattle.gu_base.proofs.Passing.{splits_well}
use Rattle.gu_base.proofs.Searches.{find_passes, found_in}
use Rattle.gu_depend.proofs.Finds.{all_in, cut_at, found_some, some_there}
use Rattle.gu_depend.proofs.Grown.{above, maker, makes, made_number, node_by_maker}
use Rattle.gu_depend.proofs.Replay.{Legal, legal_list}
use Rattle.gu_depend.proofs.StandsLast.{accepted_at, node_of_maker}
use Rattle.gu_depend.proofs.StandsUnder.{rises_distinct}
use Rattle.gu_lives.specs.Trades.{trade_at, trade_of, passes, in_trades}
use Rattle.gu_lives.proofs.KeptLegal.{kept_is_legal}
use Rattle.gu_lives.proofs.WholeLive.{distinct_kept}
use Rattle.gu_lives.proofs.WholeTrades.{split_trade, decided_trade, grown, own_trade, part_trade, whole_trades}

flat_agree : {A B : Type 0} (f g : A → List B) (xs : List A) → ((x : A) → Contains xs x → f x ≡ g x)
    → flat_map f xs ≡ flat_map g xs
flat_agree {A} f g xs each = go xs (all_in (λ (x : A). f x ≡ g x) xs each)
  where
    go : (xs : List A) → All (λ x. f x ≡ g x) xs → flat_map f xs ≡ flat_map g xs
    go [] all = refl
    go (x ∷ xs) all =
        ap (λ ys. ys ++ flat_map f xs) (All-head (λ (x : A). f x ≡ g x) x xs all)
        ∙ ap (λ ys. g x ++ ys) (go xs (All-tail (λ (x : A). f x ≡ g x) x xs all))

-- what is found of those that are kept, where all that pass are
found_step : {A : Type 0} (x : A) (rest other : Option A) (p q : Bool) → (p ≡ true → q ≡ true) → rest ≡ other
    → (find : A → Option A → Option A) → ((y : A) (o : Option A) → find y o ≡ cond p (Some y) o)
    → cond q (find x rest) rest ≡ cond p (Some x) other
found_step x rest other true q keeps same find is =
    ap (λ b. cond b (find x rest) rest) (keeps refl) ∙ is x rest
found_step x rest other false true keeps same find is = is x rest ∙ same
found_step x rest other false false keeps same find is = same

filter_first : {A : Type 0} (p : A → Bool) (x : A) (xs : List A) (b : Bool)
    → find p (cond b (x ∷ xs) xs) ≡ cond b (cond (p x) (Some x) (find p xs)) (find p xs)
filter_first p x xs true = refl
filter_first p x xs false = refl

pub find_kept : {A : Type 0} (p q : A → Bool) (xs : List A) → All (λ x. p x ≡ true → q x ≡ true) xs
    → find p (filter q xs) ≡ find p xs
find_kept p q [] all = refl
find_kept {A} p q (x ∷ xs) all =
    filter_first p x (filter q xs) (q x)
    ∙ found_step x (find p (filter q xs)) (find p xs) (p x) (q x)
    (All-head (λ (x : A). p x ≡ true → q x ≡ true) x xs all)
    (find_kept p q xs (All-tail (λ (x : A). p x ≡ true → q x ≡ true) x xs all))
    (λ y o. cond (p x) (Some y) o) (λ y o. refl)

-- ---- levels: below a node come Splits with higher and higher numbers

abbrev over : ℕ → List Record → ℕ
over n [] = 0
over n (r ∷ l) = min 1 (r.number - n) + over n l

over_length : (n : ℕ) (l : List Record) → over n l ≤ length l
over_length n [] = omega arith
over_length n (r ∷ l) = omega (arith, over_length n l)

over_fewer : (n m : ℕ) (l : List Record) → n ≤ m → over m l ≤ over n l
over_fewer n m [] h = omega arith
over_fewer n m (r ∷ l) h = omega (arith, h, over_fewer n m l h)

over_falls : (n : ℕ) (r : Record) (xs ys : List Record) → n < r.number
    → over r.number (xs ++ r ∷ ys) + 1 ≤ over n (xs ++ r ∷ ys)
over_falls n r [] ys h = omega (arith, h, over_fewer n r.number ys (omega (arith, h)))
over_falls n r (d ∷ xs) ys h = omega (arith, h, over_falls n r xs ys h)

rises_filter : (p : Record → Bool) (n : ℕ) (l : List Record) → RisesFrom n l → RisesFrom n (filter p l)
rises_filter p n [] rises = tt
rises_filter p n (r ∷ l) rises =
    rises_kept n r (filter p l) rises.0 (rises_filter p (r.number + 1) l rises.1) (p r)

rises_to : (n : ℕ) (b : List Record) (r : Record) (rest : List Record) → RisesFrom n (b ++ r ∷ rest) → n ≤ r.number
rises_to n [] r rest rises = rises.0
rises_to n (d ∷ b) r rest rises =
    let a = rises_to (d.number + 1) b r rest rises.1 in
    let c : n ≤ d.number = rises.0 in
    omega (arith, a, c)

rises_before : (n : ℕ) (b : List Record) (r : Record) (rest : List Record) → RisesFrom n (b ++ r ∷ rest)
    → All (λ m. m.number < r.number) b
rises_before n [] r rest rises = All-nil (λ (m : Record). m.number < r.number)
rises_before n (d ∷ b) r rest rises =
    let a = rises_to (d.number + 1) b r rest rises.1 in
    All-cons (λ (m : Record). m.number < r.number) d b (omega (arith, a))
    (rises_before (d.number + 1) b r rest rises.1)

-- what a part of a Split is
record IsPartOf (l : List Record) (n : EntryPart) (r : Record) (y : Node) : Type 0 where
  node : Node
  there : node_of l y.name ≡ Some node
  entry : y.name.entry ≡ r.number
  below : parent node.kind ≡ Some n

split_parent : (n m : EntryPart) (k : ℕ) (by : List ℕ) (c : Command) (z : Node) → splits n c ≡ true
    → find (λ x. same_name x.name m) (nodes_of k by c) ≡ Some z → parent z.kind ≡ Some n
split_parent n m k by (Split o ps) z is h = part_parent m o k 1 by ps z h ∙ ap Some (name_is o n is)
split_parent n m k by (Trade _ _ _ _ _) z is h = absurd (cc)
split_parent n m k by (Claim _ _) z is h = absurd (cc)
split_parent n m k by (Refuse _) z is h = absurd (cc)
split_parent n m k by (Cancel _) z is h = absurd (cc)
split_parent n m k by (Agree _ _ _ _) z is h = absurd (cc)
split_parent n m k by (Raise _ _) z is h = absurd (cc)
split_parent n m k by (Initiate _) z is h = absurd (cc)
split_parent n m k by (Decline _) z is h = absurd (cc)
split_parent n m k by (Reverse _) z is h = absurd (cc)

module _ (t : House) (l : List Record) (legal : Legal t l) where
  is_part : (n : EntryPart) (r : Record) (y : Node) → split_of l n ≡ Some r → Contains (made r) y → IsPartOf l n r y
  is_part n r y found among =
      let first = found_some (λ x. same_name x.name y.name) (made r) y among (name_same y.name) in
      let at = found_in (λ r. splits n r.command) l r found in
      record {
        node = first.0;
        there = node_of_maker l r y.name first.0 legal.once at first.1;
        entry = made_number r y.name first.0 first.1;
        below = split_parent n y.name r.number r.firm r.command first.0
            (find_passes (λ r. splits n r.command) l r found) first.1;
      }

  module _ (rises : RisesFrom 0 l) where
    -- a Split is later than what made its node
    split_later : (n : EntryPart) (r : Record) → split_of l n ≡ Some r → n.entry < r.number
    split_later n r found =
        let c = cut_at l r (found_in (λ r. splits n r.command) l r found) in
        let s = splits_well t c.before r.firm r.command n (accepted_at t l c.before r c.behind legal c.is)
        (find_passes (λ r. splits n r.command) l r found) in
        let m = maker c.before n s.node s.there in
        let entry : n.entry ≡ m.change.number = made_number m.change n s.node m.makes_it in
        let less : m.change.number < r.number =
        All-contains (λ (d : Record). d.number < r.number) c.before m.change
        (rises_before 0 c.before r c.behind (subst (RisesFrom 0) c.is rises)) m.among in
        omega (arith, entry, less)

    leaf_rows : (k depth : ℕ) (x : Node) → split_of l x.name ≡ None → rows_within k l depth x ≡ row_of l depth x ∷ []
    leaf_rows zero depth x none = refl
    leaf_rows (suc k) depth x none =
        ap (λ o. row_of l depth x ∷ flat_map (rows_within k l (depth + 1)) (made_by o)) none

    over_less : (n : EntryPart) (r : Record) → split_of l n ≡ Some r → over r.number l + 1 ≤ over n.entry l
    over_less n r found =
        let c = cut_at l r (found_in (λ r. splits n r.command) l r found) in
        subst (λ z. over r.number z + 1 ≤ over n.entry z) (sym c.is)
        (over_falls n.entry r c.before c.behind (split_later n r found))

    -- as many levels as there are higher numbers, or more, are enough
    more_levels : (k j depth : ℕ) (x : Node) → over x.name.entry l ≤ k → over x.name.entry l ≤ j
        → rows_within k l depth x ≡ rows_within j l depth x
    more_levels zero zero depth x far long = refl
    more_levels zero (suc j) depth x far long = elim (none_or_some (split_of l x.name)) [
      | inl none ↦ sym (leaf_rows (suc j) depth x none)
      | inr r ↦ absurd (let less = over_less x.name r.0 r.1 in omega (arith, less, far))
    ]
    more_levels (suc k) zero depth x far long = elim (none_or_some (split_of l x.name)) [
      | inl none ↦ leaf_rows (suc k) depth x none
      | inr r ↦ absurd (let less = over_less x.name r.0 r.1 in omega (arith, less, long))
    ]
    more_levels (suc k) (suc j) depth x far long = elim (none_or_some (split_of l x.name)) [
      | inl none ↦ leaf_rows (suc k) depth x none ∙ sym (leaf_rows (suc j) depth x none)
      | inr r ↦ (
          let less = over_less x.name r.0 r.1 in
          let parts : parts_of l x.name ≡ made r.0 = ap made_by r.1 in
          ap (λ rs. row_of l depth x ∷ rs)
          (flat_agree (rows_within k l (depth + 1)) (rows_within j l (depth + 1)) (parts_of l x.name) (λ y among.
          let part = is_part x.name r.0 y r.1 (subst (λ ys. Contains ys y) parts among) in
          let fewer : over y.name.entry l ≡ over r.0.number l = ap (λ n. over n l) part.entry in
          more_levels k j (depth + 1) y (omega (arith, fewer, less, far)) (omega (arith, fewer, less, long)))))
    ]

-- ---- what is found of the trades that are kept

module _ (t : House) (l : List Record) (rises : RisesFrom 0 l) (is_legal : IsLegal t l) (p : ℕ → Bool) where
  abbrev q : Record → Bool
  q = in_trades l p

  abbrev b : List Record
  b = filter q l

  pub legal : Legal t l
  legal = legal_list t l (rises_distinct 0 l rises) is_legal

  pub legal_b : Legal t b
  legal_b =
      let distinct = rises_distinct 0 l rises in
      legal_list t b (distinct_kept q l distinct)
      (kept_is_legal t l q distinct is_legal (whole_trades t l p distinct is_legal))

  rises_b : RisesFrom 0 b
  rises_b = rises_filter q 0 l rises

  pub shorter : length b ≤ length l
  shorter = let a = length-filter q l in let c = count_by-le-length q l in omega (arith, a, c)

  -- the node's trade is kept
  abbrev In : EntryPart → Type 0
  In n = passes p (trade_at l n) ≡ true

  pub split_kept : (n : EntryPart) → In n → split_of b n ≡ split_of l n
  split_kept n kept =
      find_kept (λ r. splits n r.command) q l
      (all_in (λ (r : Record). splits n r.command ≡ true → q r ≡ true) l
      (λ r among is. ap (passes p) (split_trade l r.number n r.command is) ∙ kept))

  decision_kept : (n : EntryPart) → In n → decision_of b n ≡ decision_of l n
  decision_kept n kept =
      find_kept (λ r. decides n r.command) q l
      (all_in (λ (r : Record). decides n r.command ≡ true → q r ≡ true) l
      (λ r among is. ap (passes p) (decided_trade l r.number n r.command is) ∙ kept))

  -- a change that makes a node is of its trade
  pub made_trade : (r : Record) (c : Command) (n : EntryPart) (x : Node) → r.command ≡ c → Contains l r
      → made_of r n ≡ Some x → node_of l n ≡ Some x → trade_at l n ≡ trade_of l r.number c
  made_trade r (Trade f a i s lots) n x is among made found =
      let root : Node = record {
        name = record { entry = r.number; part = 0 };
        lots = lots;
        kind = Root (record { firm = f; account = a });
      } in
      let it : x ≡ root =
      root_told root (same_name root.name n) x
      (sym (ap (λ d. find (λ x. same_name x.name n) (nodes_of r.number r.firm d)) is) ∙ made) in
      own_trade t l legal r f a i x n among made (node_called l n x found) (ap (λ (z : Node). parent z.kind) it)
      ∙ ap Some (made_number r n x made)
    where
      root_told : (root : Node) (c : Bool) (x : Node) → cond c (Some root) None ≡ Some x → x ≡ root
      root_told root true x h = sym (same_Some root x h)
      root_told root false x h = absurd (cc)
  made_trade r (Split m ps) n x is among made found =
      let up = part_parent n m r.number 1 r.firm ps x
      (sym (ap (λ d. find (λ x. same_name x.name n) (nodes_of r.number r.firm d)) is) ∙ made) in
      let y = above l l n m x (grown t l legal) found up in
      part_trade t l legal n m x y.node found up y.there
  made_trade r (Claim _ _) n x is among made found = absurd (nothing_made r _ n x is made refl)
    where
      nothing_made : (r : Record) (c : Command) (n : EntryPart) (x : Node) → r.command ≡ c → made_of r n ≡ Some x
          → nodes_of r.number r.firm c ≡ [] → ⊥
      nothing_made r c n x is made none = cc
  made_trade r _ n x is among made found = absurd (cc)

  pub node_kept : (n : EntryPart) → In n → node_of b n ≡ node_of l n
  node_kept n kept =
      node_by_maker b n
      ∙ (ap (option_and_then (λ r. made_of r n))
      (find_kept (makes n) q l
      (all_in (λ (r : Record). makes n r ≡ true → q r ≡ true) l
      (λ r among is.
      let x = some_there (made_of r n) is in
      ap (passes p) (sym (made_trade r r.command n x.0 refl among x.1 (node_of_maker l r n x.0 legal.once among x.1)))
      ∙ kept)))
      ∙ sym (node_by_maker l n))

  claim_kept : (n : EntryPart) → In n → claim_of b n ≡ claim_of l n
  claim_kept n kept = ap (option_and_then (λ r. claimed_account r.command)) (decision_kept n kept)

  -- ---- places

  along_kept : (f : ℕ) (n : EntryPart) (x : Node) → node_of l n ≡ Some x → In n
      → place_along b (line_within f b (Some x)) ≡ place_along l (line_within f l (Some x))
  along_kept zero n x found kept = refl
  along_kept (suc f) n x found kept =
      let named = node_called l n x found in
      let claim : claim_of b x.name ≡ claim_of l x.name = claim_kept x.name (subst In (sym named) kept) in
      ap (λ c. place_of_kind x.kind c (place_along b (line_within f b (option_and_then (node_of b) (parent x.kind)))))
      claim
      ∙ ap (place_of_kind x.kind (claim_of l x.name)) (elim (none_or_some (parent x.kind)) [
        | inl none ↦
            ap (λ o. place_along b (line_within f b (option_and_then (node_of b) o))) none
            ∙ sym (ap (λ o. place_along l (line_within f l (option_and_then (node_of l) o))) none)
        | inr m ↦ (
            let y = above l l n m.0 x (grown t l legal) found m.1 in
            let inside : In m.0 =
            ap (passes p) (sym (part_trade t l legal n m.0 x y.node found m.1 y.there)) ∙ kept in
            ap (λ o. place_along b (line_within f b (option_and_then (node_of b) o))) m.1
            ∙ (ap (λ o. place_along b (line_within f b o)) (node_kept m.0 inside ∙ y.there)
            ∙ (along_kept f m.0 y.node y.there inside
            ∙ (ap (λ o. place_along l (line_within f l o)) (sym y.there)
            ∙ sym (ap (λ o. place_along l (line_within f l (option_and_then (node_of l) o))) m.1)))))
      ])

  line_kept : (f : ℕ) (n : EntryPart) (x : Node) → node_of l n ≡ Some x → In n
      → line_within f b (Some x) ≡ line_within f l (Some x)
  line_kept zero n x found kept = refl
  line_kept (suc f) n x found kept = ap (λ xs. x ∷ xs) (elim (none_or_some (parent x.kind)) [
    | inl none ↦
        ap (λ o. line_within f b (option_and_then (node_of b) o)) none
        ∙ sym (ap (λ o. line_within f l (option_and_then (node_of l) o)) none)
    | inr m ↦ (
        let y = above l l n m.0 x (grown t l legal) found m.1 in
        let inside : In m.0 =
        ap (passes p) (sym (part_trade t l legal n m.0 x y.node found m.1 y.there)) ∙ kept in
        ap (λ o. line_within f b (option_and_then (node_of b) o)) m.1
        ∙ (ap (λ o. line_within f b o) (node_kept m.0 inside ∙ y.there)
        ∙ (line_kept f m.0 y.node y.there inside
        ∙ (ap (λ o. line_within f l o) (sym y.there)
        ∙ sym (ap (λ o. line_within f l (option_and_then (node_of l) o)) m.1)))))
  ])

  line_by : (n : EntryPart) → In n → (o : Option Node) → node_of l n ≡ o → line_of b n ≡ line_of l n
  line_by n kept None found =
      ap (λ o. line_within (length b) b o) (node_kept n kept ∙ found)
      ∙ sym (ap (λ o. line_within (length l) l o) found)
  line_by n kept (Some x) found =
      let there : node_of b n ≡ Some x = node_kept n kept ∙ found in
      ap (λ o. line_within (length b) b o) there
      ∙ (sym ((grown t b legal_b).ends (length l) n x there shorter)
      ∙ (line_kept (length l) n x found kept ∙ sym (ap (λ o. line_within (length l) l o) found)))

  pub line_of_kept : (n : EntryPart) → In n → line_of b n ≡ line_of l n
  line_of_kept n kept = line_by n kept (node_of l n) refl

  place_by : (n : EntryPart) → In n → (o : Option Node) → node_of l n ≡ o → place_of b n ≡ place_of l n
  place_by n kept None found =
      ap (λ o. place_along b (line_within (length b) b o)) (node_kept n kept ∙ found)
      ∙ sym (ap (λ o. place_along l (line_within (length l) l o)) found)
  place_by n kept (Some x) found =
      let there : node_of b n ≡ Some x = node_kept n kept ∙ found in
      ap (λ o. place_along b (line_within (length b) b o)) there
      ∙ (ap (place_along b) (sym ((grown t b legal_b).ends (length l) n x there shorter))
      ∙ (along_kept (length l) n x found kept
      ∙ sym (ap (λ o. place_along l (line_within (length l) l o)) found)))

  pub place_kept : (n : EntryPart) → In n → place_of b n ≡ place_of l n
  place_kept n kept = place_by n kept (node_of l n) refl

  -- ---- rows

  pub row_kept : (depth : ℕ) (x : Node) → In x.name → row_of b depth x ≡ row_of l depth x
  row_kept depth x kept = λ i. record {
    depth = depth;
    name = x.name;
    lots = x.lots;
    place = place_kept x.name kept i;
    state = state_of x.kind (decision_kept x.name kept i);
    taker = taker_of x.kind;
    decision = option_map (λ r. r.number) (decision_kept x.name kept i);
  }

  within_kept : (k depth : ℕ) (x z : Node) → node_of l x.name ≡ Some z → In x.name
      → rows_within k b depth x ≡ rows_within k l depth x
  within_kept zero depth x z found kept = ap (λ r. r ∷ []) (row_kept depth x kept)
  within_kept (suc k) depth x z found kept =
      ap (λ r. r ∷ flat_map (rows_within k b (depth + 1)) (parts_of b x.name)) (row_kept depth x kept)
      ∙ ap (λ rs. row_of l depth x ∷ rs)
      (ap (λ o. flat_map (rows_within k b (depth + 1)) (made_by o)) (split_kept x.name kept)
      ∙ parts_agree k depth x z found kept (split_of l x.name) refl
      (λ y w there inside. within_kept k (depth + 1) y w there inside))
    where
      parts_agree : (k depth : ℕ) (x z : Node) → node_of l x.name ≡ Some z → In x.name → (o : Option Record)
          → split_of l x.name ≡ o
          → ((y w : Node) → node_of l y.name ≡ Some w → In y.name
          → rows_within k b (depth + 1) y ≡ rows_within k l (depth + 1) y)
          → flat_map (rows_within k b (depth + 1)) (made_by o) ≡ flat_map (rows_within k l (depth + 1)) (made_by o)
      parts_agree k depth x z found kept None split each = refl
      parts_agree k depth x z found kept (Some r) split each =
          flat_agree (rows_within k b (depth + 1)) (rows_within k l (depth + 1)) (made r) (λ y among.
          let part = is_part t l legal x.name r y split among in
          each y part.node part.there
          (ap (passes p) (part_trade t l legal y.name x.name part.node z part.there part.below found) ∙ kept))

  from_kept : (n : EntryPart) → In n → (o : Option Node) → node_of l n ≡ o → rows_from b o ≡ rows_from l o
  from_kept n kept None found = refl
  from_kept n kept (Some x) found =
      let named = node_called l n x found in
      let low = over_length x.name.entry b in
      more_levels t b legal_b rises_b (length b) (length l) 0 x low (omega (arith, low, shorter))
      ∙ within_kept (length l) 0 x x (subst (λ z. node_of l z ≡ Some x) (sym named) found) (subst In (sym named) kept)

  rows_kept : (trade : ℕ) → In (record { entry = trade; part = 0 }) → rows_of b trade ≡ rows_of l trade
  rows_kept trade kept =
      let n : EntryPart = record { entry = trade; part = 0 } in
      ap (rows_from b) (node_kept n kept) ∙ from_kept n kept (node_of l n) refl

  -- ---- the root's trade

  root_made : (r : Record) (c : Command) (trade : ℕ) (x : Node) → r.command ≡ c
      → made_of r (record { entry = trade; part = 0 }) ≡ Some x → trade_of l r.number c ≡ Some r.number
  root_made r (Trade _ _ _ _ _) trade x is made = refl
  root_made r (Split m ps) trade x is made =
      let n : EntryPart = record { entry = trade; part = 0 } in
      let none = no_low_part r.number 1 n m r.firm ps (omega arith) in
      absurd (cc (ap (λ d. find (λ x. same_name x.name n) (nodes_of r.number r.firm d)) is))
  root_made r _ trade x is made = absurd (cc)

  root_in : (trade : ℕ) → p trade ≡ true → (o : Option Node) → node_of l (record { entry = trade; part = 0 }) ≡ o
      → In (record { entry = trade; part = 0 })
  root_in trade passes_it None found =
      ap (λ o. passes p (option_map (λ (r : EntryPart). r.entry) (root_along (line_within (length l) l o)))) found
  root_in trade passes_it (Some x) found =
      let n : EntryPart = record { entry = trade; part = 0 } in
      let m = maker l n x found in
      let number : trade ≡ m.change.number = made_number m.change n x m.makes_it in
      ap (passes p)
      (made_trade m.change m.change.command n x refl m.among m.makes_it found
      ∙ root_made m.change m.change.command trade x refl m.makes_it)
      ∙ (ap p (sym number) ∙ passes_it)

  pub trees_kept : (trade : ℕ) → p trade ≡ true → rows_of b trade ≡ rows_of l trade
  trees_kept trade passes_it =
      rows_kept trade (root_in trade passes_it (node_of l (record { entry = trade; part = 0 })) refl)
