-- Positions, fees and lots used are the sums over some trades and over the others.
use Rattle.std.proofs.Common.{◌≡◌, ℕ, ◌+◌, Bool, true, false, not, ◌&&◌, List, [], ◌∷◌, ◌++◌, refl, sym, ◌∙◌, ap, cond}
use Rattle.std.proofs.Common.{arith, Contains, Option, length}
use Rattle.std.specs.Prelude.{Some, None, filter, filter_map, find, sum_by, option_map, option_and_then, is_none}
use Rattle.std.specs.Prelude.{is_some, unwrap_or, bytes_eq, ◌==◌, ◌*◌, ◌||◌}
use Rattle.std.specs.List.{All, cons_option}
use Rattle.std.proofs.lemmas.Bool.{and_parts}
use Rattle.std.proofs.lemmas.Bool.Decides.{Decides-eqb}
use Rattle.std.proofs.lemmas.List.Elements.{All-head, All-tail, All-filter, filter-append}
use Rattle.std.proofs.lemmas.List.Sums.{sum_by-cons, sum_by-append}
use Rattle.gu_base.specs.Numbers.{EntryPart}
use Rattle.gu_base.specs.House.{House}
use Rattle.gu_base.specs.History.{RisesFrom}
use Rattle.gu_base.specs.Nodes.{node_of, nodes, nodes_of, same_name, split_of, parent}
use Rattle.gu_base.specs.Places.{line_within, line_of, root_along, root_of, same_place}
use Rattle.gu_base.specs.Positions.{stands_at, trades_in, is_trade_of, position_of}
use Rattle.gu_base.specs.Fees.{charge_of, charge_of_node, charge_of_kind, charges, counted}
use Rattle.gu_base.specs.Standing.{IsLegal}
use Rattle.gu_base.specs.Terms.{deed_of, used_by_deed, used_of}
use Rattle.gu_base.specs.declared.command.Side.{Side}
use Rattle.gu_base.specs.declared.command.Command.{Command}
use Rattle.gu_base.specs.declared.command.Command.TheVariants.{Trade, Split, Claim, Refuse, Cancel, Agree, Raise}
use Rattle.gu_base.specs.declared.command.Command.TheVariants.{Initiate, Decline, Reverse}
use Rattle.gu_base.specs.declared.entry.Record.{Record}
use Rattle.gu_base.specs.declared.house.Agreement.{Agreement}
use Rattle.gu_base.specs.declared.house.Deed.{Deed}
use Rattle.gu_base.specs.declared.house.Dealing.{Dealing}
use Rattle.gu_base.specs.declared.node.Charge.{Charge}
use Rattle.gu_base.specs.declared.node.Place.{Place}
use Rattle.gu_base.specs.declared.node.Kind.{Kind}
use Rattle.gu_base.specs.declared.node.Kind.TheVariants.{Root, Own, Given}
use Rattle.gu_base.specs.declared.node.Node.{Node}
use Rattle.gu_base.proofs.NodeNames.{made, name_same}
use Rattle.gu_base.proofs.Sums.{sum_option, sum_kept}
use Rattle.gu_depend.proofs.Finds.{all_in, found_some}
use Rattle.gu_depend.proofs.Grown.{NamesThere}
use Rattle.gu_depend.specs.Under.{names}
use Rattle.gu_depend.proofs.Replay.{Legal, legal_list}
use Rattle.gu_depend.proofs.StandsLast.{node_of_maker}
use Rattle.gu_depend.proofs.StandsUnder.{rises_distinct}
use Rattle.gu_depend.proofs.Vocabulary.{All-contains}
use Rattle.gu_lives.specs.Trades.{trade_at, trade_of, passes, in_trades, part, IsSplitInTwo}
use Rattle.gu_lives.proofs.KeptTrees.{split_kept, place_kept, node_kept, made_trade, line_of_kept, find_kept}
use Rattle.gu_lives.proofs.KeptTerms.{deed_kept, tells_of_trades}
use Rattle.gu_lives.proofs.WholeTrades.{grown, long_enough}

-- ---- a sum over two parts

one_of_two : (q r : Bool) (w u v x y z : ℕ) → (q ≡ true → u ≡ w) → (r ≡ true → v ≡ w)
    → (q ≡ true → r ≡ true → w ≡ 0) → (q ≡ false → r ≡ true) → x + y ≡ z
    → (cond q u 0 + x) + (cond r v 0 + y) ≡ w + z
one_of_two true true w u v x y z a b none some h =
    let e = a refl in let f = b refl in let g = none refl refl in omega (arith, e, f, g, h)
one_of_two true false w u v x y z a b none some h = let e = a refl in omega (arith, e, h)
one_of_two false true w u v x y z a b none some h = let e = b refl in omega (arith, e, h)
one_of_two false false w u v x y z a b none some h = let e : false ≡ true = some refl in absurd (cc)

-- what is said of each element of a list that is split
record IsOneOf {A : Type 0} (q r : A → Bool) (w u v : A → ℕ) (x : A) : Type 0 where
  first : q x ≡ true → u x ≡ w x
  second : r x ≡ true → v x ≡ w x
  both : q x ≡ true → r x ≡ true → w x ≡ 0
  none : q x ≡ false → r x ≡ true

sum_in_two : {A : Type 0} (q r : A → Bool) (w u v : A → ℕ) (xs : List A) → All (IsOneOf q r w u v) xs
    → sum_by u (filter q xs) + sum_by v (filter r xs) ≡ sum_by w xs
sum_in_two q r w u v [] all = refl
sum_in_two q r w u v (x ∷ xs) all =
    let h = All-head (IsOneOf q r w u v) x xs all in
    let rest = sum_in_two q r w u v xs (All-tail (IsOneOf q r w u v) x xs all) in
    let a = sum_kept u (q x) x (filter q xs) in
    let b = sum_kept v (r x) x (filter r xs) in
    let c = sum_by-cons w x xs in
    let d = one_of_two (q x) (r x) (w x) (u x) (v x) (sum_by u (filter q xs)) (sum_by v (filter r xs)) (sum_by w xs)
    h.first h.second h.both h.none rest in
    omega (arith, a, b, c, d)

-- ---- sums by record

-- what a firm's charges sum to
charges_by : (takes : Charge → Bool) (counts : Charge → ℕ) (f : Record → Option Charge) (l : List Record)
    → sum_by counts (filter takes (filter_map f l)) ≡ sum_by (λ r. counted takes counts (f r)) l
charges_by takes counts f [] = refl
charges_by takes counts f (r ∷ l) =
    let a = sum_option takes counts (f r) (filter_map f l) in
    let b = charges_by takes counts f l in
    let c = sum_by-cons (λ (r : Record). counted takes counts (f r)) r l in
    omega (arith, a, b, c)

abbrev uses : Option Deed → ℕ
uses None = 0
uses (Some d) = used_by_deed d

use_option : (n : ℕ) (o : Option Deed) (ds : List Dealing)
    → sum_by (λ (d : Dealing). used_by_deed d.deed)
    (cons_option (option_map (λ d. record { number = n; deed = d }) o) ds)
    ≡ uses o + sum_by (λ (d : Dealing). used_by_deed d.deed) ds
use_option n None ds = omega arith
use_option n (Some d) ds = sum_by-cons (λ (d : Dealing). used_by_deed d.deed) (record { number = n; deed = d }) ds

used_by_record : (f : Record → Option Deed) (l : List Record)
    → sum_by (λ (d : Dealing). used_by_deed d.deed)
    (filter_map (λ r. option_map (λ d. record { number = r.number; deed = d }) (f r)) l)
    ≡ sum_by (λ r. uses (f r)) l
used_by_record f [] = refl
used_by_record f (r ∷ l) =
    let a = use_option r.number (f r)
    (filter_map (λ r. option_map (λ d. record { number = r.number; deed = d }) (f r)) l) in
    let b = used_by_record f l in
    let c = sum_by-cons (λ (r : Record). uses (f r)) r l in
    omega (arith, a, b, c)

-- the lots of the leaves among these nodes that pass a test
abbrev lots_in : (Node → Bool) → (Node → Bool) → List Node → ℕ
lots_in leaf at xs = sum_by (λ x. x.lots) (filter at (filter leaf xs))

lots_append : (leaf at : Node → Bool) (xs ys : List Node)
    → lots_in leaf at (xs ++ ys) ≡ lots_in leaf at xs + lots_in leaf at ys
lots_append leaf at xs ys =
    ap (λ zs. sum_by (λ (x : Node). x.lots) (filter at zs)) (filter-append leaf xs ys)
    ∙ (ap (sum_by (λ (x : Node). x.lots)) (filter-append at (filter leaf xs) (filter leaf ys))
    ∙ sum_by-append (λ (x : Node). x.lots) (filter at (filter leaf xs)) (filter at (filter leaf ys)))

lots_by : (leaf at : Node → Bool) (l : List Record)
    → lots_in leaf at (nodes l) ≡ sum_by (λ r. lots_in leaf at (made r)) l
lots_by leaf at [] = refl
lots_by leaf at (r ∷ l) =
    let a = lots_append leaf at (made r) (nodes l) in
    let b = lots_by leaf at l in
    let c = sum_by-cons (λ (r : Record). lots_in leaf at (made r)) r l in
    omega (arith, a, b, c)

filter_same : (p q : Node → Bool) (xs : List Node) → All (λ x. p x ≡ q x) xs → filter p xs ≡ filter q xs
filter_same p q [] all = refl
filter_same p q (x ∷ xs) all =
    ap (λ b. cond b (x ∷ filter p xs) (filter p xs)) (All-head (λ (x : Node). p x ≡ q x) x xs all)
    ∙ ap (λ ys. cond (q x) (x ∷ ys) ys) (filter_same p q xs (All-tail (λ (x : Node). p x ≡ q x) x xs all))

not_passes : (p : ℕ → Bool) (o : Option ℕ) → passes p o ≡ false → passes (λ n. not (p n)) o ≡ true
not_passes p None h = refl
not_passes p (Some n) h = ap not h

both_pass : (p : ℕ → Bool) (o : Option ℕ) → passes p o ≡ true → passes (λ n. not (p n)) o ≡ true → o ≡ None
both_pass p None h k = refl
both_pass p (Some n) h k = let e : false ≡ true = sym (ap not h) ∙ k in absurd (cc)

-- it makes a node or names one
abbrev of_node : Command → Bool
of_node (Trade _ _ _ _ _) = true
of_node (Split _ _) = true
of_node (Claim _ _) = true
of_node (Refuse _) = true
of_node (Cancel _) = true
of_node _ = false

root_some : (x : Node) (xs : List Node) → (n : EntryPart) × (root_along (x ∷ xs) ≡ Some n)
root_some x [] = (x.name, refl)
root_some x (y ∷ xs) = root_some y xs

module _ (t : House) (l : List Record) (rises : RisesFrom 0 l) (is_legal : IsLegal t l) where
  -- a change of a node has a trade
  trade_there : (r : Record) (n : EntryPart) (y : Node) → Contains l r → node_of l n ≡ Some y → trade_at l n ≡ None → ⊥
  trade_there r n y among found none =
      let long = long_enough l r among in
      let line : line_of l n ≡ y ∷ line_within long.0 l (option_and_then (node_of l) (parent y.kind)) =
      ap (line_within (length l) l) found ∙ ap (λ f. line_within f l (Some y)) long.1 in
      let root = root_some y (line_within long.0 l (option_and_then (node_of l) (parent y.kind))) in
      let some : trade_at l n ≡ Some root.0.entry =
      ap (λ xs. option_map (λ (r : EntryPart). r.entry) (root_along xs)) line
      ∙ ap (option_map (λ (r : EntryPart). r.entry)) root.1 in
      cc

  named_there : (r : Record) (n : EntryPart) → Contains l r → names n r.command ≡ true → trade_at l n ≡ None → ⊥
  named_there r n among is none =
      let all = grown t l (legal_list t l (rises_distinct 0 l rises) is_legal) in
      let y = All-contains (NamesThere l) l r all.named among n is in
      trade_there r n y.0 among y.1 none

  abbrev once : Legal t l
  once = legal_list t l (rises_distinct 0 l rises) is_legal

  -- a change of no trade makes no node and claims none
  idle_of : (r : Record) (c : Command) → r.command ≡ c → Contains l r → trade_of l r.number c ≡ None
      → of_node c ≡ false
  idle_of r (Trade _ _ _ _ _) is among none = absurd (cc)
  idle_of r (Split n ps) is among none =
      absurd (named_there r n among (ap (names n) is ∙ ap (λ b. b || false) (name_same n)) none)
  idle_of r (Claim n _) is among none = absurd (named_there r n among (ap (names n) is ∙ name_same n) none)
  idle_of r (Refuse n) is among none = absurd (named_there r n among (ap (names n) is ∙ name_same n) none)
  idle_of r (Cancel n) is among none = absurd (named_there r n among (ap (names n) is ∙ name_same n) none)
  idle_of r (Agree _ _ _ _) is among none = refl
  idle_of r (Raise _ _) is among none = refl
  idle_of r (Initiate _) is among none = refl
  idle_of r (Decline _) is among none = refl
  idle_of r (Reverse _) is among none = refl

  -- ---- a change counts in its part as it counts in the whole

  module _ (p : ℕ → Bool) where
    charge_kept : (n : ℕ) (c : Command) → passes p (trade_of l n c) ≡ true
        → charge_of t (part l p) c ≡ charge_of t l c
    charge_kept n (Claim m _) kept =
        ap (option_and_then (charge_of_node t (part l p))) (node_kept t l rises is_legal p m kept)
        ∙ charge_found (node_of l m)
      where
        charge_kind : (lots : ℕ) (z : Kind) → charge_of_kind t (part l p) lots z ≡ charge_of_kind t l lots z
        charge_kind lots (Root _) = refl
        charge_kind lots (Own _ _ _) = refl
        charge_kind lots (Given _ g k) =
            ap (option_map (λ (a : Agreement). record { giver = g; taker = k; lots = lots; rate = a.rate }))
            ((tells_of_trades t l rises is_legal p).terms g k)

        charge_found : (o : Option Node)
            → option_and_then (charge_of_node t (part l p)) o ≡ option_and_then (charge_of_node t l) o
        charge_found None = refl
        charge_found (Some x) = charge_kind x.lots x.kind
    charge_kept n (Trade _ _ _ _ _) kept = refl
    charge_kept n (Split _ _) kept = refl
    charge_kept n (Refuse _) kept = refl
    charge_kept n (Cancel _) kept = refl
    charge_kept n (Agree _ _ _ _) kept = refl
    charge_kept n (Raise _ _) kept = refl
    charge_kept n (Initiate _) kept = refl
    charge_kept n (Decline _) kept = refl
    charge_kept n (Reverse _) kept = refl

    trade_kept : (i : List ℕ) (s : Side) (k : ℕ) (r : Record) → p k ≡ true
        → ((r.number == k) && is_trade_of i s r.command) ≡ true → in_trades l p r ≡ true
    trade_kept i s k r passed is =
        let a = and_parts (r.number == k) (is_trade_of i s r.command) is in
        trade_by r.number r.command (ap p ((Decides-eqb r.number k).0 a.0) ∙ passed) a.1
      where
        trade_by : (n : ℕ) (c : Command) → p n ≡ true → is_trade_of i s c ≡ true → passes p (trade_of l n c) ≡ true
        trade_by n (Trade _ _ _ _ _) passed is = passed
        trade_by n (Split _ _) passed is = absurd (cc)
        trade_by n (Claim _ _) passed is = absurd (cc)
        trade_by n (Refuse _) passed is = absurd (cc)
        trade_by n (Cancel _) passed is = absurd (cc)
        trade_by n (Agree _ _ _ _) passed is = absurd (cc)
        trade_by n (Raise _ _) passed is = absurd (cc)
        trade_by n (Initiate _) passed is = absurd (cc)
        trade_by n (Decline _) passed is = absurd (cc)
        trade_by n (Reverse _) passed is = absurd (cc)

    trades_by : (i : List ℕ) (s : Side) (o : Option EntryPart)
        → passes p (option_map (λ (r : EntryPart). r.entry) o) ≡ true
        → is_some (option_and_then (λ t. find (λ r. (r.number == t.entry) && is_trade_of i s r.command) (part l p)) o)
        ≡ is_some (option_and_then (λ t. find (λ r. (r.number == t.entry) && is_trade_of i s r.command) l) o)
    trades_by i s None kept = refl
    trades_by i s (Some n) kept =
        ap is_some
        (find_kept (λ r. (r.number == n.entry) && is_trade_of i s r.command) (in_trades l p) l
        (all_in (λ (r : Record). ((r.number == n.entry) && is_trade_of i s r.command) ≡ true → in_trades l p r ≡ true) l
        (λ r among is. trade_kept i s n.entry r kept is)))

    trades_kept : (i : List ℕ) (s : Side) (n : EntryPart) → passes p (trade_at l n) ≡ true
        → trades_in (part l p) i s n ≡ trades_in l i s n
    trades_kept i s n kept =
        ap (λ xs. is_some
        (option_and_then (λ t. find (λ r. (r.number == t.entry) && is_trade_of i s r.command) (part l p))
        (root_along xs)))
        (line_of_kept t l rises is_legal p n kept)
        ∙ trades_by i s (root_of l n) kept

    abbrev at_of : List Record → Place → List ℕ → Side → Node → Bool
    at_of l at i s x = stands_at l at x.name && trades_in l i s x.name

    abbrev leaf_of : List Record → Node → Bool
    leaf_of l x = is_none (split_of l x.name)

    made_in_trade : (r : Record) (x : Node) → Contains l r → Contains (made r) x → in_trades l p r ≡ true
        → passes p (trade_at l x.name) ≡ true
    made_in_trade r x among there kept =
        let first = found_some (λ y. same_name y.name x.name) (made r) x there (name_same x.name) in
        ap (passes p) (made_trade t l rises is_legal p r r.command x.name first.0 refl among first.1
        (node_of_maker l r x.name first.0 once.once among first.1)) ∙ kept

    lots_kept : (at : Place) (i : List ℕ) (s : Side) (r : Record) → Contains l r → in_trades l p r ≡ true
        → lots_in (leaf_of (part l p)) (at_of (part l p) at i s) (made r)
        ≡ lots_in (leaf_of l) (at_of l at i s) (made r)
    lots_kept at i s r among kept =
        let leaf = filter_same (leaf_of (part l p)) (leaf_of l) (made r)
        (all_in (λ (x : Node). leaf_of (part l p) x ≡ leaf_of l x) (made r)
        (λ x there. ap is_none (split_kept t l rises is_legal p x.name (made_in_trade r x among there kept)))) in
        let place = filter_same (at_of (part l p) at i s) (at_of l at i s) (filter (leaf_of l) (made r))
        (All-filter (leaf_of l) (λ (x : Node). at_of (part l p) at i s x ≡ at_of l at i s x) (made r)
        (all_in (λ (x : Node). at_of (part l p) at i s x ≡ at_of l at i s x) (made r)
        (λ x there.
        let inside = made_in_trade r x among there kept in
        ap (λ o. unwrap_or (option_map (same_place at) o) false && trades_in (part l p) i s x.name)
        (place_kept t l rises is_legal p x.name inside)
        ∙ ap (λ b. stands_at l at x.name && b) (trades_kept i s x.name inside)))) in
        ap (λ xs. sum_by (λ (x : Node). x.lots) (filter (at_of (part l p) at i s) xs)) leaf
        ∙ ap (sum_by (λ (x : Node). x.lots)) place

  idle_charge : (c : Command) → of_node c ≡ false → charge_of t l c ≡ None
  idle_charge (Trade _ _ _ _ _) h = refl
  idle_charge (Split _ _) h = refl
  idle_charge (Claim _ _) h = absurd (cc)
  idle_charge (Refuse _) h = refl
  idle_charge (Cancel _) h = refl
  idle_charge (Agree _ _ _ _) h = refl
  idle_charge (Raise _ _) h = refl
  idle_charge (Initiate _) h = refl
  idle_charge (Decline _) h = refl
  idle_charge (Reverse _) h = refl

  use_if : (b : Bool) (d : Deed) → used_by_deed d ≡ 0 → uses (cond b (Some d) None) ≡ 0
  use_if true d h = h
  use_if false d h = refl

  idle_uses : (g k by : List ℕ) (c : Command) → of_node c ≡ false → uses (deed_of l g k by c) ≡ 0
  idle_uses g k by (Trade _ _ _ _ _) h = refl
  idle_uses g k by (Split _ _) h = refl
  idle_uses g k by (Claim _ _) h = absurd (cc)
  idle_uses g k by (Refuse _) h = refl
  idle_uses g k by (Cancel _) h = refl
  idle_uses g k by (Agree x y _ _) h = use_if (bytes_eq x g && bytes_eq y k) _ refl
  idle_uses g k by (Raise x _) h = use_if (bytes_eq x g && bytes_eq by k) _ refl
  idle_uses g k by (Initiate _) h = refl
  idle_uses g k by (Decline _) h = refl
  idle_uses g k by (Reverse _) h = refl

  idle_made : (n : ℕ) (by : List ℕ) (c : Command) → of_node c ≡ false → nodes_of n by c ≡ []
  idle_made n by (Trade _ _ _ _ _) h = absurd (cc)
  idle_made n by (Split _ _) h = absurd (cc)
  idle_made n by (Claim _ _) h = refl
  idle_made n by (Refuse _) h = refl
  idle_made n by (Cancel _) h = refl
  idle_made n by (Agree _ _ _ _) h = refl
  idle_made n by (Raise _ _) h = refl
  idle_made n by (Initiate _) h = refl
  idle_made n by (Decline _) h = refl
  idle_made n by (Reverse _) h = refl

  -- ---- the sums

  module _ (p : ℕ → Bool) where
    abbrev others : ℕ → Bool
    others n = not (p n)

    parts_sum : (w u v : Record → ℕ)
        → ((r : Record) → Contains l r → in_trades l p r ≡ true → u r ≡ w r)
        → ((r : Record) → Contains l r → in_trades l others r ≡ true → v r ≡ w r)
        → ((r : Record) → Contains l r → of_node r.command ≡ false → w r ≡ 0)
        → sum_by u (part l p) + sum_by v (part l others) ≡ sum_by w l
    parts_sum w u v first second idle =
        sum_in_two (in_trades l p) (in_trades l others) w u v l
        (all_in (IsOneOf (in_trades l p) (in_trades l others) w u v) l (λ r among. record {
          first = first r among;
          second = second r among;
          both = λ a b. idle r among (idle_of r r.command refl among (both_pass p (trade_of l r.number r.command) a b));
          none = not_passes p (trade_of l r.number r.command);
        }))

    fees_sum : (takes : Charge → Bool) (counts : Charge → ℕ)
        → sum_by counts (filter takes (charges t (part l p))) + sum_by counts (filter takes (charges t (part l others)))
        ≡ sum_by counts (filter takes (charges t l))
    fees_sum takes counts =
        let a = charges_by takes counts (λ r. charge_of t (part l p) r.command) (part l p) in
        let b = charges_by takes counts (λ r. charge_of t (part l others) r.command) (part l others) in
        let c = charges_by takes counts (λ r. charge_of t l r.command) l in
        let d = parts_sum (λ r. counted takes counts (charge_of t l r.command))
        (λ r. counted takes counts (charge_of t (part l p) r.command))
        (λ r. counted takes counts (charge_of t (part l others) r.command))
        (λ r among kept. ap (counted takes counts) (charge_kept p r.number r.command kept))
        (λ r among kept. ap (counted takes counts) (charge_kept others r.number r.command kept))
        (λ r among idle. ap (counted takes counts) (idle_charge r.command idle)) in
        omega (arith, a, b, c, d)

    uses_sum : (g k : List ℕ) → used_of (part l p) g k + used_of (part l others) g k ≡ used_of l g k
    uses_sum g k =
        let a = used_by_record (λ r. deed_of (part l p) g k r.firm r.command) (part l p) in
        let b = used_by_record (λ r. deed_of (part l others) g k r.firm r.command) (part l others) in
        let c = used_by_record (λ r. deed_of l g k r.firm r.command) l in
        let d = parts_sum (λ r. uses (deed_of l g k r.firm r.command))
        (λ r. uses (deed_of (part l p) g k r.firm r.command))
        (λ r. uses (deed_of (part l others) g k r.firm r.command))
        (λ r among kept. ap uses (deed_kept t l rises is_legal p g k r.firm r.number r.command kept))
        (λ r among kept. ap uses (deed_kept t l rises is_legal others g k r.firm r.number r.command kept))
        (λ r among idle. idle_uses g k r.firm r.command idle) in
        omega (arith, a, b, c, d)

    lots_sum : (firm account i : List ℕ) (s : Side)
        → position_of (part l p) firm account i s + position_of (part l others) firm account i s
        ≡ position_of l firm account i s
    lots_sum firm account i s =
        let at : Place = record { firm = firm; account = account } in
        let a = lots_by (leaf_of p (part l p)) (at_of p (part l p) at i s) (part l p) in
        let b = lots_by (leaf_of p (part l others)) (at_of p (part l others) at i s) (part l others) in
        let c = lots_by (leaf_of p l) (at_of p l at i s) l in
        let d = parts_sum (λ r. lots_in (leaf_of p l) (at_of p l at i s) (made r))
        (λ r. lots_in (leaf_of p (part l p)) (at_of p (part l p) at i s) (made r))
        (λ r. lots_in (leaf_of p (part l others)) (at_of p (part l others) at i s) (made r))
        (λ r among kept. lots_kept p at i s r among kept)
        (λ r among kept. lots_kept others at i s r among kept)
        (λ r among idle. ap (lots_in (leaf_of p l) (at_of p l at i s)) (idle_made r.number r.firm r.command idle)) in
        omega (arith, a, b, c, d)

    pub split_in_two : IsSplitInTwo t l p
    split_in_two = record {
      positions = lots_sum;
      paid = λ firm. fees_sum (λ c. bytes_eq c.taker firm) (λ c. c.lots * c.rate);
      received = λ firm. fees_sum (λ c. bytes_eq c.giver firm) (λ c. c.lots * c.rate);
      used = uses_sum;
    }
