-- Which changes are of trades with an open part, and which numbers are kept.
use Rattle.std.proofs.Common.{◌≡◌, ℕ, zero, suc, ◌+◌, ◌*◌, ◌<◌, ◌≤◌, Bool, true, false, not, ◌&&◌, ◌||◌, List, []}
use Rattle.std.proofs.Common.{◌∷◌, length, map, refl, sym, ◌∙◌, ap, subst, cond, arith}
use Rattle.std.specs.Prelude.{Option, Some, None, find, filter, flat_map, is_none, is_some, bytes_eq, ◌==◌, nat_le}
use Rattle.std.specs.List.{list_any, Contains}
use Rattle.std.specs.BTreeSet.{BTreeSet, contains}
use Rattle.std.specs.Ordering.{nat_cmp}
use Rattle.std.proofs.lemmas.Bool.{and_parts, ne_eqb, leb-true}
use Rattle.std.proofs.lemmas.List.Elements.{Contains-append_left, Contains-append_right}
use Rattle.std.proofs.lemmas.List.Folds.{list_any-append}
use Rattle.gu_base.specs.House.{House}
use Rattle.gu_base.specs.Nodes.{decides, decision_of, is_given, is_offered, kind_of_part, node_of, nodes_of}
use Rattle.gu_base.specs.Nodes.{nodes_of_parts, same_name}
use Rattle.gu_base.specs.Numbers.{EntryPart}
use Rattle.gu_base.specs.Refusals.{row, split_row}
use Rattle.gu_base.specs.Standing.{IsLegal}
use Rattle.gu_base.specs.declared.command.Command.{Command}
use Rattle.gu_base.specs.declared.command.Command.TheVariants.{Trade, Split, Claim, Refuse, Cancel, Agree, Raise}
use Rattle.gu_base.specs.declared.command.Command.TheVariants.{Initiate, Decline, Reverse}
use Rattle.gu_base.specs.declared.command.Part.{Part}
use Rattle.gu_base.specs.declared.entry.Entry.{Entry}
use Rattle.gu_base.specs.declared.entry.Record.{Record}
use Rattle.gu_base.specs.declared.node.Kind.TheVariants.{Given, Own}
use Rattle.gu_base.specs.declared.node.Node.{Node}
use Rattle.gu_base.proofs.NodeNames.{made, made_of, name_is, name_same}
use Rattle.gu_base.proofs.Passing.{at_node_none, decides_well, refusal_parts, split_passes}
use Rattle.gu_base.proofs.Searches.{find_passes, found_in}
use Rattle.gu_base.specs.SamePartsLaws.{number_same}
use Rattle.gu_depend.proofs.Finds.{found_some}
use Rattle.gu_depend.proofs.Grown.{maker}
use Rattle.gu_depend.proofs.Replay.{Legal}
use Rattle.gu_lives.specs.Trades.{in_trades, is_open, is_trade, passes, trade_at, trade_of}
use Rattle.gu_roll.specs.Numbering.{AreOf}
use Rattle.gu_roll.specs.Opened.{cell, decided_key, decides_at, decides_key, flag, has_waiting, is_key, is_kept_by}
use Rattle.gu_roll.specs.Opened.{is_kept_in, key, opens_at, opens_by, waits_by}
use Rattle.gu_roll.proofs.OpenTrades.{made_trade, AreKnown}
use Rattle.gu_roll.proofs.Renamed.{cut_of, number_of}

-- ---- lists

any_of : {A B : Type 0} (p : B → Bool) (f : A → List B) (xs : List A)
    → list_any p (flat_map f xs) ≡ list_any (λ x. list_any p (f x)) xs
any_of p f [] = refl
any_of p f (x ∷ xs) =
    list_any-append p (f x) (flat_map f xs) ∙ ap (λ b. list_any p (f x) || b) (any_of p f xs)

any_found : {A : Type 0} (p : A → Bool) (xs : List A) → list_any p xs ≡ is_some (find p xs)
any_found p [] = refl
any_found p (x ∷ xs) = here (p x) (any_found p xs)
  where
    here : (b : Bool) → list_any p xs ≡ is_some (find p xs)
        → (b || list_any p xs) ≡ is_some (cond b (Some x) (find p xs))
    here true later = refl
    here false later = later

-- two tests that say the same of each element
any_same : {A : Type 0} (p q : A → Bool) (xs : List A) → ((x : A) → Contains xs x → p x ≡ q x)
    → list_any p xs ≡ list_any q xs
any_same p q [] same = refl
any_same p q (x ∷ xs) same =
    ap (λ b. b || list_any p xs) (same x (zero, omega arith, refl))
    ∙ ap (λ b. q x || b) (any_same p q xs (λ y among. same y (Contains-append_right (x ∷ []) xs y among)))

-- a test of the numbers of a list is one of its changes
any_numbers : (p : ℕ → Bool) (q : Record → Bool) (l : List Record)
    → ((r : Record) → Contains l r → p r.number ≡ q r) → list_any p (map number_of l) ≡ list_any q l
any_numbers p q [] same = refl
any_numbers p q (r ∷ l) same =
    ap (λ b. b || list_any p (map number_of l)) (same r (zero, omega arith, refl))
    ∙ ap (λ b. q r || b) (any_numbers p q l (λ d among. same d (Contains-append_right (r ∷ []) l d among)))

kept_numbers : (p : ℕ → Bool) (q : Record → Bool) (l : List Record)
    → ((r : Record) → Contains l r → p r.number ≡ q r) → filter p (map number_of l) ≡ map number_of (filter q l)
kept_numbers p q [] same = refl
kept_numbers p q (r ∷ l) same =
    ap (λ b. cond b (r.number ∷ filter p (map number_of l)) (filter p (map number_of l)))
    (same r (zero, omega arith, refl))
    ∙ here (q r) (kept_numbers p q l (λ d among. same d (Contains-append_right (r ∷ []) l d among)))
  where
    here : (b : Bool) → filter p (map number_of l) ≡ map number_of (filter q l)
        → cond b (r.number ∷ filter p (map number_of l)) (filter p (map number_of l))
        ≡ map number_of (cond b (r ∷ filter q l) (filter q l))
    here true later = ap (λ ns. r.number ∷ ns) later
    here false later = later

-- ---- one node has one key

by_bool : (b : Bool) (P : Bool → Type 0) → (b ≡ true → P true) → (b ≡ false → P false) → P b
by_bool true P on off = on refl
by_bool false P on off = off refl

no_both : (b : Bool) → b ≡ true → b ≡ false → ⊥
no_both b on off = absurd (cc)

key_same : (m n : EntryPart) → m.part ≤ 100 → n.part ≤ 100 → (key n == key m) ≡ same_name m n
key_same m n low high =
    by_bool (same_name m n) (λ b. (key n == key m) ≡ b)
    (λ is. let e : m ≡ n = name_is m n is in
    subst (λ (z : EntryPart). (key n == key z) ≡ true) (sym e) (number_same (key n)))
    (λ other. ne_eqb (key n) (key m) (λ e. no_both (same_name m n) (one e) other))
  where
    one : key n ≡ key m → same_name m n ≡ true
    one e =
        let a : m.entry ≡ n.entry = omega (arith, e, low, high) in
        let b : m.part ≡ n.part = omega (arith, e, low, high) in
        subst (λ (z : EntryPart). same_name m z ≡ true) (λ i. record { entry = a i; part = b i }) (name_same m)

-- ---- the nodes of a legal list have small parts

part_small : (k i : ℕ) (m : EntryPart) (by : List ℕ) (ps : List Part) (x : Node)
    → Contains (nodes_of_parts k i m by ps) x → x.name.part < i + length ps
part_small k i m by [] x (j, within, e) = absurd (omega (arith, within))
part_small k i m by (p ∷ ps) x (zero, within, e) =
    subst (λ (y : Node). y.name.part < i + length (p ∷ ps)) e (omega arith)
part_small k i m by (p ∷ ps) x (suc j, within, e) =
    let later = part_small k (i + 1) m by ps x (j, omega (arith, within), e) in omega (arith, later)

given_part : (m : EntryPart) (by : List ℕ) (p : Part) → is_given (kind_of_part m by p) ≡ not (bytes_eq p.firm by)
given_part m by p =
    by_bool (bytes_eq p.firm by) (λ b. is_given (cond b (Own m by p.account) (Given m by p.firm)) ≡ not b) (λ is. refl)
    (λ is. refl)

none_not : {A : Type 0} (o : Option A) → is_none o ≡ not (is_some o)
none_not None = refl
none_not (Some x) = refl

both_and : (a b c : Bool) → ((a && c) || (b && c)) ≡ ((a || b) && c)
both_and true true true = refl
both_and true true false = refl
both_and true false true = refl
both_and true false false = refl
both_and false b c = refl

module _ (t : House) (h : List Entry) (l : List Record) (legal : Legal t l) (lawful : IsLegal t l)
    (of : AreOf h l) where
  -- a change is accepted behind those before it
  row_of : (r : Record) (among : Contains l r) → row t (cut_of l r among).0 r.firm r.command ≡ None
  row_of r among =
      let c = cut_of l r among in
      (refusal_parts t c.0 r.firm r.command (lawful.accepted c.0 c.1.0 r c.1.1)).1

  before_among : (r : Record) (among : Contains l r) (d : Record) → Contains (cut_of l r among).0 d → Contains l d
  before_among r among d at =
      let c = cut_of l r among in
      subst (λ z. Contains z d) (sym c.1.1) (Contains-append_left c.0 (r ∷ c.1.0) d at)

  split_small : (r : Record) (m : EntryPart) (ps : List Part) → r.command ≡ Split m ps → Contains l r → length ps ≤ 100
  split_small r m ps is among =
      let c = cut_of l r among in
      let accepted : row t c.0 r.firm (Split m ps) ≡ None =
      sym (ap (λ (d : Command). row t c.0 r.firm d) is) ∙ row_of r among in
      let there = at_node_none (split_row t c.0 r.firm ps) (node_of c.0 m) accepted in
      let holds = (split_passes t c.0 r.firm ps there.0 there.1.1).0 in
      leb-true (length ps) 100 (and_parts (nat_le 1 (length ps)) (nat_le (length ps) 100) holds.count).1

  made_small : (r : Record) (c : Command) → r.command ≡ c → Contains l r → (x : Node)
      → Contains (nodes_of r.number r.firm c) x → x.name.part ≤ 100
  made_small r (Trade f a i s lots) is among x (zero, within, e) =
      subst (λ (y : Node). y.name.part ≤ 100) e (omega arith)
  made_small r (Trade f a i s lots) is among x (suc j, within, e) = absurd (omega (arith, within))
  made_small r (Split m ps) is among x at =
      let a = part_small r.number 1 m r.firm ps x at in
      let b = split_small r m ps is among in
      omega (arith, a, b)
  made_small r (Claim _ _) is among x (j, within, e) = absurd (omega (arith, within))
  made_small r (Refuse _) is among x (j, within, e) = absurd (omega (arith, within))
  made_small r (Cancel _) is among x (j, within, e) = absurd (omega (arith, within))
  made_small r (Agree _ _ _ _) is among x (j, within, e) = absurd (omega (arith, within))
  made_small r (Raise _ _) is among x (j, within, e) = absurd (omega (arith, within))
  made_small r (Initiate _) is among x (j, within, e) = absurd (omega (arith, within))
  made_small r (Decline _) is among x (j, within, e) = absurd (omega (arith, within))
  made_small r (Reverse _) is among x (j, within, e) = absurd (omega (arith, within))

  decided_small : (r : Record) → Contains l r → (n : EntryPart) → decides n r.command ≡ true → n.part ≤ 100
  decided_small r among n is =
      let c = cut_of l r among in
      let y = decides_well t c.0 r.firm r.command n (row_of r among) is in
      let m = maker c.0 n y.node y.there in
      let small = made_small m.change m.change.command refl (before_among r among m.change m.among) y.node
      (found_in (λ x. same_name x.name n) (made m.change) y.node m.makes_it) in
      subst (λ (z : EntryPart). z.part ≤ 100)
      (name_is y.node.name n (find_passes (λ x. same_name x.name n) (made m.change) y.node m.makes_it)) small

  -- ---- what is decided

  key_decides : (r : Record) (c : Command) → r.command ≡ c → Contains l r → (n : EntryPart) → n.part ≤ 100
      → is_key (key n) (decided_key c) ≡ decides n c
  key_decides r (Claim m account) is among n small =
      key_same m n (decided_small r among m (ap (decides m) is ∙ name_same m)) small
  key_decides r (Refuse m) is among n small =
      key_same m n (decided_small r among m (ap (decides m) is ∙ name_same m)) small
  key_decides r (Cancel m) is among n small =
      key_same m n (decided_small r among m (ap (decides m) is ∙ name_same m)) small
  key_decides r (Trade _ _ _ _ _) is among n small = refl
  key_decides r (Split _ _) is among n small = refl
  key_decides r (Agree _ _ _ _) is among n small = refl
  key_decides r (Raise _ _) is among n small = refl
  key_decides r (Initiate _) is among n small = refl
  key_decides r (Decline _) is among n small = refl
  key_decides r (Reverse _) is among n small = refl

  module _ (decided : BTreeSet ℕ)
      (told : (k : ℕ) → contains nat_cmp decided k ≡ list_any (decides_at h k) (map number_of l)) where
    undecided : (n : EntryPart) → n.part ≤ 100 → is_none (decision_of l n) ≡ not (contains nat_cmp decided (key n))
    undecided n small =
        none_not (decision_of l n)
        ∙ ap not
        (sym (told (key n)
        ∙ (any_numbers (decides_at h (key n)) (λ (r : Record). decides n r.command) l
        (λ r among. ap (decides_key (key n)) (of r among) ∙ key_decides r r.command refl among n small)
        ∙ any_found (λ (r : Record). decides n r.command) l)))

    -- ---- what waits

    abbrev Waits : ℕ → Node → Bool
    Waits g x = is_offered l x && is_trade g (trade_at l x.name)

    waiting_parts : (g k i : ℕ) (m : EntryPart) (by : List ℕ) (ps : List Part) (o : Option ℕ)
        → ((x : Node) → Contains (nodes_of_parts k i m by ps) x → (trade_at l x.name ≡ o) × (x.name.part ≤ 100))
        → list_any (Waits g) (nodes_of_parts k i m by ps) ≡ (has_waiting decided k i by ps && is_trade g o)
    waiting_parts g k i m by [] o each = refl
    waiting_parts g k i m by (p ∷ ps) o each =
        let n : EntryPart = record { entry = k; part = i } in
        let x : Node = record { name = n; lots = p.lots; kind = kind_of_part m by p } in
        let first = each x (zero, omega arith, refl) in
        let offered : is_offered l x ≡ (not (bytes_eq p.firm by) && not (contains nat_cmp decided (k * 128 + i))) =
        ap (λ b. b && is_none (decision_of l n)) (given_part m by p)
        ∙ ap (λ b. not (bytes_eq p.firm by) && b) (undecided n first.1) in
        let here : Waits g x
        ≡ ((not (bytes_eq p.firm by) && not (contains nat_cmp decided (k * 128 + i))) && is_trade g o) =
        ap (λ b. b && is_trade g (trade_at l n)) offered
        ∙ ap (λ (z : Option ℕ). (not (bytes_eq p.firm by) && not (contains nat_cmp decided (k * 128 + i)))
        && is_trade g z) first.0 in
        let later = waiting_parts g k (i + 1) m by ps o
        (λ y at. each y (Contains-append_right (x ∷ []) (nodes_of_parts k (i + 1) m by ps) y at)) in
        ap (λ b. b || list_any (Waits g) (nodes_of_parts k (i + 1) m by ps)) here
        ∙ (ap (λ b. ((not (bytes_eq p.firm by) && not (contains nat_cmp decided (k * 128 + i))) && is_trade g o) || b)
        later
        ∙ both_and (not (bytes_eq p.firm by) && not (contains nat_cmp decided (k * 128 + i)))
        (has_waiting decided k (i + 1) by ps) (is_trade g o))

    change_waits : (g : ℕ) (r : Record) (c : Command) → r.command ≡ c → Contains l r
        → list_any (Waits g) (nodes_of r.number r.firm c)
        ≡ (waits_by decided r.number r.firm c && is_trade g (trade_of l r.number c))
    change_waits g r (Trade f a i s lots) is among = refl
    change_waits g r (Split m ps) is among =
        waiting_parts g r.number 1 m r.firm ps (trade_at l m)
        (λ x at.
        let parts = nodes_of_parts r.number 1 m r.firm ps in
        let first = found_some (λ y. same_name y.name x.name) parts x at (name_same x.name) in
        let made : made_of r x.name ≡ Some first.0 =
        ap (λ d. find (λ y. same_name y.name x.name) (nodes_of r.number r.firm d)) is ∙ first.1 in (
          made_trade t l legal r (Split m ps) is among x.name first.0 made,
          made_small r (Split m ps) is among x at,
        ))
    change_waits g r (Claim _ _) is among = refl
    change_waits g r (Refuse _) is among = refl
    change_waits g r (Cancel _) is among = refl
    change_waits g r (Agree _ _ _ _) is among = refl
    change_waits g r (Raise _ _) is among = refl
    change_waits g r (Initiate _) is among = refl
    change_waits g r (Decline _) is among = refl
    change_waits g r (Reverse _) is among = refl

    module _ (trades : List (Option ℕ)) (known : AreKnown h l l trades) where
      pub opens_told : (g : ℕ) → list_any (opens_at h trades decided g) (map number_of l) ≡ is_open l g
      opens_told g =
          any_numbers (opens_at h trades decided g)
          (λ (r : Record). waits_by decided r.number r.firm r.command && is_trade g (cell trades r.number)) l
          (λ r among. ap (opens_by trades decided g r.number) (of r among))
          ∙ (any_same
          (λ (r : Record). waits_by decided r.number r.firm r.command && is_trade g (cell trades r.number))
          (λ (r : Record). list_any (Waits g) (made r)) l
          (λ r among.
          ap (λ o. waits_by decided r.number r.firm r.command && is_trade g o) (known r among).same
          ∙ sym (change_waits g r r.command refl among))
          ∙ sym (any_of (Waits g) made l))

      module _ (flags : List Bool)
          (set : (k : ℕ) → 1 ≤ k → k ≤ length h
          → flag flags k ≡ list_any (opens_at h trades decided k) (map number_of l)) where
        kept_at : (r : Record) → Contains l r → (o : Option ℕ) → cell trades r.number ≡ o
            → is_kept_in flags o ≡ passes (is_open l) o
        kept_at r among None e = refl
        kept_at r among (Some k) e =
            let within = (known r among).within k e in set k within.0 within.1 ∙ opens_told k

        pub kept_told : filter (is_kept_by trades flags) (map number_of l)
            ≡ map number_of (filter (in_trades l (is_open l)) l)
        kept_told =
            kept_numbers (is_kept_by trades flags) (in_trades l (is_open l)) l
            (λ r among.
            kept_at r among (cell trades r.number) refl
            ∙ ap (passes (is_open l)) (known r among).same)
