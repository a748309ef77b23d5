-- Other numbers change nothing but the numbers, if no two of them become one.
use Rattle.std.proofs.Common.{◌≡◌, ℕ, zero, suc, ◌+◌, ◌-◌, Bool, true, false, ◌&&◌, List, [], ◌∷◌, ◌++◌, length}
use Rattle.std.proofs.Common.{refl, sym, ◌∙◌, ap, cond, Option, arith, map}
use Rattle.std.specs.Prelude.{Some, None, ◌==◌, find, filter, filter_map, flat_map, sum_by, option_map, option_and_then}
use Rattle.std.specs.Prelude.{is_some, is_none, unwrap_or, bytes_eq, ◌*◌}
use Rattle.std.specs.List.{cons_option}
use Rattle.std.specs.Option.{option_or}
use Rattle.std.proofs.lemmas.Bool.Decides.{Decides-eqb, same_from_decides}
use Rattle.std.proofs.lemmas.List.{map-append, length-map}
use Rattle.std.proofs.lemmas.List.Sums.{sum_by-cons}
use Rattle.gu_base.specs.Numbers.{EntryPart}
use Rattle.gu_base.specs.House.{House, agreement}
use Rattle.gu_base.specs.Nodes.{node_of, nodes, nodes_of, nodes_of_parts, kind_of_part, same_name, splits, decides}
use Rattle.gu_base.specs.Nodes.{split_of, decision_of, claim_of, claimed_account, parent, is_given, is_offered}
use Rattle.gu_base.specs.Places.{line_within, line_of, place_of_kind, place_along, place_of, depth_of}
use Rattle.gu_base.specs.Places.{root_along, root_of, same_place}
use Rattle.gu_base.specs.Positions.{leaves, stands_at, trades_in, is_trade_of, position_of}
use Rattle.gu_base.specs.Terms.{deed_of, dealing_of, dealings, made_in, made_by_deed, raised_by_deed}
use Rattle.gu_base.specs.Terms.{used_by_deed, terms_under, raised_under, used_under, terms_of, limit_of}
use Rattle.gu_base.specs.Terms.{used_of, use_of_node, use_of_kind}
use Rattle.gu_base.specs.Fees.{charge_of, charge_of_node, charge_of_kind, charges}
use Rattle.gu_base.specs.Rows.{row_of, rows_within, rows_from, rows_of, parts_of, made_by, state_of, taker_of}
use Rattle.gu_base.specs.Rows.{state_after}
use Rattle.gu_base.specs.declared.command.Part.{Part}
use Rattle.gu_base.specs.declared.command.Side.{Side}
use Rattle.gu_base.specs.declared.command.Command.{Command}
use Rattle.gu_base.specs.declared.command.Command.TheVariants.{Trade, Split, Claim, Refuse, Cancel, Agree, Raise}
use Rattle.gu_base.specs.declared.command.Command.TheVariants.{Initiate, Decline, Reverse}
use Rattle.gu_base.specs.declared.entry.Record.{Record}
use Rattle.gu_base.specs.declared.house.Agreement.{Agreement}
use Rattle.gu_base.specs.declared.house.Deed.{Deed}
use Rattle.gu_base.specs.declared.house.Dealing.{Dealing}
use Rattle.gu_base.specs.declared.node.Charge.{Charge}
use Rattle.gu_base.specs.declared.node.Place.{Place}
use Rattle.gu_base.specs.declared.node.Kind.{Kind}
use Rattle.gu_base.specs.declared.node.Kind.TheVariants.{Root, Own, Given}
use Rattle.gu_base.specs.declared.node.Node.{Node}
use Rattle.gu_lives.specs.Renumbered.{mapped, mapped_name, mapped_command, mapped_record, mapped_row, IsInjective}
use Rattle.gu_lives.specs.Renumbered.{IsSameMapped}

-- ---- searches, filters and sums over a list that was mapped

find_step : {A B : Type 0} (g : A → B) (x : A) (rest : Option B) (other : Option A) (b c : Bool) → b ≡ c
    → rest ≡ option_map g other → cond b (Some (g x)) rest ≡ option_map g (cond c (Some x) other)
find_step g x rest other true true e h = refl
find_step g x rest other true false e h = absurd (cc)
find_step g x rest other false true e h = absurd (cc)
find_step g x rest other false false e h = h

pub find_mapped : {A B : Type 0} (g : A → B) (p : B → Bool) (q : A → Bool) → ((x : A) → p (g x) ≡ q x) → (xs : List A)
    → find p (map g xs) ≡ option_map g (find q xs)
find_mapped g p q same [] = refl
find_mapped g p q same (x ∷ xs) =
    find_step g x (find p (map g xs)) (find q xs) (p (g x)) (q x) (same x) (find_mapped g p q same xs)

filter_step : {A B : Type 0} (g : A → B) (x : A) (rest : List B) (other : List A) (b c : Bool) → b ≡ c
    → rest ≡ map g other → cond b (g x ∷ rest) rest ≡ map g (cond c (x ∷ other) other)
filter_step g x rest other true true e h = ap (λ xs. g x ∷ xs) h
filter_step g x rest other true false e h = absurd (cc)
filter_step g x rest other false true e h = absurd (cc)
filter_step g x rest other false false e h = h

pub filter_mapped : {A B : Type 0} (g : A → B) (p : B → Bool) (q : A → Bool) → ((x : A) → p (g x) ≡ q x) → (xs : List A)
    → filter p (map g xs) ≡ map g (filter q xs)
filter_mapped g p q same [] = refl
filter_mapped g p q same (x ∷ xs) =
    filter_step g x (filter p (map g xs)) (filter q xs) (p (g x)) (q x) (same x) (filter_mapped g p q same xs)

flat_mapped : {A B C D : Type 0} (g : A → B) (h : C → D) (p : B → List D) (q : A → List C)
    → ((x : A) → p (g x) ≡ map h (q x)) → (xs : List A) → flat_map p (map g xs) ≡ map h (flat_map q xs)
flat_mapped g h p q same [] = refl
flat_mapped g h p q same (x ∷ xs) =
    ap (λ ys. ys ++ flat_map p (map g xs)) (same x)
    ∙ (ap (λ ys. map h (q x) ++ ys) (flat_mapped g h p q same xs) ∙ sym (map-append h (q x) (flat_map q xs)))

options_step : {C D : Type 0} (h : C → D) (o : Option C) (rest : List D) (other : List C) → rest ≡ map h other
    → cons_option (option_map h o) rest ≡ map h (cons_option o other)
options_step h None rest other e = e
options_step h (Some c) rest other e = ap (λ xs. h c ∷ xs) e

filter_map_mapped : {A B C D : Type 0} (g : A → B) (h : C → D) (p : B → Option D) (q : A → Option C)
    → ((x : A) → p (g x) ≡ option_map h (q x)) → (xs : List A) → filter_map p (map g xs) ≡ map h (filter_map q xs)
filter_map_mapped g h p q same [] = refl
filter_map_mapped g h p q same (x ∷ xs) =
    ap (λ o. cons_option o (filter_map p (map g xs))) (same x)
    ∙ options_step h (q x) (filter_map p (map g xs)) (filter_map q xs) (filter_map_mapped g h p q same xs)

pub filter_map_same : {A B C : Type 0} (g : A → B) (p : B → Option C) (q : A → Option C)
    → ((x : A) → p (g x) ≡ q x) → (xs : List A) → filter_map p (map g xs) ≡ filter_map q xs
filter_map_same g p q same [] = refl
filter_map_same g p q same (x ∷ xs) =
    ap (λ o. cons_option o (filter_map p (map g xs))) (same x)
    ∙ ap (cons_option (q x)) (filter_map_same g p q same xs)

sum_mapped : {A B : Type 0} (g : A → B) (w : B → ℕ) (v : A → ℕ) → ((x : A) → w (g x) ≡ v x) → (xs : List A)
    → sum_by w (map g xs) ≡ sum_by v xs
sum_mapped g w v same [] = refl
sum_mapped g w v same (x ∷ xs) =
    let a = sum_by-cons w (g x) (map g xs) in
    let b = sum_by-cons v x xs in
    let c = sum_mapped g w v same xs in
    let d = same x in
    omega (arith, a, b, c, d)

pub and_then_mapped : {A B C : Type 0} (g : A → B) (p : B → Option C) (o : Option A)
    → option_and_then p (option_map g o) ≡ option_and_then (λ x. p (g x)) o
and_then_mapped g p None = refl
and_then_mapped g p (Some x) = refl

pub and_then_same : {A C : Type 0} (p q : A → Option C) → ((x : A) → p x ≡ q x) → (o : Option A)
    → option_and_then p o ≡ option_and_then q o
and_then_same p q same None = refl
and_then_same p q same (Some x) = same x

pub none_mapped : {A B : Type 0} (g : A → B) (o : Option A) → is_none (option_map g o) ≡ is_none o
none_mapped g None = refl
none_mapped g (Some x) = refl

-- ---- nodes with other numbers

abbrev pub mapped_kind : (ℕ → ℕ) → Kind → Kind
mapped_kind f (Root place) = Root place
mapped_kind f (Own n firm account) = Own (mapped_name f n) firm account
mapped_kind f (Given n giver taker) = Given (mapped_name f n) giver taker

abbrev pub mapped_node : (ℕ → ℕ) → Node → Node
mapped_node f x = record { name = mapped_name f x.name; lots = x.lots; kind = mapped_kind f x.kind }

abbrev pub mapped_dealing : (ℕ → ℕ) → Dealing → Dealing
mapped_dealing f d = record { number = f d.number; deed = d.deed }

part_kind : (f : ℕ → ℕ) (m : EntryPart) (by : List ℕ) (p : Part) (b : Bool)
    → cond b (Own (mapped_name f m) by p.account) (Given (mapped_name f m) by p.firm)
    ≡ mapped_kind f (cond b (Own m by p.account) (Given m by p.firm))
part_kind f m by p true = refl
part_kind f m by p false = refl

parts_mapped : (f : ℕ → ℕ) (k i : ℕ) (m : EntryPart) (by : List ℕ) (ps : List Part)
    → nodes_of_parts (f k) i (mapped_name f m) by ps ≡ map (mapped_node f) (nodes_of_parts k i m by ps)
parts_mapped f k i m by [] = refl
parts_mapped f k i m by (p ∷ ps) =
    ap (λ (z : Kind). record { name = record { entry = f k; part = i }; lots = p.lots; kind = z }
    ∷ nodes_of_parts (f k) (i + 1) (mapped_name f m) by ps) (part_kind f m by p (bytes_eq p.firm by))
    ∙ ap (λ xs. mapped_node f
    (record { name = record { entry = k; part = i }; lots = p.lots; kind = kind_of_part m by p }) ∷ xs)
    (parts_mapped f k (i + 1) m by ps)

made_mapped : (f : ℕ → ℕ) (k : ℕ) (by : List ℕ) (c : Command)
    → nodes_of (f k) by (mapped_command f c) ≡ map (mapped_node f) (nodes_of k by c)
made_mapped f k by (Trade _ _ _ _ _) = refl
made_mapped f k by (Split m ps) = parts_mapped f k 1 m by ps
made_mapped f k by (Claim _ _) = refl
made_mapped f k by (Refuse _) = refl
made_mapped f k by (Cancel _) = refl
made_mapped f k by (Agree _ _ _ _) = refl
made_mapped f k by (Raise _ _) = refl
made_mapped f k by (Initiate _) = refl
made_mapped f k by (Decline _) = refl
made_mapped f k by (Reverse _) = refl

nodes_mapped : (f : ℕ → ℕ) (l : List Record) → nodes (mapped f l) ≡ map (mapped_node f) (nodes l)
nodes_mapped f l =
    flat_mapped (mapped_record f) (mapped_node f) (λ r. nodes_of r.number r.firm r.command)
    (λ r. nodes_of r.number r.firm r.command) (λ r. made_mapped f r.number r.firm r.command) l

parent_mapped : (f : ℕ → ℕ) (k : Kind) → parent (mapped_kind f k) ≡ option_map (mapped_name f) (parent k)
parent_mapped f (Root _) = refl
parent_mapped f (Own _ _ _) = refl
parent_mapped f (Given _ _ _) = refl

given_mapped : (f : ℕ → ℕ) (k : Kind) → is_given (mapped_kind f k) ≡ is_given k
given_mapped f (Root _) = refl
given_mapped f (Own _ _ _) = refl
given_mapped f (Given _ _ _) = refl

claimed_mapped : (f : ℕ → ℕ) (c : Command) → claimed_account (mapped_command f c) ≡ claimed_account c
claimed_mapped f (Trade _ _ _ _ _) = refl
claimed_mapped f (Split _ _) = refl
claimed_mapped f (Claim _ _) = refl
claimed_mapped f (Refuse _) = refl
claimed_mapped f (Cancel _) = refl
claimed_mapped f (Agree _ _ _ _) = refl
claimed_mapped f (Raise _ _) = refl
claimed_mapped f (Initiate _) = refl
claimed_mapped f (Decline _) = refl
claimed_mapped f (Reverse _) = refl

place_kind_mapped : (f : ℕ → ℕ) (k : Kind) (o : Option (List ℕ)) (at : Option Place)
    → place_of_kind (mapped_kind f k) o at ≡ place_of_kind k o at
place_kind_mapped f (Root _) o at = refl
place_kind_mapped f (Own _ _ _) o at = refl
place_kind_mapped f (Given _ _ _) None at = refl
place_kind_mapped f (Given _ _ _) (Some _) at = refl

module _ (f : ℕ → ℕ) (one : IsInjective f) where
  pub number_mapped : (a b : ℕ) → (f a == f b) ≡ (a == b)
  number_mapped a b =
      same_from_decides (f a == f b) (a == b) (Decides-eqb (f a) (f b))
      ((λ h. ap f ((Decides-eqb a b).0 h)), (λ e. (Decides-eqb a b).1 (one a b e)))

  pub name_mapped : (a b : EntryPart) → same_name (mapped_name f a) (mapped_name f b) ≡ same_name a b
  name_mapped a b = ap (λ z. z && (a.part == b.part)) (number_mapped a.entry b.entry)

  splits_mapped : (n : EntryPart) (c : Command) → splits (mapped_name f n) (mapped_command f c) ≡ splits n c
  splits_mapped n (Split m _) = name_mapped m n
  splits_mapped n (Trade _ _ _ _ _) = refl
  splits_mapped n (Claim _ _) = refl
  splits_mapped n (Refuse _) = refl
  splits_mapped n (Cancel _) = refl
  splits_mapped n (Agree _ _ _ _) = refl
  splits_mapped n (Raise _ _) = refl
  splits_mapped n (Initiate _) = refl
  splits_mapped n (Decline _) = refl
  splits_mapped n (Reverse _) = refl

  decides_mapped : (n : EntryPart) (c : Command) → decides (mapped_name f n) (mapped_command f c) ≡ decides n c
  decides_mapped n (Claim m _) = name_mapped m n
  decides_mapped n (Refuse m) = name_mapped m n
  decides_mapped n (Cancel m) = name_mapped m n
  decides_mapped n (Split m _) = refl
  decides_mapped n (Trade _ _ _ _ _) = refl
  decides_mapped n (Agree _ _ _ _) = refl
  decides_mapped n (Raise _ _) = refl
  decides_mapped n (Initiate _) = refl
  decides_mapped n (Decline _) = refl
  decides_mapped n (Reverse _) = refl

  module _ (l : List Record) where
    pub node_mapped : (n : EntryPart)
        → node_of (mapped f l) (mapped_name f n) ≡ option_map (mapped_node f) (node_of l n)
    node_mapped n =
        ap (find (λ x. same_name x.name (mapped_name f n))) (nodes_mapped f l)
        ∙ find_mapped (mapped_node f) (λ x. same_name x.name (mapped_name f n)) (λ x. same_name x.name n)
        (λ x. name_mapped x.name n) (nodes l)

    pub split_mapped : (n : EntryPart)
        → split_of (mapped f l) (mapped_name f n) ≡ option_map (mapped_record f) (split_of l n)
    split_mapped n =
        find_mapped (mapped_record f) (λ r. splits (mapped_name f n) r.command) (λ r. splits n r.command)
        (λ r. splits_mapped n r.command) l

    pub decision_mapped : (n : EntryPart)
        → decision_of (mapped f l) (mapped_name f n) ≡ option_map (mapped_record f) (decision_of l n)
    decision_mapped n =
        find_mapped (mapped_record f) (λ r. decides (mapped_name f n) r.command) (λ r. decides n r.command)
        (λ r. decides_mapped n r.command) l

    claim_mapped : (n : EntryPart) → claim_of (mapped f l) (mapped_name f n) ≡ claim_of l n
    claim_mapped n =
        ap (option_and_then (λ r. claimed_account r.command)) (decision_mapped n)
        ∙ (and_then_mapped (mapped_record f) (λ r. claimed_account r.command) (decision_of l n)
        ∙ and_then_same (λ r. claimed_account (mapped_command f r.command)) (λ r. claimed_account r.command)
        (λ r. claimed_mapped f r.command) (decision_of l n))

    pub offered_mapped : (x : Node) → is_offered (mapped f l) (mapped_node f x) ≡ is_offered l x
    offered_mapped x =
        ap (λ b. b && is_none (decision_of (mapped f l) (mapped_name f x.name))) (given_mapped f x.kind)
        ∙ ap (λ b. is_given x.kind && b)
        (ap is_none (decision_mapped x.name) ∙ none_mapped (mapped_record f) (decision_of l x.name))

    -- ---- lines and places

    above_mapped : (o : Option EntryPart)
        → option_and_then (node_of (mapped f l)) (option_map (mapped_name f) o)
        ≡ option_map (mapped_node f) (option_and_then (node_of l) o)
    above_mapped None = refl
    above_mapped (Some n) = node_mapped n

    line_mapped : (steps : ℕ) (o : Option Node)
        → line_within steps (mapped f l) (option_map (mapped_node f) o) ≡ map (mapped_node f) (line_within steps l o)
    line_mapped steps None = refl
    line_mapped zero (Some x) = refl
    line_mapped (suc steps) (Some x) =
        ap (λ xs. mapped_node f x ∷ xs)
        (ap (line_within steps (mapped f l))
        (ap (option_and_then (node_of (mapped f l))) (parent_mapped f x.kind) ∙ above_mapped (parent x.kind))
        ∙ line_mapped steps (option_and_then (node_of l) (parent x.kind)))

    line_of_mapped : (n : EntryPart)
        → line_of (mapped f l) (mapped_name f n) ≡ map (mapped_node f) (line_of l n)
    line_of_mapped n =
        ap (λ k. line_within k (mapped f l) (node_of (mapped f l) (mapped_name f n))) (length-map l (mapped_record f))
        ∙ (ap (line_within (length l) (mapped f l)) (node_mapped n) ∙ line_mapped (length l) (node_of l n))

    along_mapped : (xs : List Node) → place_along (mapped f l) (map (mapped_node f) xs) ≡ place_along l xs
    along_mapped [] = refl
    along_mapped (x ∷ xs) =
        place_kind_mapped f x.kind (claim_of (mapped f l) (mapped_name f x.name))
        (place_along (mapped f l) (map (mapped_node f) xs))
        ∙ (ap (λ c. place_of_kind x.kind c (place_along (mapped f l) (map (mapped_node f) xs))) (claim_mapped x.name)
        ∙ ap (place_of_kind x.kind (claim_of l x.name)) (along_mapped xs))

    pub place_mapped : (n : EntryPart) → place_of (mapped f l) (mapped_name f n) ≡ place_of l n
    place_mapped n = ap (place_along (mapped f l)) (line_of_mapped n) ∙ along_mapped (line_of l n)

    pub depth_mapped : (n : EntryPart) → depth_of (mapped f l) (mapped_name f n) ≡ depth_of l n
    depth_mapped n =
        ap (λ xs. length xs - 1) (line_of_mapped n) ∙ ap (λ k. k - 1) (length-map (line_of l n) (mapped_node f))

    root_line : (xs : List Node) → root_along (map (mapped_node f) xs) ≡ option_map (mapped_name f) (root_along xs)
    root_line [] = refl
    root_line (x ∷ []) = refl
    root_line (x ∷ y ∷ xs) = root_line (y ∷ xs)

    root_mapped : (n : EntryPart) → root_of (mapped f l) (mapped_name f n) ≡ option_map (mapped_name f) (root_of l n)
    root_mapped n = ap root_along (line_of_mapped n) ∙ root_line (line_of l n)

    -- ---- rows

    state_mapped : (k : Kind) (o : Option Record)
        → state_of (mapped_kind f k) (option_map (mapped_record f) o) ≡ state_of k o
    state_mapped (Root _) None = refl
    state_mapped (Root _) (Some r) = refl
    state_mapped (Own _ _ _) None = refl
    state_mapped (Own _ _ _) (Some r) = refl
    state_mapped (Given _ _ _) None = refl
    state_mapped (Given _ _ _) (Some r) = after_mapped r.command
      where
        after_mapped : (c : Command) → state_after (mapped_command f c) ≡ state_after c
        after_mapped (Trade _ _ _ _ _) = refl
        after_mapped (Split _ _) = refl
        after_mapped (Claim _ _) = refl
        after_mapped (Refuse _) = refl
        after_mapped (Cancel _) = refl
        after_mapped (Agree _ _ _ _) = refl
        after_mapped (Raise _ _) = refl
        after_mapped (Initiate _) = refl
        after_mapped (Decline _) = refl
        after_mapped (Reverse _) = refl

    taker_mapped : (k : Kind) → taker_of (mapped_kind f k) ≡ taker_of k
    taker_mapped (Root _) = refl
    taker_mapped (Own _ _ _) = refl
    taker_mapped (Given _ _ _) = refl

    number_in : (o : Option Record)
        → option_map (λ r. r.number) (option_map (mapped_record f) o) ≡ option_map f (option_map (λ r. r.number) o)
    number_in None = refl
    number_in (Some r) = refl

    row_mapped : (depth : ℕ) (x : Node) → row_of (mapped f l) depth (mapped_node f x) ≡ mapped_row f (row_of l depth x)
    row_mapped depth x = λ i. record {
      depth = depth;
      name = mapped_name f x.name;
      lots = x.lots;
      place = place_mapped x.name i;
      state = (ap (state_of (mapped_kind f x.kind)) (decision_mapped x.name)
          ∙ state_mapped x.kind (decision_of l x.name)) i;
      taker = taker_mapped x.kind i;
      decision = (ap (option_map (λ r. r.number)) (decision_mapped x.name) ∙ number_in (decision_of l x.name)) i;
    }

    made_by_mapped : (o : Option Record) → made_by (option_map (mapped_record f) o) ≡ map (mapped_node f) (made_by o)
    made_by_mapped None = refl
    made_by_mapped (Some r) = made_mapped f r.number r.firm r.command

    parts_of_mapped : (n : EntryPart) → parts_of (mapped f l) (mapped_name f n) ≡ map (mapped_node f) (parts_of l n)
    parts_of_mapped n = ap made_by (split_mapped n) ∙ made_by_mapped (split_of l n)

    within_mapped : (levels depth : ℕ) (x : Node)
        → rows_within levels (mapped f l) depth (mapped_node f x) ≡ map (mapped_row f) (rows_within levels l depth x)
    within_mapped zero depth x = ap (λ r. r ∷ []) (row_mapped depth x)
    within_mapped (suc levels) depth x =
        ap (λ r. r ∷ flat_map (rows_within levels (mapped f l) (depth + 1))
        (parts_of (mapped f l) (mapped_name f x.name))) (row_mapped depth x)
        ∙ ap (λ rs. mapped_row f (row_of l depth x) ∷ rs)
        (ap (flat_map (rows_within levels (mapped f l) (depth + 1))) (parts_of_mapped x.name)
        ∙ flat_mapped (mapped_node f) (mapped_row f) (rows_within levels (mapped f l) (depth + 1))
        (rows_within levels l (depth + 1)) (λ y. within_mapped levels (depth + 1) y) (parts_of l x.name))

    from_mapped : (o : Option Node)
        → rows_from (mapped f l) (option_map (mapped_node f) o) ≡ map (mapped_row f) (rows_from l o)
    from_mapped None = refl
    from_mapped (Some x) =
        ap (λ k. rows_within k (mapped f l) 0 (mapped_node f x)) (length-map l (mapped_record f))
        ∙ within_mapped (length l) 0 x

    pub rows_mapped : (trade : ℕ) → rows_of (mapped f l) (f trade) ≡ map (mapped_row f) (rows_of l trade)
    rows_mapped trade =
        ap (rows_from (mapped f l)) (node_mapped (record { entry = trade; part = 0 }))
        ∙ from_mapped (node_of l (record { entry = trade; part = 0 }))

    -- ---- positions

    leaves_mapped : leaves (mapped f l) ≡ map (mapped_node f) (leaves l)
    leaves_mapped =
        ap (filter (λ x. is_none (split_of (mapped f l) x.name))) (nodes_mapped f l)
        ∙ filter_mapped (mapped_node f) (λ x. is_none (split_of (mapped f l) x.name)) (λ x. is_none (split_of l x.name))
        (λ x. ap is_none (split_mapped x.name) ∙ none_mapped (mapped_record f) (split_of l x.name)) (nodes l)

    trade_of_mapped : (instrument : List ℕ) (side : Side) (c : Command)
        → is_trade_of instrument side (mapped_command f c) ≡ is_trade_of instrument side c
    trade_of_mapped i s (Trade _ _ _ _ _) = refl
    trade_of_mapped i s (Split _ _) = refl
    trade_of_mapped i s (Claim _ _) = refl
    trade_of_mapped i s (Refuse _) = refl
    trade_of_mapped i s (Cancel _) = refl
    trade_of_mapped i s (Agree _ _ _ _) = refl
    trade_of_mapped i s (Raise _ _) = refl
    trade_of_mapped i s (Initiate _) = refl
    trade_of_mapped i s (Decline _) = refl
    trade_of_mapped i s (Reverse _) = refl

    some_mapped : {A B : Type 0} (g : A → B) (o : Option A) → is_some (option_map g o) ≡ is_some o
    some_mapped g None = refl
    some_mapped g (Some x) = refl

    trade_at : (i : List ℕ) (s : Side) (o : Option EntryPart)
        → is_some (option_and_then (λ t. find (λ r. (r.number == t.entry) && is_trade_of i s r.command) (mapped f l))
        (option_map (mapped_name f) o))
        ≡ is_some (option_and_then (λ t. find (λ r. (r.number == t.entry) && is_trade_of i s r.command) l) o)
    trade_at i s None = refl
    trade_at i s (Some t) =
        ap is_some
        (find_mapped (mapped_record f) (λ r. (r.number == f t.entry) && is_trade_of i s r.command)
        (λ r. (r.number == t.entry) && is_trade_of i s r.command)
        (λ r. ap (λ b. b && is_trade_of i s (mapped_command f r.command)) (number_mapped r.number t.entry)
        ∙ ap (λ b. (r.number == t.entry) && b) (trade_of_mapped i s r.command)) l)
        ∙ some_mapped (mapped_record f) (find (λ r. (r.number == t.entry) && is_trade_of i s r.command) l)

    trades_mapped : (i : List ℕ) (s : Side) (n : EntryPart)
        → trades_in (mapped f l) i s (mapped_name f n) ≡ trades_in l i s n
    trades_mapped i s n =
        ap (λ o. is_some
        (option_and_then (λ t. find (λ r. (r.number == t.entry) && is_trade_of i s r.command) (mapped f l)) o))
        (root_mapped n)
        ∙ trade_at i s (root_of l n)

    stands_mapped : (at : Place) (n : EntryPart) → stands_at (mapped f l) at (mapped_name f n) ≡ stands_at l at n
    stands_mapped at n = ap (λ o. unwrap_or (option_map (same_place at) o) false) (place_mapped n)

    pub position_mapped : (firm account i : List ℕ) (s : Side)
        → position_of (mapped f l) firm account i s ≡ position_of l firm account i s
    position_mapped firm account i s =
        let at : Place = record { firm = firm; account = account } in
        let p = λ (x : Node). stands_at (mapped f l) at x.name && trades_in (mapped f l) i s x.name in
        let q = λ (x : Node). stands_at l at x.name && trades_in l i s x.name in
        ap (λ xs. sum_by (λ (x : Node). x.lots) (filter p xs)) leaves_mapped
        ∙ (ap (sum_by (λ (x : Node). x.lots))
        (filter_mapped (mapped_node f) p q
        (λ x. ap (λ b. b && trades_in (mapped f l) i s (mapped_name f x.name)) (stands_mapped at x.name)
        ∙ ap (λ b. stands_at l at x.name && b) (trades_mapped i s x.name)) (leaves l))
        ∙ sum_mapped (mapped_node f) (λ (x : Node). x.lots) (λ (x : Node). x.lots) (λ x. refl) (filter q (leaves l)))

    -- ---- terms and fees

    use_mapped : (g k : List ℕ) (x : Node) → use_of_node g k (mapped_node f x) ≡ use_of_node g k x
    use_mapped g k x = use_kind x.lots x.kind
      where
        use_kind : (n : ℕ) (z : Kind) → use_of_kind g k n (mapped_kind f z) ≡ use_of_kind g k n z
        use_kind n (Root _) = refl
        use_kind n (Own _ _ _) = refl
        use_kind n (Given _ _ _) = refl

    deed_mapped : (g k by : List ℕ) (c : Command)
        → deed_of (mapped f l) g k by (mapped_command f c) ≡ deed_of l g k by c
    deed_mapped g k by (Claim n _) =
        ap (option_and_then (use_of_node g k)) (node_mapped n)
        ∙ (and_then_mapped (mapped_node f) (use_of_node g k) (node_of l n)
        ∙ and_then_same (λ x. use_of_node g k (mapped_node f x)) (use_of_node g k) (use_mapped g k) (node_of l n))
    deed_mapped g k by (Trade _ _ _ _ _) = refl
    deed_mapped g k by (Split _ _) = refl
    deed_mapped g k by (Refuse _) = refl
    deed_mapped g k by (Cancel _) = refl
    deed_mapped g k by (Agree _ _ _ _) = refl
    deed_mapped g k by (Raise _ _) = refl
    deed_mapped g k by (Initiate _) = refl
    deed_mapped g k by (Decline _) = refl
    deed_mapped g k by (Reverse _) = refl

    numbered_deed : (n : ℕ) (o : Option Deed)
        → option_map (λ d. record { number = f n; deed = d }) o
        ≡ option_map (mapped_dealing f) (option_map (λ d. record { number = n; deed = d }) o)
    numbered_deed n None = refl
    numbered_deed n (Some d) = refl

    pub dealings_mapped : (g k : List ℕ) → dealings (mapped f l) g k ≡ map (mapped_dealing f) (dealings l g k)
    dealings_mapped g k =
        filter_map_mapped (mapped_record f) (mapped_dealing f) (dealing_of (mapped f l) g k) (dealing_of l g k)
        (λ r. ap (option_map (λ d. record { number = f r.number; deed = d })) (deed_mapped g k r.firm r.command)
        ∙ numbered_deed r.number (deed_of l g k r.firm r.command)) l

    made_in_mapped : (ds : List Dealing) → made_in (map (mapped_dealing f) ds) ≡ made_in ds
    made_in_mapped [] = refl
    made_in_mapped (d ∷ ds) = ap (option_or (made_by_deed d.deed)) (made_in_mapped ds)

    raised_mapped : (ds : List Dealing) → raised_under (map (mapped_dealing f) ds) ≡ raised_under ds
    raised_mapped =
        sum_mapped (mapped_dealing f) (λ (d : Dealing). raised_by_deed d.deed) (λ (d : Dealing). raised_by_deed d.deed)
        (λ d. refl)

    used_by_mapped : (ds : List Dealing) → used_under (map (mapped_dealing f) ds) ≡ used_under ds
    used_by_mapped =
        sum_mapped (mapped_dealing f) (λ (d : Dealing). used_by_deed d.deed) (λ (d : Dealing). used_by_deed d.deed)
        (λ d. refl)

    pub used_mapped : (g k : List ℕ) → used_of (mapped f l) g k ≡ used_of l g k
    used_mapped g k = ap used_under (dealings_mapped g k) ∙ used_by_mapped (dealings l g k)

    module _ (t : House) where
      pub terms_mapped : (g k : List ℕ) → terms_of t (mapped f l) g k ≡ terms_of t l g k
      terms_mapped g k =
          ap (terms_under (agreement t g k)) (dealings_mapped g k)
          ∙ ap (option_or (agreement t g k)) (made_in_mapped (dealings l g k))

      pub limit_mapped : (g k : List ℕ) → limit_of t (mapped f l) g k ≡ limit_of t l g k
      limit_mapped g k =
          ap (option_map (λ (a : Agreement). a.limit + raised_under (dealings (mapped f l) g k))) (terms_mapped g k)
          ∙ ap (λ n. option_map (λ (a : Agreement). a.limit + n) (terms_of t l g k))
          (ap raised_under (dealings_mapped g k) ∙ raised_mapped (dealings l g k))

      charge_node : (x : Node) → charge_of_node t (mapped f l) (mapped_node f x) ≡ charge_of_node t l x
      charge_node x = charge_kind x.lots x.kind
        where
          charge_kind : (n : ℕ) (z : Kind)
              → charge_of_kind t (mapped f l) n (mapped_kind f z) ≡ charge_of_kind t l n z
          charge_kind n (Root _) = refl
          charge_kind n (Own _ _ _) = refl
          charge_kind n (Given _ g k) =
              ap (option_map (λ (a : Agreement). record { giver = g; taker = k; lots = n; rate = a.rate }))
              (terms_mapped g k)

      charge_mapped : (c : Command) → charge_of t (mapped f l) (mapped_command f c) ≡ charge_of t l c
      charge_mapped (Claim n _) =
          ap (option_and_then (charge_of_node t (mapped f l))) (node_mapped n)
          ∙ (and_then_mapped (mapped_node f) (charge_of_node t (mapped f l)) (node_of l n)
          ∙ and_then_same (λ x. charge_of_node t (mapped f l) (mapped_node f x)) (charge_of_node t l) charge_node
          (node_of l n))
      charge_mapped (Trade _ _ _ _ _) = refl
      charge_mapped (Split _ _) = refl
      charge_mapped (Refuse _) = refl
      charge_mapped (Cancel _) = refl
      charge_mapped (Agree _ _ _ _) = refl
      charge_mapped (Raise _ _) = refl
      charge_mapped (Initiate _) = refl
      charge_mapped (Decline _) = refl
      charge_mapped (Reverse _) = refl

      charges_mapped : charges t (mapped f l) ≡ charges t l
      charges_mapped =
          filter_map_same (mapped_record f) (λ r. charge_of t (mapped f l) r.command) (λ r. charge_of t l r.command)
          (λ r. charge_mapped r.command) l

      -- all that a list tells
      pub state_same : IsSameMapped t f l (mapped f l)
      state_same = record {
        trees = rows_mapped;
        positions = position_mapped;
        paid = λ firm.
            ap (λ cs. sum_by (λ (c : Charge). c.lots * c.rate) (filter (λ c. bytes_eq c.taker firm) cs)) charges_mapped;
        received = λ firm.
            ap (λ cs. sum_by (λ (c : Charge). c.lots * c.rate) (filter (λ c. bytes_eq c.giver firm) cs)) charges_mapped;
        used = used_mapped;
        terms = terms_mapped;
        limits = limit_mapped;
      }
