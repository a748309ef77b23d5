-- The table of trades has the trade of each change.
use Rattle.std.proofs.Common.{◌≡◌, ℕ, zero, suc, ◌+◌, ◌-◌, ◌<◌, ◌≤◌, Bool, true, false, ◌||◌, List, [], ◌∷◌, ◌++◌}
use Rattle.std.proofs.Common.{length, map}
use Rattle.std.proofs.Common.{refl, sym, ◌∙◌, ap, subst, cond, arith, append-nil, append_assoc, inl, inr}
use Rattle.std.specs.Prelude.{Option, Some, None, find, slice_set, replicate}
use Rattle.std.specs.List.{Contains}
use Rattle.std.proofs.lemmas.List.{length-replicate, length-set}
use Rattle.std.proofs.lemmas.List.Elements.{All-contains, Contains-append_left, Contains-push, Contains-push_cases}
use Rattle.std.proofs.lemmas.Option.{same_Some}
use Rattle.gu_base.specs.Answers.{entry_of}
use Rattle.gu_base.specs.History.{RisesFrom}
use Rattle.gu_base.specs.House.{House}
use Rattle.gu_base.specs.Nodes.{node_of, nodes_of, parent, same_name}
use Rattle.gu_base.specs.Numbers.{EntryPart}
use Rattle.gu_base.specs.Standing.{IsLegal}
use Rattle.gu_base.specs.declared.command.Command.{Command}
use Rattle.gu_base.specs.declared.command.Command.TheVariants.{Trade, Split, Claim, Refuse, Cancel, Agree, Raise}
use Rattle.gu_base.specs.declared.command.Command.TheVariants.{Initiate, Decline, Reverse}
use Rattle.gu_base.specs.declared.entry.Entry.{Entry}
use Rattle.gu_base.specs.declared.entry.Record.{Record}
use Rattle.gu_base.specs.declared.node.Kind.TheVariants.{Root}
use Rattle.gu_base.specs.declared.node.Node.{Node}
use Rattle.gu_base.proofs.NodeNames.{made_of, name_same, node_called, part_parent}
use Rattle.gu_base.proofs.Numbered.{found_at}
use Rattle.gu_base.proofs.Passing.{refusal_parts}
use Rattle.gu_depend.specs.Under.{names}
use Rattle.gu_depend.proofs.Deals.{accepted_there}
use Rattle.gu_depend.proofs.Grown.{maker, made_number, NamesThere}
use Rattle.gu_depend.proofs.Replay.{Legal}
use Rattle.gu_depend.proofs.StandsLast.{node_of_maker}
use Rattle.gu_lives.specs.Trades.{trade_at, trade_of}
use Rattle.gu_lives.proofs.WholeTrades.{grown, own_trade, part_trade}
use Rattle.gu_roll.specs.Numbering.{AreOf}
use Rattle.gu_roll.specs.Opened.{cell, inner, trade_by, trades_from, trades_with}
use Rattle.gu_roll.proofs.Table.{get_set_same, get_set_other}
use Rattle.gu_roll.proofs.Renamed.{number_of}

-- ---- a node is of the trade of the change that made it

one_root : (b : Bool) (root x : Node) → cond b (Some root) None ≡ Some x → root ≡ x
one_root true root x h = same_Some root x h
one_root false root x h = absurd (cc)

none_made : (k : Record) (c : Command) → k.command ≡ c → (n : EntryPart) (x : Node) → nodes_of k.number k.firm c ≡ []
    → made_of k n ≡ Some x → ⊥
none_made k c is n x none made =
    let by : None ≡ Some x =
    sym (ap (λ d. find (λ y. same_name y.name n) (nodes_of k.number k.firm d)) is
    ∙ ap (find (λ y. same_name y.name n)) none) ∙ made in
    cc

module _ (t : House) (l : List Record) (legal : Legal t l) where
  pub made_trade : (k : Record) (c : Command) → k.command ≡ c → Contains l k → (n : EntryPart) (x : Node)
      → made_of k n ≡ Some x → trade_at l n ≡ trade_of l k.number c
  made_trade k (Trade f a i s lots) is among n x made =
      let top : EntryPart = record { entry = k.number; part = 0 } in
      let root : Node = record { name = top; lots = lots; kind = Root (record { firm = f; account = a }) } in
      let by : cond (same_name top n) (Some root) None ≡ Some x =
      sym (ap (λ d. find (λ y. same_name y.name n) (nodes_of k.number k.firm d)) is) ∙ made in
      let one : root ≡ x = one_root (same_name top n) root x by in
      let found = node_of_maker l k n x legal.once among made in
      own_trade t l legal k f a i x n among made (node_called l n x found)
      (ap (λ (y : Node). parent y.kind) (sym one))
      ∙ ap Some (made_number k n x made)
  made_trade k (Split m ps) is among n x made =
      let by : find (λ y. same_name y.name n) (nodes_of k.number k.firm (Split m ps)) ≡ Some x =
      sym (ap (λ d. find (λ y. same_name y.name n) (nodes_of k.number k.firm d)) is) ∙ made in
      let there = All-contains (NamesThere l) l k (grown t l legal).named among m
      (ap (names m) is ∙ ap (λ b. b || false) (name_same m)) in
      part_trade t l legal n m x there.0 (node_of_maker l k n x legal.once among made)
      (part_parent n m k.number 1 k.firm ps x by) there.1
  made_trade k (Claim m account) is among n x made =
      absurd (none_made k (Claim m account) is n x refl made)
  made_trade k (Refuse m) is among n x made = absurd (none_made k (Refuse m) is n x refl made)
  made_trade k (Cancel m) is among n x made = absurd (none_made k (Cancel m) is n x refl made)
  made_trade k (Agree g h rate limit) is among n x made =
      absurd (none_made k (Agree g h rate limit) is n x refl made)
  made_trade k (Raise g lots) is among n x made = absurd (none_made k (Raise g lots) is n x refl made)
  made_trade k (Initiate e) is among n x made = absurd (none_made k (Initiate e) is n x refl made)
  made_trade k (Decline e) is among n x made = absurd (none_made k (Decline e) is n x refl made)
  made_trade k (Reverse e) is among n x made = absurd (none_made k (Reverse e) is n x refl made)

-- ---- one change after the other

-- the trade of a change is known, and has a number that an entry may have
pub record IsKnown (h : List Entry) (l : List Record) (trades : List (Option ℕ)) (r : Record) : Type 0 where
  pub same : cell trades r.number ≡ trade_of l r.number r.command
  pub within : (k : ℕ) → cell trades r.number ≡ Some k → (1 ≤ k) × (k ≤ length h)

abbrev pub AreKnown : List Entry → List Record → List Record → List (Option ℕ) → Type 0
AreKnown h l b trades = (r : Record) → Contains b r → IsKnown h l trades r

-- ---- numbers that rise

rises_at : (m : ℕ) (before after : List Record) (r : Record) → RisesFrom m (before ++ r ∷ after) → m ≤ r.number
rises_at m [] after r up = up.0
rises_at m (x ∷ before) after r up =
    let later = rises_at (x.number + 1) before after r up.1 in omega (arith, up.0, later)

rises_before : (m : ℕ) (before after : List Record) (r : Record) → RisesFrom m (before ++ r ∷ after) → (d : Record)
    → Contains before d → d.number < r.number
rises_before m [] after r up d (i, within, e) = absurd (omega (arith, within))
rises_before m (x ∷ before) after r up d (zero, within, e) =
    let later : x.number + 1 ≤ r.number = rises_at (x.number + 1) before after r up.1 in
    subst (λ (y : Record). y.number < r.number) e (omega (arith, later))
rises_before m (x ∷ before) after r up d (suc i, within, e) =
    rises_before (x.number + 1) before after r up.1 d (i, omega (arith, within), e)

module _ (t : House) (h : List Entry) (l : List Record) (legal : Legal t l) (of : AreOf h l) where
  -- the trade of the node that a change names
  named_known : (b rest : List Record) (trades : List (Option ℕ)) → l ≡ b ++ rest → AreKnown h l b trades
      → (n : EntryPart) (x : Node) → node_of b n ≡ Some x
      → (cell trades n.entry ≡ trade_at l n)
      × ((k : ℕ) → cell trades n.entry ≡ Some k → (1 ≤ k) × (k ≤ length h))
  named_known b rest trades cut known n x found =
      let m = maker b n x found in
      let own : n.entry ≡ m.change.number = made_number m.change n x m.makes_it in
      let among : Contains l m.change =
      subst (λ z. Contains z m.change) (sym cut) (Contains-append_left b rest m.change m.among) in
      let is = known m.change m.among in (
        ap (cell trades) own
            ∙ (is.same ∙ sym (made_trade t l legal m.change m.change.command refl among n x m.makes_it)),
        λ k e. is.within k (ap (cell trades) (sym own) ∙ e),
      )

  -- the trade of the next change, by its command
  next_known : (b rest : List Record) (trades : List (Option ℕ)) → l ≡ b ++ rest → AreKnown h l b trades → (r : Record)
      → (1 ≤ r.number) × (r.number ≤ length h) → (c : Command)
      → ((n : EntryPart) → names n c ≡ true → (x : Node) × (node_of b n ≡ Some x))
      → (trade_by (cell trades) r.number c ≡ trade_of l r.number c)
      × ((k : ℕ) → trade_by (cell trades) r.number c ≡ Some k → (1 ≤ k) × (k ≤ length h))
  next_known b rest trades cut known r within (Trade f a i s lots) there = (
    refl,
    λ k e. subst (λ (m : ℕ). (1 ≤ m) × (m ≤ length h)) (same_Some r.number k e) within,
  )
  next_known b rest trades cut known r within (Split n ps) there =
      let x = there n (ap (λ o. o || false) (name_same n)) in named_known b rest trades cut known n x.0 x.1
  next_known b rest trades cut known r within (Claim n account) there =
      let x = there n (name_same n) in named_known b rest trades cut known n x.0 x.1
  next_known b rest trades cut known r within (Refuse n) there =
      let x = there n (name_same n) in named_known b rest trades cut known n x.0 x.1
  next_known b rest trades cut known r within (Cancel n) there =
      let x = there n (name_same n) in named_known b rest trades cut known n x.0 x.1
  next_known b rest trades cut known r within (Agree _ _ _ _) there = (refl, λ k e. absurd (cc))
  next_known b rest trades cut known r within (Raise _ _) there = (refl, λ k e. absurd (cc))
  next_known b rest trades cut known r within (Initiate _) there = (refl, λ k e. absurd (cc))
  next_known b rest trades cut known r within (Decline _) there = (refl, λ k e. absurd (cc))
  next_known b rest trades cut known r within (Reverse _) there = (refl, λ k e. absurd (cc))

  -- the table with one trade more
  push_known : (b rest : List Record) (r : Record) (trades : List (Option ℕ)) (o : Option ℕ) → length trades ≡ length h
      → AreKnown h l b trades → (1 ≤ r.number) × (r.number ≤ length h)
      → ((d : Record) → Contains b d → (1 ≤ d.number) × (d.number < r.number))
      → o ≡ trade_of l r.number r.command → ((k : ℕ) → o ≡ Some k → (1 ≤ k) × (k ≤ length h))
      → AreKnown h l (b ++ r ∷ []) (slice_set trades (r.number - 1) o)
  push_known b rest r trades o long known within below same fits d among =
      elim (Contains-push_cases b r d among) [
        | inl before ↦ (
            let is = known d before in
            let apart = below d before in
            let other : cell (slice_set trades (r.number - 1) o) d.number ≡ cell trades d.number =
            ap inner (get_set_other trades (r.number - 1) (d.number - 1) o
            (λ e. omega (arith, e, apart.0, apart.1, within.0))) in
            record { same = other ∙ is.same; within = λ k e. is.within k (sym other ∙ e) })
        | inr one ↦ (
            let here : cell (slice_set trades (r.number - 1) o) r.number ≡ o =
            ap inner (get_set_same trades (r.number - 1) o (omega (arith, long, within.0, within.1))) in
            subst (IsKnown h l (slice_set trades (r.number - 1) o)) one
            (record { same = here ∙ same; within = λ k e. fits k (sym here ∙ e) }))
      ]

  abbrev Rise : Type 0
  Rise = (before after : List Record) (r : Record) → l ≡ before ++ r ∷ after
      → (d : Record) → Contains before d → (1 ≤ d.number) × (d.number < r.number)

  number_within : (r : Record) → Contains l r → (1 ≤ r.number) × (r.number ≤ length h)
  number_within r among =
      let at = found_at r.number 1 h r (of r among) in (at.from, omega (arith, at.within))

  known_from : IsLegal t l → Rise → (rest b : List Record) (trades : List (Option ℕ)) → l ≡ b ++ rest
      → length trades ≡ length h → AreKnown h l b trades
      → AreKnown h l l (trades_from h trades (map number_of rest))
  known_from lawful rise [] b trades cut long known =
      subst (λ (z : List Record). AreKnown h l z trades) (sym (cut ∙ append-nil b)) known
  known_from lawful rise (r ∷ rest) b trades cut long known =
      let among : Contains l r =
      subst (λ z. Contains z r) (sym (cut ∙ sym (append_assoc b (r ∷ []) rest)))
      (Contains-append_left (b ++ r ∷ []) rest r (Contains-push b r)) in
      let within = number_within r among in
      let row = (refusal_parts t b r.firm r.command (lawful.accepted b rest r cut)).1 in
      let next = next_known b (r ∷ rest) trades cut known r within r.command
      (accepted_there t b r.firm r.command row) in
      let o = trade_by (cell trades) r.number r.command in
      let table : List (Option ℕ) = slice_set trades (r.number - 1) o in
      let more = push_known b rest r trades o long known within
      (rise b rest r cut) next.0 next.1 in
      let step : trades_from h (trades_with trades r.number (entry_of h r.number)) (map number_of rest)
      ≡ trades_from h table (map number_of rest) =
      ap (λ (d : Option Record). trades_from h (trades_with trades r.number d) (map number_of rest)) (of r among) in
      subst (AreKnown h l l) (sym step)
      (known_from lawful rise rest (b ++ r ∷ []) table (cut ∙ sym (append_assoc b (r ∷ []) rest))
      (length-set trades (r.number - 1) o ∙ long) more)

  rises : RisesFrom 0 l → Rise
  rises up before after r cut d among =
      let there : Contains l d =
      subst (λ z. Contains z d) (sym cut) (Contains-append_left before (r ∷ after) d among) in (
        (number_within d there).0,
        rises_before 0 before after r (subst (RisesFrom 0) cut up) d among,
      )

  -- of each change of the list the table has its trade
  pub all_known : IsLegal t l → RisesFrom 0 l
      → AreKnown h l l (trades_from h (replicate (length h) None) (map number_of l))
  all_known lawful up =
      known_from lawful (rises up) l [] (replicate (length h) None) refl (length-replicate (length h) None)
      (λ r among. absurd (omega (arith, among.1)))
