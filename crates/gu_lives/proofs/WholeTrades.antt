-- What stands under a change by a node is of the same trade.
use Rattle.std.proofs.Common.{◌≡◌, ℕ, suc, Bool, true, false, ◌||◌, List, [], ◌∷◌, length}
use Rattle.std.proofs.Common.{refl, sym, ◌∙◌, ap, cond, arith, Contains, append-nil, inl, inr}
use Rattle.std.specs.Prelude.{Some, None, find, option_map, option_and_then}
use Rattle.std.proofs.lemmas.Bool.{or_cases}
use Rattle.gu_base.specs.Numbers.{EntryPart}
use Rattle.gu_base.specs.House.{House}
use Rattle.gu_base.specs.Nodes.{node_of, nodes_of, nodes_of_parts, same_name, splits, decides, parent}
use Rattle.gu_base.specs.Places.{line_within, line_of, root_along}
use Rattle.gu_base.specs.Standing.{IsLegal}
use Rattle.gu_base.specs.declared.command.Command.{Command}
use Rattle.gu_base.specs.declared.command.Command.TheVariants.{Trade, Split, Claim, Refuse, Cancel, Agree, Raise}
use Rattle.gu_base.specs.declared.command.Command.TheVariants.{Initiate, Decline, Reverse}
use Rattle.gu_base.specs.declared.entry.Record.{Record}
use Rattle.gu_base.specs.declared.node.Kind.TheVariants.{Root}
use Rattle.gu_base.specs.declared.node.Node.{Node}
use Rattle.gu_base.proofs.NodeNames.{name_is, name_same, made_of, part_parent}
use Rattle.gu_base.proofs.Searches.{find_passes, found_in}
use Rattle.gu_tree.specs.Shown.{HasDistinctNumbers}
use Rattle.gu_depend.specs.Under.{names, is_under}
use Rattle.gu_depend.proofs.Deals.{front_facts}
use Rattle.gu_depend.proofs.Finds.{found_some}
use Rattle.gu_depend.proofs.Grown.{Grown, NamesThere}
use Rattle.gu_depend.proofs.Replay.{Legal, legal_list}
use Rattle.gu_depend.proofs.StandsLast.{node_of_maker}
use Rattle.gu_depend.proofs.StandsUnder.{any_found}
use Rattle.gu_depend.proofs.Vocabulary.{All-contains}
use Rattle.gu_lives.specs.Kept.{sets_terms, IsClosed}
use Rattle.gu_lives.specs.Trades.{trade_at, trade_of, passes, in_trades}

-- a change that names a node is of the node's trade
pub split_trade : (l : List Record) (k : ℕ) (n : EntryPart) (c : Command) → splits n c ≡ true
    → trade_of l k c ≡ trade_at l n
split_trade l k n (Split m _) h = ap (trade_at l) (name_is m n h)
split_trade l k n (Trade _ _ _ _ _) h = absurd (cc)
split_trade l k n (Claim _ _) h = absurd (cc)
split_trade l k n (Refuse _) h = absurd (cc)
split_trade l k n (Cancel _) h = absurd (cc)
split_trade l k n (Agree _ _ _ _) h = absurd (cc)
split_trade l k n (Raise _ _) h = absurd (cc)
split_trade l k n (Initiate _) h = absurd (cc)
split_trade l k n (Decline _) h = absurd (cc)
split_trade l k n (Reverse _) h = absurd (cc)

pub decided_trade : (l : List Record) (k : ℕ) (n : EntryPart) (c : Command) → decides n c ≡ true
    → trade_of l k c ≡ trade_at l n
decided_trade l k n (Claim m _) h = ap (trade_at l) (name_is m n h)
decided_trade l k n (Refuse m) h = ap (trade_at l) (name_is m n h)
decided_trade l k n (Cancel m) h = ap (trade_at l) (name_is m n h)
decided_trade l k n (Split _ _) h = absurd (cc)
decided_trade l k n (Trade _ _ _ _ _) h = absurd (cc)
decided_trade l k n (Agree _ _ _ _) h = absurd (cc)
decided_trade l k n (Raise _ _) h = absurd (cc)
decided_trade l k n (Initiate _) h = absurd (cc)
decided_trade l k n (Decline _) h = absurd (cc)
decided_trade l k n (Reverse _) h = absurd (cc)

named_trade : (l : List Record) (k : ℕ) (n : EntryPart) (c : Command) → names n c ≡ true → trade_of l k c ≡ trade_at l n
named_trade l k n c h = elim (or_cases (splits n c) (decides n c) h) [
  | inl split ↦ split_trade l k n c split
  | inr decided ↦ decided_trade l k n c decided
]

-- the list has a change
pub long_enough : {A : Type 0} (xs : List A) (x : A) → Contains xs x → (m : ℕ) × (length xs ≡ suc m)
long_enough [] x (i, within, e) = absurd (omega (arith, within))
long_enough (y ∷ xs) x among = (length xs, refl)

root_behind : (x y : Node) (ys : List Node) → root_along (x ∷ y ∷ ys) ≡ root_along (y ∷ ys)
root_behind x y ys = refl

module _ (t : House) (l : List Record) (legal : Legal t l) where
  pub grown : Grown l l
  grown = (front_facts t l l [] (sym (append-nil l)) legal.replayed).grown

  -- a root is its own
  pub own_trade : (k : Record) (by account instrument : List ℕ) (x : Node) (n : EntryPart) → Contains l k
      → made_of k n ≡ Some x → x.name ≡ n → parent x.kind ≡ None → trade_at l n ≡ Some n.entry
  own_trade k by account instrument x n among made called top =
      let found = node_of_maker l k n x legal.once among made in
      let long = long_enough l k among in
      let line : line_of l n ≡ x ∷ [] =
      ap (line_within (length l) l) found
      ∙ (ap (λ f. line_within f l (Some x)) long.1
      ∙ ap (λ o. x ∷ line_within long.0 l (option_and_then (node_of l) o)) top) in
      ap (λ xs. option_map (λ (r : EntryPart). r.entry) (root_along xs)) line
      ∙ ap (λ (z : EntryPart). Some z.entry) called

  -- a part is of its parent's
  pub part_trade : (n m : EntryPart) (x y : Node) → node_of l n ≡ Some x → parent x.kind ≡ Some m → node_of l m ≡ Some y
      → trade_at l n ≡ trade_at l m
  part_trade n m x y found up above =
      let f = length l in
      let one : line_within f l (Some x) ≡ line_within (suc f) l (Some x) =
      sym (grown.ends (suc f) n x found (omega arith)) in
      let line : line_of l n ≡ x ∷ line_within f l (Some y) =
      ap (line_within f l) found
      ∙ (one ∙ ap (λ o. x ∷ line_within f l o) (ap (option_and_then (node_of l)) up ∙ above)) in
      let over : line_of l m ≡ y ∷ line_within f l (option_and_then (node_of l) (parent y.kind)) =
      ap (line_within f l) above ∙ sym (grown.ends (suc f) m y above (omega arith)) in
      let same : line_within f l (Some y) ≡ line_of l m = sym (ap (line_within f l) above) in
      ap (λ xs. option_map (λ (r : EntryPart). r.entry) (root_along xs))
      (line ∙ ap (λ ys. x ∷ ys) (same ∙ over))
      ∙ ap (λ ys. option_map (λ (r : EntryPart). r.entry) (root_along ys)) (sym over)

  under_trade : (k e : Record) (c : Command) → k.command ≡ c → Contains l k
      → is_under k.number k.firm c e.command ≡ true
      → trade_of l e.number e.command ≡ trade_of l k.number c
  under_trade k e (Trade f a i s n) is among h =
      let top : EntryPart = record { entry = k.number; part = 0 } in
      let root : Node = record { name = top; lots = n; kind = Root (record { firm = f; account = a }) } in
      let made : made_of k top ≡ Some root =
      ap (λ d. find (λ x. same_name x.name top) (nodes_of k.number k.firm d)) is
      ∙ ap (λ b. cond b (Some root) None) (name_same top) in
      split_trade l e.number top e.command h ∙ own_trade k f a i root top among made refl refl
  under_trade k e (Split m ps) is among h =
      let parts = nodes_of_parts k.number 1 m k.firm ps in
      let named = any_found (λ x. names x.name e.command) parts h in
      let part = named.0 in
      let first = found_some (λ x. same_name x.name part.name) parts part
      (found_in (λ x. names x.name e.command) parts part named.1) (name_same part.name) in
      let made : made_of k part.name ≡ Some first.0 =
      ap (λ d. find (λ x. same_name x.name part.name) (nodes_of k.number k.firm d)) is ∙ first.1 in
      let there = All-contains (NamesThere l) l k grown.named among m
      (ap (names m) is ∙ ap (λ b. b || false) (name_same m)) in
      named_trade l e.number part.name e.command (find_passes (λ x. names x.name e.command) parts part named.1)
      ∙ part_trade part.name m first.0 there.0 (node_of_maker l k part.name first.0 legal.once among made)
      (part_parent part.name m k.number 1 k.firm ps first.0 first.1) there.1
  under_trade k e (Claim n _) is among h = split_trade l e.number n e.command h
  under_trade k e (Refuse n) is among h = split_trade l e.number n e.command h
  under_trade k e (Cancel n) is among h = split_trade l e.number n e.command h
  under_trade k e (Agree _ _ _ _) is among h = absurd (cc)
  under_trade k e (Raise _ _) is among h = absurd (cc)
  under_trade k e (Initiate _) is among h = absurd (cc)
  under_trade k e (Decline _) is among h = absurd (cc)
  under_trade k e (Reverse _) is among h = absurd (cc)

  -- what sets terms is of no trade
  no_trade : (p : ℕ → Bool) (k : ℕ) (c : Command) → sets_terms c ≡ true → passes p (trade_of l k c) ≡ true
  no_trade p k (Agree _ _ _ _) h = refl
  no_trade p k (Raise _ _) h = refl
  no_trade p k (Trade _ _ _ _ _) h = absurd (cc)
  no_trade p k (Split _ _) h = absurd (cc)
  no_trade p k (Claim _ _) h = absurd (cc)
  no_trade p k (Refuse _) h = absurd (cc)
  no_trade p k (Cancel _) h = absurd (cc)
  no_trade p k (Initiate _) h = absurd (cc)
  no_trade p k (Decline _) h = absurd (cc)
  no_trade p k (Reverse _) h = absurd (cc)

  pub trades_closed : (p : ℕ → Bool) → IsClosed l (in_trades l p)
  trades_closed p = record {
    terms = λ r among h. no_trade p r.number r.command h;
    below = λ k e among there h out.
        ap (passes p) (under_trade k e k.command refl among h) ∙ out;
  }

pub whole_trades : (t : House) (l : List Record) (p : ℕ → Bool) → HasDistinctNumbers l → IsLegal t l
    → IsClosed l (in_trades l p)
whole_trades t l p distinct legal = trades_closed t l (legal_list t l distinct legal) p
