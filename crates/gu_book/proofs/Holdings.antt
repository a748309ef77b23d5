-- What a change moves from one account to another.
use Rattle.gu_book.proofs.Vocabulary
use Rattle.gu_depend.proofs
use proofs.{Finds.count_append, Grown.{at_name, line_none, NamesThere, place_claimed, place_same, SplitsDecided}}
use proofs.{LastMoves.{IsBefore, split_kept, trades_kept}, Vocabulary.Cancel}
use proofs.Vocabulary.{Claim, claim_of, claimed_account, Deal, deal_in, decides_well, decision_of, Given, is_given}
use proofs.Vocabulary.{is_taker, is_trade_of, Kind, line_of, made_of, node_called, number_same, Own, Place, place_of}
use proofs.Vocabulary.{place_of_kind, Refuse, same_place, split_of, splits, splits_well, State, trades_in, zero}
use Rattle.gu_base.proofs.{Basics.{bytes_symm, no_some, or_none}, Lines.node_more, Passing.{at_node_none, claim_passes}}
use Rattle.{gu_base.proofs.Sums.sum_agree_on, gu_book.proofs.ByNumber.not_yet}
use Rattle.gu_book.proofs.{Leaves.{none_kept, sum_agree, sum_named, sum_zero}, Once.{asked, one_found}}
use Rattle.gu_book.proofs.Sound.{line_first, line_up, made_found, node_push, root_up, Sound, split_push}
use Rattle.{gu_depend.specs.Moves.named_by, std.proofs.lemmas.Bool.false_from_ne_true}
use Rattle.std.proofs.{lemmas.List.Elements.{Contains-append_right, filter_agree}, Math.Bool.and-false}
use Vocabulary.{accepted_there, added_by, All, All-contains}
use Vocabulary.{All-weaker, ap, arith, Bool, bytes_eq, bytes_eq-Decides, Command, cond, cons_option, counted_at}
use Vocabulary.{deal_of, decides, EntryPart, false, filter, filter_map, find, find-append, find_passes, found_in}
use Vocabulary.{found_once, held_at, Holding, holding_of, House, is_some, Key, kind_of_part, List, lots_at, made}
use Vocabulary.{made_number, name_same, names, Node, node_of, nodes, nodes_of_parts, None, none_is_some, NumbersOnce}
use Vocabulary.{Option, option_and_then, option_map, option_or, or-true, or_false, parent, Part, part_holding}
use Vocabulary.{part_parent, Record, refl, Root, same_name, same_side, Side, Some, Split, sum_by, sum_by-cons, sym}
use Vocabulary.{taken_at, taken_by, Trade, traded_at, true, unwrap_or, [], ℕ, ◌&&◌, ◌++◌, ◌+◌, ◌==◌, ◌∙◌, ◌∷◌, ◌≡◌, ◌≤◌}

-- ---- places and keys

abbrev pub key_at : Place → List ℕ → Key
key_at at instrument = record { firm = at.firm; account = at.account; instrument = instrument }

four : (a b c d : Bool) → ((a && b) && (c && d)) ≡ ((a && (b && c)) && d)
four true true c d = refl
four true false c d = refl
four false b c d = refl

pub places_alike : (a b : Place) → same_place a b ≡ same_place b a
places_alike a b = cc (bytes_symm _ _, bytes_symm _ _)

-- ---- sums

pub counts_or : (at : Key) (side : Side) (o : Option Holding) (hs : List Holding)
    → sum_by (counted_at at side) (cons_option o hs) ≡ taken_at at side o + sum_by (counted_at at side) hs
counts_or at side None hs = omega arith
counts_or at side (Some h) hs = sum_by-cons _ h hs

-- a Split names its node alone, as a Claim does
sum_split : {l : List Record} {bound : ℕ} → Sound l bound → (n : EntryPart) (ps : List Part) (x : Node)
    → node_of l n ≡ Some x → (f : Node → ℕ) → sum_by f (filter (λ x. names x.name (Split n ps)) (nodes l)) ≡ f x
sum_split s n ps x found f = cc (filter_agree _ _ (λ x. or_false _) _, sum_named s n x found f)

pub given_parent : (k : Kind) → is_given k ≡ true → (m : EntryPart) × (parent k ≡ Some m)
given_parent (Given m _ _) h = (m, refl)
given_parent _ h = absurd (cc)

-- ---- what each change counts

-- a list that one change more follows
pub record IsCounted (t : House) (l : List Record) (r : Record) : Type 0 where
  pub last : IsBefore t l r
  pub bound : ℕ
  pub sound : Sound l bound
  pub stand : (x : Node) → node_of l x.name ≡ Some x → (p : Place) × (place_of l x.name ≡ Some p)

-- a node that isn't there is not named
pub unnamed_yet : (l : List Record) (n : EntryPart) (p : Record → Bool)
    → ((d : Record) → p d ≡ true → names n d.command ≡ true) → All (NamesThere l) l → node_of l n ≡ None
    → find p l ≡ None
unnamed_yet l n p named there none =
    no_some _ (λ d e.
    let y = All-contains (NamesThere l) l d there (found_in p l d e) n (named d (find_passes p l d e)) in
    none_is_some _ y.0 none y.1)

module _ {t : House} {l : List Record} {r : Record} (c : IsCounted t l r) where
  -- the nodes that the change makes are new
  unmade : (n : EntryPart) → n.entry ≡ r.number → node_of l n ≡ None
  unmade = not_yet l r c.last.once

  made_here : (x : Node) → made_of r x.name ≡ Some x → node_of (l ++ r ∷ []) x.name ≡ Some x
  made_here x e = cc (node_push l r x.name, unmade x.name (made_number r x.name x e))

  -- so no change before it names one
  unnamed_here : (n : EntryPart) → n.entry ≡ r.number → (p : Record → Bool)
      → ((d : Record) → p d ≡ true → names n d.command ≡ true) → find p l ≡ None
  unnamed_here n own p named = unnamed_yet l n p named c.last.grown.named (unmade n own)

  -- and it splits none of them
  whole_here : (n : EntryPart) → n.entry ≡ r.number → split_of (l ++ r ∷ []) n ≡ None
  whole_here n own =
      let unsplit : splits n r.command ≡ false = false_from_ne_true _ (λ is.
      let y = accepted_there t l r.firm r.command c.last.accepted n (cc) in
      none_is_some _ y.0 (unmade n own) y.1) in
      split_kept c.last n unsplit
      ∙ unnamed_here n own _ (λ d is. cc)

  -- where a node stands that has one above it
  place_up : (x : Node) (m : EntryPart) (o : Option (List ℕ)) → node_of (l ++ r ∷ []) x.name ≡ Some x
      → parent x.kind ≡ Some m → claim_of (l ++ r ∷ []) x.name ≡ o
      → place_of (l ++ r ∷ []) x.name ≡ place_of_kind x.kind o (place_of (l ++ r ∷ []) m)
  place_up x m o found up claims = cc (line_up _ c.last.whole _ m x found up)

  once_before : NumbersOnce l
  once_before n = omega (arith, count_append, c.last.once n)

  decision_push : (m : EntryPart)
      → decision_of (l ++ r ∷ []) m ≡ option_or (decision_of l m) (cond (decides m r.command) (Some r) None)
  decision_push m = find-append _ l _

  pub decision_kept : (m : EntryPart) → decides m r.command ≡ false → decision_of l m ≡ decision_of (l ++ r ∷ []) m
  decision_kept m un = sym (cc (decision_push m, or_none _))

  -- a node that it decides has no Split, which would stand behind the decision
  pub unsplit : (m : EntryPart) → decides m r.command ≡ true → decision_of l m ≡ None → split_of l m ≡ None
  unsplit m is undecided =
      no_some _ (λ d e.
      let same = All-contains (SplitsDecided (l ++ r ∷ []) l) l d c.last.grown.decided
      (found_in (λ q. splits m q.command) l d e) m (find_passes (λ q. splits m q.command) l d e) in
      none_is_some _ r undecided (cc (same, decision_push m, undecided, is)))

-- what was taken and what the nodes count behind the change is what they counted before it and what was added
pub record Balances (at : Place) (instrument : List ℕ) (side : Side) (l : List Record) (r : Record) : Type 0 where
  pub there : taken_at (key_at at instrument) side (taken_by l r.command)
      ≤ sum_by (lots_at l at instrument side) (named_by l r)
  pub equal : taken_at (key_at at instrument) side (taken_by l r.command)
      + sum_by (lots_at (l ++ r ∷ []) at instrument side) (named_by l r)
      + sum_by (lots_at (l ++ r ∷ []) at instrument side) (made r)
      ≡ sum_by (lots_at l at instrument side) (named_by l r)
      + sum_by (counted_at (key_at at instrument) side) (added_by r.firm r.command (taken_by l r.command))

-- ---- each change

-- what the nodes of the parts of a Split count
part_is : (m : EntryPart) (by : List ℕ) (p : Place) (w : Deal) (firm : List ℕ) (account : Option (List ℕ))
    (lots : ℕ) (own : Bool)
    → held_at (place_of_kind (cond own (Own m by account) (Given m by firm)) None (Some p)) (Some w) lots
    ≡ cond own
    (option_map
    (λ a. record { key = record { firm = by; account = a; instrument = w.instrument }; side = w.side; lots = lots })
    account) (held_at (Some p) (Some w) lots)
part_is m by p w firm None lots true = refl
part_is m by p w firm (Some a) lots true = refl
part_is m by p w firm account lots false = refl

held_none : (o : Option Place) (lots : ℕ) → held_at o None lots ≡ None
held_none None lots = refl
held_none (Some p) lots = refl

taken_place : (by account : List ℕ) (k : Kind) (o : Option Place) → is_taker by k ≡ true
    → place_of_kind k (Some account) o ≡ Some (record { firm = by; account = account })
taken_place by account (Given _ _ taker) o h = cc ((bytes_eq-Decides taker by).0 h)
taken_place by account _ o h = absurd (cc)

-- a change of this number, firm and id; what is counted is the lots of an instrument, in an account and on a side
module _ (t : House) (l : List Record) (k : ℕ) (by id : List ℕ) (status : State) (at : Place) (i : List ℕ)
    (s : Side) where
  abbrev change : Command → Record
  change c = record { number = k; firm = by; id = id; command = c; status = status }

  abbrev behind : Command → List Record
  behind c = l ++ change c ∷ []

  abbrev Balance : Command → Type 0
  Balance c = IsCounted t l (change c) → Balances at i s l (change c)

  abbrev counted : Option Holding → ℕ
  counted = taken_at (key_at at i) s

  abbrev added : Command → Option Holding → ℕ
  added c o = sum_by (counted_at (key_at at i) s) (added_by by c o)

  -- ---- what a node counts

  -- whether a deal is of the instrument and on the side
  abbrev told : Option Deal → Bool
  told None = false
  told (Some w) = bytes_eq w.instrument i && same_side w.side s

  told_by : (c : Command) → is_trade_of i s c ≡ told (deal_in c)
  told_by (Trade _ _ _ _ _) = refl
  told_by _ = refl

  told_found : (o : Option Record)
      → asked (λ r. is_trade_of i s r.command) o ≡ told (option_and_then (λ r. deal_in r.command) o)
  told_found None = refl
  told_found (Some r) = told_by r.command

  -- a node's trade is of the instrument and on the side where what was traded is
  trades_told : (m : List Record) → NumbersOnce m → (n : EntryPart) → trades_in m i s n ≡ told (traded_at m n)
  trades_told m once n = of_root _
    where
      of_root : (o : Option EntryPart)
          → is_some (option_and_then (λ p. find (λ r. (r.number == p.entry) && is_trade_of i s r.command) m) o)
          ≡ told (option_and_then (λ p. deal_of m p.entry) o)
      of_root None = refl
      of_root (Some p) = one_found _ _ m (once _) ∙ told_found _

  held_counts : (o : Option Place) (w : Option Deal) (lots : ℕ)
      → cond (unwrap_or (option_map (same_place at) o) false && told w) lots 0 ≡ counted (held_at o w lots)
  held_counts None w lots = refl
  held_counts (Some p) None lots = cc (and-false _)
  held_counts (Some p) (Some w) lots = cc (places_alike at p, four _ _ _ _)

  -- a leaf counts its lots where it stands
  lots_held : (m : List Record) (x : Node) (o : Option Place) (w : Option Deal) → split_of m x.name ≡ None
      → place_of m x.name ≡ o → trades_in m i s x.name ≡ told w → lots_at m at i s x ≡ counted (held_at o w x.lots)
  lots_held m x o w whole stands trades = cc (whole, stands, trades, held_counts o w x.lots)

  lots_of_leaf : (m : List Record) → NumbersOnce m → (x : Node) → split_of m x.name ≡ None
      → lots_at m at i s x ≡ counted (holding_of m x)
  lots_of_leaf m once x whole = lots_held m x _ (traded_at m x.name) whole refl (trades_told m once x.name)

  -- ---- a Trade

  trade_balances : (firm account instrument : List ℕ) (side : Side) (lots : ℕ)
      → Balance (Trade firm account instrument side lots)
  trade_balances firm account instrument side lots c =
      let trade = Trade firm account instrument side lots in
      let r = change trade in
      let root : EntryPart = record { entry = k; part = 0 } in
      let x : Node = record { name = root; lots = lots; kind = Root (record { firm = firm; account = account }) } in
      let held : Holding =
      record { key = record { firm = firm; account = account; instrument = instrument }; side = side; lots = lots } in
      let found = made_here c x (cc (name_same root)) in
      let line : line_of (behind trade) root ≡ x ∷ [] = cc (line_first _ c.last.whole root x found, line_none _ _) in
      let own =
      found_once _ _ r (Contains-append_right l (r ∷ []) r (zero, omega arith, refl)) (number_same k) (c.last.once k) in
      let count : lots_at (behind trade) at i s x ≡ counted (Some held) =
      cc (lots_of_leaf (behind trade) c.last.once x (whole_here c root refl)) in
      record { there = omega arith; equal = omega (arith, none_kept, sum_by-cons) }

  -- ---- what a Split or a Claim takes

  module _ (c : Command) (m : EntryPart) (x : Node) (there : node_of l m ≡ Some x)
      (is : IsCounted t l (change c)) where
    abbrev stood : Place
    stood = (is.stand x (at_name l m x there)).0

    taken : option_and_then (holding_of l) (node_of l m) ≡ held_at (Some stood) (traded_at l m) x.lots
    taken = cc (there, (is.stand x (at_name l m x there)).1, node_called l m x there)

    before : split_of l x.name ≡ None → lots_at l at i s x ≡ counted (option_and_then (holding_of l) (node_of l m))
    before whole = cc (lots_of_leaf l (once_before is) x whole, there)

  -- ---- a Split

  -- what a part counts whose whole stands at a place
  abbrev part_counts : Place → Option Deal → Node → ℕ
  part_counts p w y = counted (held_at (place_of_kind y.kind None (Some p)) w y.lots)

  -- the parts count what it adds
  parts_count : (m : EntryPart) (p : Place) (w : Deal) (total n : ℕ) (ps : List Part)
      → sum_by (part_counts p (Some w)) (nodes_of_parts k n m by ps)
      ≡ added (Split m ps) (held_at (Some p) (Some w) total)
  parts_count m p w total n [] = refl
  parts_count m p w total n (q ∷ ps) =
      let whole : Holding = record {
        key = record { firm = p.firm; account = p.account; instrument = w.instrument };
        side = w.side;
        lots = total;
      } in
      let y : Node = record { name = record { entry = k; part = n }; lots = q.lots; kind = kind_of_part m by q } in
      let same : part_counts p (Some w) y ≡ counted (part_holding whole by q) =
      cc (part_is m by p w q.firm q.account q.lots _) in
      omega (
        arith,
        sum_by-cons (part_counts p (Some w)) y (nodes_of_parts k (n + 1) m by ps),
        counts_or (key_at at i) s (part_holding whole by q) (filter_map (part_holding whole by) ps),
        parts_count m p w total (n + 1) ps,
      )

  parts_added : (m : EntryPart) (p : Place) (w : Option Deal) (total : ℕ) (ps : List Part)
      → sum_by (part_counts p w) (nodes_of_parts k 1 m by ps) ≡ added (Split m ps) (held_at (Some p) w total)
  parts_added m p None total ps =
      sum_agree _ _ (λ y. cc (held_none _ y.lots)) (nodes_of_parts k 1 m by ps)
      ∙ sum_zero (nodes_of_parts k 1 m by ps)
  parts_added m p (Some w) total ps = parts_count m p w total 1 ps

  split_balances : (m : EntryPart) (ps : List Part) → Balance (Split m ps)
  split_balances m ps c =
      let split = Split m ps in
      let r = change split in
      let splits_it = splits_well t l by split m c.last.accepted (name_same m) in
      let x = splits_it.node in
      let there = splits_it.there in
      let whole : split_of l x.name ≡ None = cc (node_called l m x there, splits_it.whole) in
      let p = stood split m x there c in
      let w = traded_at l m in
      let now : split_of (behind split) x.name ≡ Some r =
      cc (split_push l r x.name, node_called l m x there, name_same m) in
      let moved_place : place_of (behind split) m ≡ Some p =
      cc (place_same _ l m x c.last.grown there (decision_kept c m refl), node_called l m x there, (c.stand x _).1) in
      let each =
      All-weaker (λ (y : Node). made_of r y.name ≡ Some y)
      (λ (y : Node). lots_at (behind split) at i s y ≡ part_counts p w y)
      (λ y e. let own : y.name.entry ≡ k = made_number r y.name y e in
      let here = made_here c y e in
      let up = part_parent y.name m k 1 by ps y e in
      let undecided =
      unnamed_here c y.name own (λ d. decides y.name d.command) (λ d is. cc (or-true (splits y.name d.command))) in
      let claims : claim_of (behind split) y.name ≡ None = cc (decision_kept c y.name refl) in
      let root = root_up _ c.last.whole _ m y x here up (node_more l (r ∷ []) m x there) in
      lots_held (behind split) y (place_of_kind y.kind None (Some p)) w (whole_here c y.name own)
      (cc (place_up c y m None here up claims))
      (cc (root, trades_kept c.last i s m x there, trades_told l (once_before c) m))) (made r) (made_found r) in
      let leaf = before split m x there c whole in
      let named = sum_split c.sound m ps x there (lots_at l at i s) in
      let named_now = sum_split c.sound m ps x there (lots_at (behind split) at i s) in
      let nothing : lots_at (behind split) at i s x ≡ 0 = cc in
      let made_now = sum_agree_on (lots_at (behind split) at i s) (part_counts p w) (made r) each in
      let parts = parts_added m p w x.lots ps in
      let adds = ap (added split) (taken split m x there c) in
      record { there = omega arith; equal = omega arith }

  -- ---- a Claim

  -- what is claimed counts in its new account what the Claim adds
  claim_added : (p : Place) (w : Option Deal) (m : EntryPart) (account : List ℕ) (lots : ℕ)
      → counted (held_at (Some (record { firm = by; account = account })) w lots)
      ≡ added (Claim m account) (held_at (Some p) w lots)
  claim_added p None m account lots = refl
  claim_added p (Some w) m account lots = omega (arith, sum_by-cons)

  claim_balances : (m : EntryPart) (account : List ℕ) (x : Node) → node_of l m ≡ Some x → is_given x.kind ≡ true
      → is_taker by x.kind ≡ true → decision_of l x.name ≡ None → Balance (Claim m account)
  claim_balances m account x there given taker undecided c =
      let claim = Claim m account in
      let r = change claim in
      let into : Place = record { firm = by; account = account } in
      let is_called = node_called l m x there in
      let is_found = at_name l m x there in
      let whole = unsplit c x.name (cc (is_called, name_same m)) undecided in
      let w = traded_at l m in
      let trades : trades_in l i s x.name ≡ told w = cc (trades_told l (once_before c) x.name) in
      let unsplit : split_of (behind claim) x.name ≡ None = cc (split_kept c.last x.name refl) in
      let claims : claim_of (behind claim) x.name ≡ Some account = cc (decision_push c x.name, name_same m) in
      let up = given_parent x.kind given in
      let stands : place_of (behind claim) x.name ≡ Some into =
      place_up c x up.0 _ (node_more l (r ∷ []) x.name x is_found) up.1 claims
      ∙ taken_place by account x.kind _ taker in
      let now = lots_held (behind claim) x _ w unsplit stands (cc (trades_kept c.last i s x.name x is_found)) in
      let leaf = before claim m x there c whole in
      let named = sum_named c.sound m x there (lots_at l at i s) in
      let named_now = sum_named c.sound m x there (lots_at (behind claim) at i s) in
      let moves = claim_added (stood claim m x there c) w m account x.lots in
      let adds = ap (added claim) (taken claim m x there c) in
      record { there = omega arith; equal = omega arith }

  -- ---- a Refuse or a Cancel: the node stays where it stands

  back_same : (c : Command) (m : EntryPart) → decides m c ≡ true → ((n : EntryPart) → splits n c ≡ false)
      → claimed_account c ≡ None → IsCounted t l (change c)
      → sum_by (lots_at (behind c) at i s) (filter (λ y. same_name m y.name) (nodes l))
      ≡ sum_by (lots_at l at i s) (filter (λ y. same_name m y.name) (nodes l))
  back_same c m decides_it unsplits no_claim counts =
      let w = decides_well t l by c m counts.last.accepted decides_it in
      let x = w.node in
      let there = w.there in
      let is_called = node_called l m x there in
      let is_found = at_name l m x there in
      let undecided : decision_of l x.name ≡ None = cc (w.undecided) in
      let decision : decision_of (behind c) x.name ≡ Some (change c) = cc (decision_push counts x.name) in
      let stays = place_claimed (behind c) l x.name x counts.last.grown is_found (cc) in
      let split = split_kept counts.last x.name (unsplits x.name) in
      let trades = trades_kept counts.last i s x.name x is_found in
      cc (split, stays, trades, sum_named counts.sound m x there _, sum_named counts.sound m x there _)

  pub balances : (c : Command) → Balance c
  balances (Trade firm account instrument side lots) c = trade_balances firm account instrument side lots c
  balances (Split m ps) c = split_balances m ps c
  balances (Claim m account) c =
      let there = at_node_none _ _ c.last.accepted in
      let passes = claim_passes t l by account there.0 there.1.1 in
      claim_balances m account there.0 there.1.0 passes.0.given passes.0.taker passes.1 c
  balances (Refuse m) c =
      record { there = omega arith; equal = omega (arith, back_same (Refuse m) m (name_same m) (λ n. refl) refl c) }
  balances (Cancel m) c =
      record { there = omega arith; equal = omega (arith, back_same (Cancel m) m (name_same m) (λ n. refl) refl c) }
  balances _ c = record { there = omega arith; equal = omega (arith, none_kept) }
