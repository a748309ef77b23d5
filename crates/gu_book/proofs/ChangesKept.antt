-- How the terms, fees and positions that a book keeps follow each kind of change.
use Rattle.gu_book.proofs.FiledLess as less
use Rattle.gu_book.proofs
use Rattle.gu_book.specs
use Rattle.gu_depend.proofs.Vocabulary
use proofs.{Dealing.{raised_most, used_most}, FiledChanges.left_alone, HoldingRows.{first_there, put_there}}
use proofs.PartsAway.{at_whole, held_is, moved, moved_few, split_moved, split_well, whole_well}
use proofs.Refused.{accepted_small, next_legal}
use proofs.{Standings.{has_taken, positions_moved, row_fits}, Undoing.{fees_without, list, positions_without}}
use proofs.Vocabulary.{added_by, All-contains, AllWithinLimits, ap, append-nil, AreFeesOf, ArePositionsOf, AreTermsOf}
use proofs.Vocabulary.{arith, charge_of, Command, counted_at, DecidesNode, EntryPart, facts, false, filter_map}
use proofs.Vocabulary.{Grove, HaveMoved, HaveRoom, Holding, holding_away, holding_of, House, is_change, is_claim}
use proofs.Vocabulary.{is_of_trees, IsFree, IsGroveOf, IsNext, IsOfTerms, IsSmallDeed, IsSomeAnd, Key, length, List}
use proofs.Vocabulary.{LiveState}
use proofs.Vocabulary.{lookup, lots_in, named_place, Node, node_of, None, Option, option_and_then, pair_of, Part}
use proofs.Vocabulary.{part_away, PositionRows, Record, refl, same_Some, Settled, SettledAs, Side, Some, Split, sum_by}
use proofs.Vocabulary.{sum_by-cons, sym, taken_by, Trade, true, without, [], ℕ, ◌++◌, ◌+◌, ◌<◌, ◌^◌, ◌∙◌, ◌∷◌, ◌≡◌, ◌≤◌}
use proofs.Within.{node_within}
use Rattle.gu_base.specs.declared.state.State.TheVariants.{Cancelled, Refused}
use Rattle.gu_depend.proofs.{Deals.{both_same, SettledAt}, LastMoves.{is_before, IsBefore}}
use Rattle.gu_depend.proofs.TermsFollow.{apart_follows, nobody_follows, put_follows, taken_follows}
use Rattle.{gu_depend.specs.Terms.pair_of_kind, gu_fees.specs.{Pairs.{HasRoomFor, PairView}, Rows.{FeeRows, is_pair}}}
use Rattle.gu_fees.specs.Terms.{CanPut, CanPutAt, IsPut, IsReady, IsTakenOut, last_entry, row_of, TermsView}
use Rattle.gu_tree.specs.{Changes.is_given_back, Shown.GivesBack}
use specs.{Dealing.{CanClaim, HasRoomForClaim, IsClaimed, place_of_kind}, LiveState.CanFollow}
use Vocabulary.{Agree, Cancel, Charge, charge_of_node, Claim, Dealing, Deed, deed_of, Given, is_given, Kind}
use Vocabulary.{Makes, Pair, Raise, raised_under, Raises, Refuse, SplitHolds, State, state_after, used_under, Uses}

-- a command that costs nothing, takes nothing and adds nothing: one that gives a node back, and one of terms
pub record IsIdle (t : House) (l : List Record) (by : List ℕ) (c : Command) : Type 0 where
  pub costs : None ≡ charge_of t l c
  pub takes : None ≡ taken_by l c
  pub adds : added_by by c None ≡ []

pub idle_terms : (t : House) (l : List Record) (by : List ℕ) (c : Command) → IsOfTerms c → IsIdle t l by c
idle_terms t l by (Agree _ _ _ _) is = record { costs = refl; takes = refl; adds = refl }
idle_terms t l by (Raise _ _) is = record { costs = refl; takes = refl; adds = refl }
idle_terms t l by _ is = absurd (cc)

-- a command that gives a node back is a change but no Claim, and is for nobody's terms
pub record GivesNodeBack (t : House) (l : List Record) (by : List ℕ) (c : Command) : Type 0 where
  pub change : is_change c ≡ true
  pub other : is_claim c ≡ false
  pub idle : IsIdle t l by c
  pub apart : pair_of l by c ≡ None

pub decided_back : (t : House) (l : List Record) (by : List ℕ) (n : EntryPart) (c : Command) → DecidesNode n c
    → is_given_back (state_after c) ≡ true → GivesNodeBack t l by c
decided_back t l by n (Refuse _) decides back =
    record { change = refl; other = refl; idle = record { costs = refl; takes = refl; adds = refl }; apart = refl }
decided_back t l by n (Cancel _) decides back =
    record { change = refl; other = refl; idle = record { costs = refl; takes = refl; adds = refl }; apart = refl }
decided_back t l by n (Claim _ _) decides back = absurd (cc)
decided_back t l by n _ decides back = absurd decides

pub gives_node_back : (t : House) (l : List Record) (by : List ℕ) (c : Command) (n : EntryPart) (s : State)
    → GivesBack n s c → GivesNodeBack t l by c
gives_node_back t l by c n Refused is = rw is (decided_back t l by n (Refuse n) refl refl)
gives_node_back t l by c n Cancelled is = rw is (decided_back t l by n (Cancel n) refl refl)
gives_node_back t l by c n _ is = absurd is

-- a change that may follow the list of which a state is kept, follows its trees
pub next_of : {t : House} {l : List Record} {r : Record} {s : LiveState} → CanFollow t l r s → IsNext t l r s.trees
next_of can = record {
  filed = can.state.filed;
  later = can.state.placed;
  replayed = can.list.replayed;
  lawful = can.lawful;
  rises = can.rises;
}

module _ {t : House} {l : List Record} {r : Record} {s : LiveState} (can : CanFollow t l r s) where
  -- each row has room for as many lots as an entry may have
  fits : (at : Key) (side : Side) (n : ℕ) → n ≤ 10000000 → lots_in s.positions at side + n < 2 ^ 64
  fits = row_fits can.list.few can.list.within can.state.stands

  -- ---- a Trade of these lots

  module _ (traded : Holding)
      (trades : r.command ≡ Trade traded.key.firm traded.key.account traded.key.instrument traded.side traded.lots)
    where
      adds : added_by r.firm r.command None ≡ traded ∷ []
      adds = rw trades

      -- the row has room
      pub trade_fits : lots_in s.positions traded.key traded.side + traded.lots < 2 ^ 64
      trade_fits = fits traded.key traded.side _ (rw trades at (accepted_small t l r.firm r.command can.lawful))

      -- and has the lots
      pub trade_stands : (new : PositionRows) → HaveMoved s.positions new None (traded ∷ [])
          → ArePositionsOf (l ++ r ∷ []) new
      trade_stands new put =
          positions_moved (next_of can) _ new can.state.stands None (sym (cc trades)) (rw adds put)

  -- ---- what moves nothing

  pub idle_stands : IsIdle t l r.firm r.command → ArePositionsOf (l ++ r ∷ []) s.positions
  idle_stands idle =
      positions_moved (next_of can) _ _ can.state.stands None idle.takes
      (λ at side. omega (arith, ap (sum_by (counted_at at side)) idle.adds))

-- a change that may follow and takes the whole of a node, the lots that stand there: a Split or a Claim
pub record TakesWhole (t : House) (l : List Record) (r : Record) (s : LiveState) (n : EntryPart) (x : Node)
    (whole : Holding) : Type 0 where
  pub can : CanFollow t l r s
  pub there : node_of l n ≡ Some x
  pub holds : Some whole ≡ holding_of l x

module _ {t : House} {l : List Record} {r : Record} {s : LiveState} {n : EntryPart} {x : Node} {whole : Holding}
    (of : TakesWhole t l r s n x whole) where
  its_whole : Some whole ≡ option_and_then (holding_of l) (node_of l n)
  its_whole = cc (of.holds, of.there)

  -- its node has lots in their range
  pub few_whole : x.lots ≤ 10000000
  few_whole = rw of.there at (node_within l n of.can.list.within)

  few_held : whole.lots ≤ 10000000
  few_held = omega (arith, few_whole, (held_is _ _ _ _ of.holds).0)

  -- ---- a Split

  module _ (ps : List Part) (splits : r.command ≡ Split n ps) where
    well : SettledAt l n (SplitHolds t l r.firm ps)
    well = split_well t l r.firm n ps (rw splits at of.can.lawful)

    -- the whole stands in an account of the firm that splits it, and has the lots of its parts
    pub whole_is : (whole.key.firm ≡ r.firm) × (whole.lots ≡ sum_by (λ (p : Part). p.lots) ps)
    whole_is = whole_well well whole (cc (of.holds, same_Some x well.node (sym of.there ∙ well.there)))

    takes : Some whole ≡ taken_by l r.command
    takes = cc (its_whole, splits)

    -- the rows have room for what goes elsewhere
    pub split_fits : HaveRoom s.positions (filter_map (part_away whole r.firm) ps)
    split_fits at side =
        fits of.can at side _ (omega (arith, few_held, moved_few whole r.firm ps, whole_is.1))

    module _ (mid : PositionRows) (put : HaveMoved s.positions mid None (filter_map (part_away whole r.firm) ps)) where
      -- so many lots stand where the whole does
      pub split_takes : moved whole r.firm ps ≤ lots_in mid whole.key whole.side
      split_takes =
          omega (
            arith,
            has_taken (next_of of.can) _ mid of.can.state.stands (filter_map (part_away whole r.firm) ps)
                put whole takes,
            moved_few whole r.firm ps,
            whole_is.1,
          )

      pub split_stands : (new : PositionRows) → HaveMoved mid new (Some (at_whole whole (moved whole r.firm ps))) []
          → ArePositionsOf (l ++ r ∷ []) new
      split_stands new taken =
          positions_moved (next_of of.can) _ new of.can.state.stands _ takes
          (rw (ap (λ c. added_by r.firm c (Some whole)) splits)
          (split_moved t whole r.firm ps whole_is.0 whole_is.1 well.holds.parts _ mid new put taken))

  -- ---- a Claim

  module _ (account : List ℕ) (claims : r.command ≡ Claim n account) where
    claim_takes : Some whole ≡ taken_by l r.command
    claim_takes = cc (its_whole, claims)

    -- what it costs
    pub claim_costs : (o : Option Charge) → o ≡ charge_of_node t l x → o ≡ charge_of t l r.command
    claim_costs o is = cc (claims, of.there)

    -- the lots in the account of the claim
    abbrev claimed_lots : Holding
    claimed_lots = holding_away whole r.firm account whole.lots

    claim_adds : added_by r.firm r.command (Some whole) ≡ claimed_lots ∷ []
    claim_adds = cc claims

    -- the row has room
    pub claim_fits : lots_in s.positions claimed_lots.key whole.side + whole.lots < 2 ^ 64
    claim_fits =
        fits of.can claimed_lots.key whole.side whole.lots few_held

    module _ (mid : PositionRows) (put : HaveMoved s.positions mid None (claimed_lots ∷ [])) where
      -- once they are put they are there
      pub claim_there : whole.lots ≤ lots_in mid claimed_lots.key whole.side
      claim_there = first_there mid claimed_lots [] (put_there _ mid (claimed_lots ∷ []) put)

      -- so many stand where the node stood
      pub claim_whole : whole.lots ≤ lots_in mid whole.key whole.side
      claim_whole = has_taken (next_of of.can) _ mid of.can.state.stands (claimed_lots ∷ []) put _ claim_takes

      pub claim_stands : (new : PositionRows) → HaveMoved new mid None (whole ∷ []) → ArePositionsOf (l ++ r ∷ []) new
      claim_stands new taken =
          positions_moved (next_of of.can) _ new of.can.state.stands _ claim_takes
          (rw claim_adds (λ at side. omega (
            arith,
            put at side,
            taken at side,
            sum_by-cons (counted_at at side) whole [],
          )))

-- ---- how the terms that a book keeps follow its changes, and what an Agree or a Raise leaves of all else

-- ---- which changes deal

-- a change of trees that is no Claim deals for nobody
pub trees_apart : (l : List Record) (by : List ℕ) (c : Command) → is_of_trees c ≡ true → is_claim c ≡ false
    → pair_of l by c ≡ None
trees_apart l by (Trade _ _ _ _ _) of other = refl
trees_apart l by (Split _ _) of other = refl
trees_apart l by (Refuse _) of other = refl
trees_apart l by (Cancel _) of other = refl
trees_apart l by _ of other = absurd (cc)

-- an Agree and a Raise deal for two firms
pub terms_paired : (l : List Record) (by : List ℕ) (c : Command) → IsOfTerms c → (p : Pair) × (pair_of l by c ≡ Some p)
terms_paired l by (Agree giver taker _ _) is = (record { giver = giver; taker = taker }, refl)
terms_paired l by (Raise giver _) is = (record { giver = giver; taker = by }, refl)
terms_paired l by _ is = absurd (cc)

-- and have no place in the trees
terms_placeless : (k : ℕ) (c : Command) → IsOfTerms c → named_place k c ≡ None
terms_placeless k (Agree _ _ _ _) of = refl
terms_placeless k (Raise _ _) of = refl
terms_placeless k _ of = absurd (cc)

-- ---- room

has_room : (d : Deed) → IsSmallDeed d → (ds : List Dealing) → raised_under ds ≤ 10000000000000000000
    → used_under ds ≤ 10000000000000 → HasRoomFor ds d
has_room (Makes a) small ds raised used = small.limit_fits
has_room (Raises lots) small ds raised used = omega (arith, small)
has_room (Uses lots) small ds raised used = omega (arith, small)

module _ {t : House} {l : List Record} {v : TermsView} (few : length l ≤ 1000000) (all : AllWithinLimits l)
    (are : AreTermsOf t l v) (g k : List ℕ) (d : Deed) (small : IsSmallDeed d) where
  room_by : (o : Option PairView) → row_of v g k ≡ o → IsSomeAnd o (λ r. 1 ≤ r.room)
      → IsSomeAnd o (λ r. (1 ≤ r.room) × HasRoomFor r.dealings d)
  room_by None e h = absurd h
  room_by (Some q) e h =
      let told = (are.rows g k q e).1 in
      let raised = raised_most l g k all few in
      let used = used_most l g k all few in (
        h,
        has_room d small q.dealings (omega (arith, ap raised_under told))
            (omega (arith, ap used_under told)),
      )

  -- a small deed may be put where there is room for an entry
  pub can_put : (n : ℕ) → last_entry v < n → IsReady v g k → CanPut v g k (record { number = n; deed = d })
  can_put n above ready = record { room = ready.room; above = above; pair = room_by _ refl ready.pair }

-- at the place of the two
pub can_put_at : {v : TermsView} {g k : List ℕ} {d : Dealing} (i : ℕ) → Some i ≡ lookup (is_pair g k) v.places
    → CanPut v g k d → CanPutAt v i d
can_put_at {v} {d = d} i at can = record {
  room = can.room;
  above = can.above;
  pair = rw (← at) at can.pair;
}

-- ---- one change more

module _ {t : House} {l : List Record} {r : Record} {ts : Grove} (next : IsNext t l r ts) where
  before : IsBefore t l r
  before = is_before t l r (next_legal next)

  -- that deals for nobody
  pub dealt_apart : (v : TermsView) → AreTermsOf t l v → pair_of l r.firm r.command ≡ None
      → AreTermsOf t (l ++ r ∷ []) v
  dealt_apart v are none = apart_follows t l r before v are none

  -- that was put to the terms of a giver and a taker
  pub dealt_put : (v w : TermsView) (g k : List ℕ) (d : Deed) → AreTermsOf t l v
      → deed_of l g k r.firm r.command ≡ Some d → IsPut v w g k (record { number = r.number; deed = d })
      → AreTermsOf t (l ++ r ∷ []) w
  dealt_put v w g k d are deals put = put_follows t l r before v w g k d are deals put

  module _ (n : EntryPart) (account : List ℕ) (claims : r.command ≡ Claim n account) (x : Node)
      (there : node_of l n ≡ Some x) where
    claimed_by : (kind : Kind) → x.kind ≡ kind → (v w : TermsView) → AreTermsOf t l v
        → IsClaimed v w r.number x.lots kind → AreTermsOf t (l ++ r ∷ []) w
    claimed_by (Given m g k) is v w are put =
        dealt_put v w g k _ are (cc (claims, there, both_same g k))
        put
    claimed_by _ is v w are same = rw same (dealt_apart v are (cc (claims, there)))

    pub claim_dealt : (v w : TermsView) → AreTermsOf t l v → IsClaimed v w r.number x.lots x.kind
        → AreTermsOf t (l ++ r ∷ []) w
    claim_dealt v w are put = claimed_by x.kind refl v w are put

  -- an Agree and a Raise change no tree
  pub terms_filed : IsOfTerms r.command → IsGroveOf (l ++ r ∷ []) ts
  terms_filed of_terms = left_alone next (terms_placeless _ _ of_terms)

-- ---- a claim of a node of some kind

pub can_claim : {t : House} {l : List Record} {v : TermsView} → length l ≤ 1000000 → AllWithinLimits l
    → AreTermsOf t l v → (n lots : ℕ) → lots ≤ 10000000 → last_entry v < n → (kind : Kind) → HasRoomForClaim v kind
    → CanClaim v n lots kind
can_claim few all are n lots small above (Given m g k) ready = can_put few all are g k _ small n above ready
can_claim few all are n lots small above _ ready = tt

-- what has a place is a given node
pub can_at : (v : TermsView) (n lots i : ℕ) (kind : Kind) → Some i ≡ place_of_kind v kind
    → CanClaim v n lots kind → CanPutAt v i (record { number = n; deed = Uses lots })
can_at v n lots i (Given _ g k) at can = can_put_at i at can
can_at v n lots i _ at can = absurd (cc)

pub claimed_at : (v w : TermsView) (n lots i : ℕ) (kind : Kind) → Some i ≡ place_of_kind v kind
    → ((g k : List ℕ) → lookup (is_pair g k) v.places ≡ Some i
    → IsPut v w g k (record { number = n; deed = Uses lots }))
    → IsClaimed v w n lots kind
claimed_at v w n lots i (Given _ g k) at put = put g k (sym at)
claimed_at v w n lots i _ at put = absurd (cc)

-- and a node for which there is room has one, if it is given
pub claimed_nowhere : (v : TermsView) (n lots : ℕ) (kind : Kind) → None ≡ place_of_kind v kind
    → CanClaim v n lots kind → IsClaimed v v n lots kind
claimed_nowhere v n lots (Given _ g k) at can = absurd (rw (← at) at can.pair)
claimed_nowhere v n lots _ at can = refl

pub claimed_last : (v w : TermsView) (n lots : ℕ) (kind : Kind) → last_entry v < n → IsClaimed v w n lots kind
    → last_entry w ≤ n
claimed_last v w n lots (Given m g k) above put = omega (arith, put.last)
claimed_last v w n lots _ above same = omega (arith, ap last_entry same)

-- ---- one change less

given_pair : (kind : Kind) → is_given kind ≡ true → (p : Pair) × (pair_of_kind kind ≡ Some p)
given_pair (Given m g k) h = (record { giver = g; taker = k }, refl)
given_pair _ h = absurd (cc)

module _ {t : House} {l : List Record} {r : Record} {ts : Grove} (u : IsFree t l r ts) where
  claim_paired : (c : Command) → is_claim c ≡ true → SettledAs t l r.firm c → (p : Pair) × (pair_of l r.firm c ≡ Some p)
  claim_paired (Claim n account) is s =
      let p = given_pair _ s.holds.given in
      (p.0, cc)
  claim_paired _ is s = absurd (cc)

  -- taken out of the terms of its giver and taker
  dealt_taken : (v w : TermsView) (p : Pair) → AreTermsOf t l v → pair_of l r.firm r.command ≡ Some p
      → IsTakenOut v w r.number → AreTermsOf t (without l r.number) w
  dealt_taken v w p are of taken =
      taken_follows t l r (list u) u.among u.free v w p are of taken

  -- a Claim
  pub claim_undealt : (v w : TermsView) → AreTermsOf t l v → is_claim r.command ≡ true → IsTakenOut v w r.number
      → AreTermsOf t (without l r.number) w
  claim_undealt v w are is taken =
      let settled = All-contains (Settled t l) l r (facts t l u.replayed).settled u.among in
      let paired = claim_paired _ is settled.stands in
      dealt_taken v w _ are paired.1 taken

  -- another change of trees
  pub apart_undealt : (v : TermsView) → AreTermsOf t l v → is_of_trees r.command ≡ true → is_claim r.command ≡ false
      → AreTermsOf t (without l r.number) v
  apart_undealt v are of_trees other =
      nobody_follows t l r (list u) u.among u.free v are
      (trees_apart l _ _ of_trees other)

  -- an Agree or a Raise
  pub terms_undealt : (v w : TermsView) → AreTermsOf t l v → IsOfTerms r.command → IsTakenOut v w r.number
      → AreTermsOf t (without l r.number) w
  terms_undealt v w are of taken = let p = terms_paired l r.firm _ of in dealt_taken v w p.0 are p.1 taken

  -- an Agree or a Raise that goes leaves the trees as they are
  pub undealt_filed : IsOfTerms r.command → IsGroveOf (without l r.number) ts
  undealt_filed of = less.left_alone u (terms_placeless _ _ of)

  -- what costs nothing leaves the fees as they are
  pub fees_left : None ≡ charge_of t (without l r.number) r.command → (fees : FeeRows) → AreFeesOf t l fees
      → AreFeesOf t (without l r.number) fees
  fees_left costs fees are = fees_without u fees fees are None costs (λ cs sums. rw (append-nil cs) at sums)

  -- and what moves nothing the positions
  pub positions_left : IsIdle t (without l r.number) r.firm r.command → (rows : PositionRows) → ArePositionsOf l rows
      → ArePositionsOf (without l r.number) rows
  positions_left idle rows are =
      positions_without u rows rows rows are (λ at side. refl) None idle.takes
      (λ at side. omega (arith, ap (sum_by (counted_at at side)) idle.adds))
