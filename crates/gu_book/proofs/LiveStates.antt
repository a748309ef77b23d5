-- What is kept of the live changes follows them: behind a growth, with one change more, and with one less.
use Rattle.gu_book.proofs
use Rattle.gu_book.specs
use proofs.AllShown.{undone_of_terms}
use proofs.ChangesKept.{apart_undealt, can_put, dealt_apart, dealt_put, fees_left, idle_stands, idle_terms, next_of}
use proofs.{ChangesKept.{positions_left, TakesWhole, terms_filed, terms_undealt, undealt_filed}, Charging.fees_stay}
use proofs.{Dealing.deed_small, HoldingRows.first_there, PartsAway.holds_some, Refused.accepted_small, Sound.rises_at}
use proofs.Undoing.{added_there, GoesBack, moves_back, positions_without, room_back, taken_same}
use proofs.Vocabulary.{added_by, Addition, AreFeesOf, ArePositionsOf, AreTermsOf, arith, charge_of}
use proofs.Vocabulary.{Command, EntryPart, false, HaveMoved, HaveThere, held_above, Holding, holding_of, House}
use proofs.Vocabulary.{is_claim, is_of_trees, IsGroveOf, IsOfTerms, IsSome, last_place, List, LiveState, lots_in, Named}
use proofs.Vocabulary.{named_node, node_of, None, Option, option_and_then, pair_of, place_in, PositionRows, Record}
use proofs.Vocabulary.{record_of, refl, Some, sym, taken_by, Trade, true, without, [], ℕ, ◌++◌, ◌+◌, ◌<◌, ◌∷◌, ◌≡◌, ◌≤◌}
use Rattle.gu_depend.proofs.Vocabulary.{Claim, Deed, deed_of}
use Rattle.gu_fees.specs.Terms.{CanPut, IsPut, IsReady, IsTakenOut, last_entry, TermsView}
use specs.Found.{AreTreesOf, IsNamedBy, LiesThere}
use specs.Holdings.{comes_from, goes_back, HasRoomBack, SameLots, taken_before}
use specs.LiveState.{Becomes, CanAdd, CanFollow, CanGo, IsStateOf}

module _ {t : House} {l : List Record} {r : Record} {s : LiveState} (can : CanFollow t l r s) where
  -- no entry of a giver and a taker has so high a number
  pub above : (dealt : TermsView) → last_entry dealt ≡ last_entry s.terms → last_entry dealt < r.number
  above dealt last = omega (arith, can.state.dealt_before)

  -- one change more
  pub state_more : (new : LiveState) → IsGroveOf (l ++ r ∷ []) new.trees → last_place new.trees ≤ r.number
      → AreFeesOf t (l ++ r ∷ []) new.fees → ArePositionsOf (l ++ r ∷ []) new.positions
      → AreTermsOf t (l ++ r ∷ []) new.terms → last_entry new.terms ≤ r.number
      → IsStateOf t (l ++ r ∷ []) (r.number + 1) new
  state_more new filed placed charged stands dealt last = record {
    filed = filed;
    charged = charged;
    stands = stands;
    dealt = dealt;
    placed = omega arith;
    dealt_before = omega arith;
  }

  -- that costs nothing and deals for nobody
  pub state_apart : (new : LiveState) → new.fees ≡ s.fees → new.terms ≡ s.terms → IsGroveOf (l ++ r ∷ []) new.trees
      → last_place new.trees ≤ r.number → None ≡ charge_of t l r.command → ArePositionsOf (l ++ r ∷ []) new.positions
      → pair_of l r.firm r.command ≡ None → IsStateOf t (l ++ r ∷ []) (r.number + 1) new
  state_apart new paid deals filed placed costs stands none =
      state_more new filed placed (rw paid (fees_stay (next_of can) s.fees can.state.charged costs)) stands
      (rw deals (dealt_apart (next_of can) s.terms can.state.dealt none))
      (let before = can.state.dealt_before in rw deals (omega arith))

  -- an Agree or a Raise, by what it does to the terms of its giver and taker
  module _ (of : IsOfTerms r.command) (giver taker : List ℕ) (d : Deed)
      (deals : deed_of l giver taker r.firm r.command ≡ Some d) (ready : TermsView) (are : AreTermsOf t l ready)
      (last : last_entry ready ≡ last_entry s.terms) where
    pub may_deal : IsReady ready giver taker → CanPut ready giver taker (record { number = r.number; deed = d })
    may_deal room =
        let within = accepted_small t l _ _ can.lawful in
        let small = rw deals at (deed_small l giver taker r.firm r.command can.list.within within) in
        can_put can.list.few can.list.within are _ _ d small _ (above ready last) room

    pub state_dealt : (dealt : TermsView) → IsPut ready dealt giver taker (record { number = r.number; deed = d })
        → IsStateOf t (l ++ r ∷ []) (r.number + 1) (record s { terms = dealt })
    state_dealt dealt put =
        let idle = idle_terms t l _ _ of in
        let placed = can.state.placed in
        state_more _ (terms_filed (next_of can) of) (omega arith)
        (fees_stay (next_of can) _ can.state.charged idle.costs) (idle_stands can idle)
        (dealt_put (next_of can) _ _ _ _ d are deals put) (omega (arith, put.last))

-- ---- the node of a change that is to be added

module _ {add : Addition} {s : LiveState} (can : CanAdd add s) (m : Named) (is : add.sought.now.named ≡ Some m)
    (n : EntryPart) (names : named_node add.made.now.command.now ≡ Some n) where
  named_by : IsNamedBy add.changes n (Some m)
  named_by = rw (names, is) at can.named

  lies : LiesThere add.changes (Some m) add.sought.now.path.items
  lies = rw is at can.there

  -- lots stand there
  pub whole_there : IsSome (holding_of add.changes m.node)
  whole_there =
      let follows = can.follows in
      holds_some follows.state.filed (rises_at 1 _ _ [] follows.rises).rises named_by.2 (lies _ follows.state.filed)

  pub takes_whole : (whole : Holding) → Some whole ≡ holding_of add.changes m.node
      → TakesWhole add.house.now add.changes (record_of add.made.now) s n m.node whole
  takes_whole whole holds = record { can = can.follows; there = named_by.0; holds = holds }

-- ---- one change less

-- a Claim alone costs something
uncharged : (t : House) (l : List Record) (c : Command) → is_claim c ≡ false → None ≡ charge_of t l c
uncharged t l (Claim _ _) other = absurd (cc)
uncharged t l _ other = refl

module _ {t : House} {l : List Record} {r : Record} {s : LiveState} (can : CanGo t l r s) where
  pub trees_of : AreTreesOf l s.trees
  trees_of = record { house = t; filed = can.free.filed; replayed = can.list.replayed; rises = can.free.rises }

  -- an Agree or a Raise
  pub terms_gone : place_in l r.number ≡ None → (dealt : TermsView) → IsTakenOut s.terms dealt r.number
      → Becomes t l (without l r.number) s (record s { terms = dealt })
  terms_gone none dealt taken next is =
      let of = undone_of_terms can.free can.change none in
      let idle = idle_terms t _ _ _ of in
      record {
        filed = undealt_filed can.free of;
        charged = fees_left can.free idle.costs _ is.charged;
        stands = positions_left can.free idle _ is.stands;
        dealt = terms_undealt can.free _ _ is.dealt of taken;
        placed = is.placed;
        dealt_before = omega arith;
      }

  -- a change of trees that is no Claim costs nothing and deals for nobody
  pub apart_gone : (new : LiveState) → new.fees ≡ s.fees → new.terms ≡ s.terms → is_of_trees r.command ≡ true
      → is_claim r.command ≡ false → IsGroveOf (without l r.number) new.trees
      → last_place new.trees ≡ last_place s.trees
      → (ArePositionsOf l s.positions → ArePositionsOf (without l r.number) new.positions)
      → Becomes t l (without l r.number) s new
  apart_gone new paid deals of_trees other filed last stands next is =
      let placed = is.placed in
      let before = is.dealt_before in
      record {
        filed = filed;
        charged = rw paid (fees_left can.free (uncharged t (without l r.number) _ other) _ is.charged);
        stands = stands is.stands;
        dealt = rw deals (apart_undealt can.free _ is.dealt of_trees other);
        placed = omega arith;
        dealt_before = rw deals before;
      }

  -- what it took, where it stands; `back` is what goes back of that
  module _ (back : Option Holding) (goes : back ≡ goes_back r.firm r.command (taken_before l r.command))
      (ready : PositionRows) (same : SameLots s.positions ready) where
    moves : GoesBack r.firm r.command (taken_before l r.command)
    moves = moves_back can.free _ (taken_same can.free)

    -- it is there
    pub back_there : HaveThere ready (comes_from r.firm r.command back)
    back_there = rw goes (moves.there _ (added_there can.free _ _ can.state.stands same _ (taken_same can.free)))

    -- has room where it goes
    pub back_room : HasRoomBack ready back (comes_from r.firm r.command back)
    back_room =
        rw goes (moves.room ready (room_back can.free can.list.few can.list.within _ _ can.state.stands same _
        (taken_same can.free)))

    -- and when it is back, the positions are those without it
    pub back_stands : (new : PositionRows) → HaveMoved new ready back (comes_from r.firm r.command back)
        → ArePositionsOf l s.positions → ArePositionsOf (without l r.number) new
    back_stands new moved are =
        let whole = rw goes at moved in
        positions_without can.free _ _ new are same _ (taken_same can.free) (moves.moved _ new whole)

  -- of a Claim, what stands where the node above does
  pub claim_goes_back : (n : EntryPart) (account : List ℕ) → r.command ≡ Claim n account → {back : Option Holding}
      → back ≡ option_and_then (held_above l) (node_of l n)
      → back ≡ goes_back r.firm r.command (taken_before l r.command)
  claim_goes_back n account claims is = cc

  -- a Trade's lots are in its account, and go from there
  module _ (traded : Holding)
      (trades : r.command ≡ Trade traded.key.firm traded.key.account traded.key.instrument traded.side traded.lots)
    where
      adds : added_by r.firm r.command None ≡ traded ∷ []
      adds = rw trades

      takes : None ≡ taken_by (without l r.number) r.command
      takes = sym (cc trades)

      pub trade_there : traded.lots ≤ lots_in s.positions traded.key traded.side
      trade_there =
          first_there _ _ [] (rw adds at (added_there can.free _ _ can.state.stands (λ at side. refl) _ takes))

      pub trade_gone : (new : PositionRows) → HaveMoved new s.positions None (traded ∷ [])
          → ArePositionsOf l s.positions → ArePositionsOf (without l r.number) new
      trade_gone new taken are = positions_without can.free _ _ new are (λ at side. refl) None takes (rw adds taken)
