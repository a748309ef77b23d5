use Rattle.gu_book.proofs.live_state.LiveState.remove_claim.Goals as goal
use Rattle.gu_book.proofs
use proofs.AllShown.{found_named, undone_there}
use proofs.{ChangesKept.claim_undealt, LiveStates.{back_room, back_stands, back_there, claim_goes_back, trees_of}}
use proofs.Undoing.{charged_there, fees_without, others, own_charge}
use proofs.Vocabulary.{ap, arith, charge_of, is_claim, named_node, sym, ◌∙◌, ◌≡◌}
use Rattle.gu_book.proofs.live_state.LiveState.remove_claim.Goals.{After-holding_above-back}

-- what it costs
costs : (c : After-holding_above-back) → c.claim_charge-charge.result
    ≡ charge_of c.args.removal.now.house.now (others c.requires.can.goes.free) c.args.removal.now.entry.now.command
costs c =
    let of = c.args.removal.now in
    c.claim_charge-charge.ensures.value c.args.account.now
    ∙ (sym (ap (charge_of of.house.now of.changes) c.requires.claim) ∙ own_charge c.requires.can.goes.free)

pub holding_above-back-requires : goal.holding_above-back-requires
holding_above-back-requires c =
    let goes = c.requires.can.goes in
    record {
      trees = trees_of goes;
      found = found_named goes.free c.requires.found _ (ap named_node c.requires.claim);
      deal = c.requires.found.deal;
    }

pub unclaim-requires : goal.unclaim-requires
unclaim-requires c =
    let free = c.requires.can.goes.free in
    record {
      may_go = (_, _, free);
      claim = (_, _, c.requires.claim);
      there = undone_there free.filed c.requires.found;
    }

pub take_back-requires : goal.take_back-requires
take_back-requires c =
    let can = c.requires.can.goes in
    charged_there can.free _ can.state.charged _ (costs (goal.at.take_back-requires c).After-holding_above-back)
    c.claim_charge-charge.ensures.lots c.claim_charge-charge.ensures.rate

pub move_claim_back-requires : goal.move_claim_back-requires
move_claim_back-requires c =
    let can = c.requires.can.goes in
    let goes = claim_goes_back can _ _ c.requires.claim c.holding_above-back.ensures in
    let same = c.in_ok-ready_back.ensures.same in
    record {
      claim = (_, c.requires.claim);
      there = back_there can _ goes _ same;
      ready = c.in_ok-ready_back.ensures.ready;
      room = back_room can _ goes _ same;
    }

pub returns-clause-removed : goal.returns-clause-removed
returns-clause-removed c = λ next is.
    let can = c.requires.can.goes in
    let claim = c.requires.claim in
    let goes = claim_goes_back can _ _ claim c.holding_above-back.ensures in
    let placed = is.placed in
    let before = is.dealt_before in
    let last = c.take_out.ensures.last in
    record {
      filed = c.unclaim.ensures.gone _ _ can.free;
      charged = fees_without can.free _ _ is.charged _
          (costs (goal.at.returns-clause-removed c).After-holding_above-back) c.take_back.ensures;
      stands = back_stands can _ goes _ c.in_ok-ready_back.ensures.same _ c.move_claim_back.ensures is.stands;
      dealt = claim_undealt can.free _ _ is.dealt (ap is_claim claim) c.take_out.ensures;
      placed = omega (arith, placed, c.unclaim.ensures.last);
      dealt_before = omega (arith, before, last);
    }
