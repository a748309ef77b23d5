use Rattle.gu_book.proofs.live_state.LiveState.add_claim.Goals as goal
use Rattle.gu_book.proofs
use proofs.ChangesKept.{can_claim, claim_costs, claim_dealt, claim_fits, claim_stands, claim_there}
use proofs.{ChangesKept.{claim_whole, claimed_last, few_whole, next_of}, Charging.{fees_push, has_room}, Filed.due_same}
use proofs.{Filed.follows_same, LiveStates.{above, state_more, takes_whole, whole_there}, Vocabulary.{ap, named_node}}

pub whole_of-whole-requires-clause-there : goal.whole_of-whole-requires-clause-there
whole_of-whole-requires-clause-there c =
    whole_there c.requires.can c.in-Some.named c.in-Some.is c.requires.claim.0 (ap named_node c.requires.claim.1)

pub node_charge-charge-requires-clause-few : goal.node_charge-charge-requires-clause-few
node_charge-charge-requires-clause-few c =
    let claims = c.requires.claim.1 in
    few_whole (takes_whole c.requires.can _ c.in-Some.is _ (ap named_node claims) _ c.whole_of-whole.ensures)

pub claim-requires-2-clause-room : goal.claim-requires-2-clause-room
claim-requires-2-clause-room c =
    let claims = c.requires.claim.1 in
    let of = takes_whole c.requires.can _ c.in-Some.is _ (ap named_node claims) _ c.whole_of-whole.ensures in
    let can = c.requires.can.follows in
    can_claim can.list.few can.list.within (c.in_ok-place.ensures.same _ can.state.dealt) _ _ (few_whole of)
    (above can c.ready_claim.new.terms c.in_ok-place.ensures.last) _ c.in_ok-place.ensures.ready

pub put-requires : goal.put-requires
put-requires c =
    let claims = c.requires.claim.1 in
    let of = takes_whole c.requires.can _ c.in-Some.is _ (ap named_node claims) _ c.whole_of-whole.ensures in
    rw c.in_account-claimed.ensures (claim_fits of _ claims)

pub put-requires-2 : goal.put-requires-2
put-requires-2 c =
    let can = c.requires.can.follows in
    has_room _ _ _ can.state.charged can.list.few _ c.node_charge-charge.ensures.lots
    (c.node_charge-charge.ensures.rate _ (c.in_ok-place.ensures.same _ can.state.dealt) can.list.within)

pub take-requires : goal.take-requires
take-requires c =
    let claims = c.requires.claim.1 in
    let of = takes_whole c.requires.can _ c.in-Some.is _ (ap named_node claims) _ c.whole_of-whole.ensures in
    rw c.in_account-claimed.ensures
    (claim_there of _ claims _ (rw c.in_account-claimed.ensures at c.in_ok-put.ensures.put))

pub claim-requires-clause-due : goal.claim-requires-clause-due
claim-requires-clause-due c =
    due_same _ _ _ c.in_ok-ready.ensures.same (_, _, next_of c.requires.can.follows)

pub take-requires-2 : goal.take-requires-2
take-requires-2 c =
    let claims = c.requires.claim.1 in
    let of = takes_whole c.requires.can _ c.in-Some.is _ (ap named_node claims) _ c.whole_of-whole.ensures in
    claim_whole of _ claims _ (rw c.in_account-claimed.ensures at c.in_ok-put.ensures.put)

pub returns-clause-added : goal.returns-clause-added
returns-clause-added c =
    let can = c.requires.can.follows in
    let claims = c.requires.claim.1 in
    let of = takes_whole c.requires.can _ c.in-Some.is _ (ap named_node claims) _ c.whole_of-whole.ensures in
    let next = next_of can in
    let are = c.in_ok-place.ensures.same _ can.state.dealt in
    let costs = claim_costs of _ claims _ (c.node_charge-charge.ensures.value _ are) in
    let filed = follows_same _ _ _ _ c.in_ok-ready.ensures.same c.claim.ensures.follows _ _ next in
    state_more can _ filed c.claim.ensures.last
    (fees_push next _ _ can.state.charged _ costs
    c.node_charge-charge.ensures.lots (c.node_charge-charge.ensures.rate _ are can.list.within)
    c.in_default-put.ensures.put)
    (claim_stands of _ claims _
    (rw c.in_account-claimed.ensures at c.in_ok-put.ensures.put) _ c.take-2.ensures)
    (claim_dealt next _ _ claims _ of.there _ _ are c.claim-2.ensures)
    (claimed_last _ _ _ _ _ (above can c.ready_claim.new.terms c.in_ok-place.ensures.last) c.claim-2.ensures)
