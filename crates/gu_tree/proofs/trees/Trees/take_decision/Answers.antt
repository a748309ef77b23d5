use Rattle.gu_tree.proofs.trees.Trees.take_decision.Goals as goal
use Rattle.gu_tree.proofs.GroveEdits.{at_there, found, grove_of, roomier, some_and, taken_some, TakesDecision}
use Rattle.gu_tree.proofs.{GroveEdits.taking_back, trees.Trees.take_decision.{Given.Over, Goals.After-take}}
use Rattle.gu_tree.proofs.Vocabulary.{edit_at, head_of, node_at, offer_node, Rose, set, Some, stand_path, ◌≡◌}

pub unreachable-requires-in_default-decision : goal.unreachable-requires-in_default-decision
unreachable-requires-in_default-decision g c =
    taken_some c.self.invariant c.args.stand (found _ c.self.invariant c.root_of-i.ensures c.index_mut.ensures.value
    c.in-Some.is c.take_decision-decision.ensures.decision) (rw (← c.self.view_is) at c.requires.leaf)
    c.in_default-decision.is

-- where the leaf then stands, and what the call does to the trees
taken : (g : Over) (c : After-take g) → (u : Rose)
    × (node_at (stand_path c.args.stand c.args.path.now.items) c.in-Some.tree ≡ Some u)
    × (c.take_decision-decision.new.self ≡ edit_at (offer_node (head_of u).place) c.args.path.now.items c.in-Some.tree)
    × TakesDecision (grove_of c.self.inside.trees.items c.self.inside.slots.filed)
    (grove_of (set c.self.inside.trees.items c.root_of-i.result (Some c.take_decision-decision.new.self))
    c.take.new.self.filed) c.args.trade c.in-Some.tree c.args.path.now.items (head_of u).place
taken g c =
    let is = roomier _ 0 0 c.self.invariant in
    let (u, stands, edited) = some_and (λ u. c.take_decision-decision.new.self
    ≡ edit_at (offer_node (head_of u).place) c.args.path.now.items c.in-Some.tree) _
    c.take_decision-decision.ensures.node in (
      u,
      stands,
      edited,
      taking_back is c.args.stand (found _ is c.root_of-i.ensures c.index_mut.ensures.value c.in-Some.is
          c.take_decision-decision.ensures.decision) (rw (← c.self.view_is) at c.requires.leaf) _ _
          c.in-Some-decision.is (cc edited) c.take.ensures.taken,
    )

pub invariant_of-self : goal.invariant_of-self
invariant_of-self g c = roomier _ _ _ (taken g (goal.at.invariant_of-self g c).After-take).3.grove

pub returns : goal.returns
returns g c =
    let (u, stands, edited, e) = taken g (goal.at.returns g c).After-take in
    rw (← c.self.view_is) (record {
      tree = at_there _ _ _ e.found (at_there _ _ _ stands e.changed);
      place = e.place;
      last = c.take.ensures.taken.last;
      shows = at_there _ _ _ e.found (at_there _ _ _ stands (rw edited at c.take_decision-decision.ensures.shows));
    })
