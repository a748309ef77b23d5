use Rattle.gu_tree.proofs.trees.Trees.decide.Goals as goal
use Rattle.gu_tree.proofs.GroveEdits.{at_fact, at_path, at_there, decision_keeps, editing, Edits, found}
use Rattle.gu_tree.proofs.{GroveEdits.{grove_of, IsNamed, roomier}, trees.Trees.decide.{Given.Over, Goals.After-file}}
use Rattle.gu_tree.{proofs.Vocabulary.{decide_node, IsLeaf, set, Some}, specs.Changes.IsOffered}

-- what the call does to the trees
edited : (g : Over) (c : After-file g) → Edits (grove_of c.self.inside.trees.items c.self.inside.slots.filed)
    (grove_of (set c.self.inside.trees.items c.root_of-i.result (Some c.decide-node.new.self)) c.file.new.self.filed)
    c.args.trade c.in-Some.tree c.args.path.now.items (decide_node c.args.number c.args.decision.now) c.args.number
edited g c =
    let is = roomier _ 0 0 c.self.invariant in
    let (v, seen, called) = found (IsNamed c.decide-node.result) is c.root_of-i.ensures c.index_mut.ensures.value
    c.in-Some.is c.decide-node.ensures.name in
    let leafy = at_fact IsLeaf _ _ seen.led c.decide-node.ensures.leaf in
    editing is seen called c.decide-node.ensures.short leafy
    (λ was fresh. decision_keeps _ c.args.decision.now v c.requires.settles
    (at_path IsOffered seen (rw (← c.self.view_is) at c.requires.offered)) leafy was)
    (rw (← c.self.view_is) at c.requires.above) (rw c.decide-node.ensures.node)
    (rw c.node.ensures at c.file.ensures.filed)

pub invariant_of-self : goal.invariant_of-self
invariant_of-self g c = roomier _ _ _ (edited g (goal.at.invariant_of-self g c).After-file).grove

pub returns : goal.returns
returns g c =
    let e = edited g (goal.at.returns g c).After-file in
    rw (← c.self.view_is) (record {
      tree = at_there _ _ _ e.found e.changed;
      place = e.place;
      last = c.file.ensures.filed.last;
      shows = at_there _ _ _ e.found (rw c.decide-node.ensures.node at c.decide-node.ensures.shows);
    })
