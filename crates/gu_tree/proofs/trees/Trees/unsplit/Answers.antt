use Rattle.gu_tree.proofs.trees.Trees.unsplit.Goals as goal
use Rattle.gu_tree.proofs.GroveEdits.{at_there, found, grove_of, roomier, TakesSplit, taking_split}
use Rattle.gu_tree.proofs.{trees.Trees.unsplit.{Given.Over, Goals.After-take}, Vocabulary.{set, Some}}

-- what the call does to the trees
taken : (g : Over) (c : After-take g) → TakesSplit (grove_of c.self.inside.trees.items c.self.inside.slots.filed)
    (grove_of (set c.self.inside.trees.items c.root_of-i.result (Some c.take_split-split.new.self))
    c.take.new.self.filed)
    c.args.trade c.in-Some.tree c.args.path.now.items
taken g c =
    let is = roomier _ 0 0 c.self.invariant in
    taking_split c.take_split-split.result is (found _ is c.root_of-i.ensures c.index_mut.ensures.value c.in-Some.is
    c.take_split-split.ensures.split) (rw (← c.self.view_is) at c.requires.undecided)
    (rw c.take_split-split.ensures.node) c.take.ensures.taken

pub invariant_of-self : goal.invariant_of-self
invariant_of-self g c = roomier _ _ _ (taken g (goal.at.invariant_of-self g c).After-take).grove

pub returns : goal.returns
returns g c =
    let e = taken g (goal.at.returns g c).After-take in
    rw (← c.self.view_is) (record {
      tree = at_there _ _ _ e.found e.changed;
      place = e.place;
      last = c.take.ensures.taken.last;
      shows = at_there _ _ _ e.found (rw c.take_split-split.ensures.node at c.take_split-split.ensures.shows);
    })
