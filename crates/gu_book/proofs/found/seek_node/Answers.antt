use Rattle.gu_book.proofs.found.seek_node.Goals as goal
use Rattle.gu_book.proofs.{found.seek_node.Goals.After-found_at-found, OnePlace.{found_node, found_none, lies_there}}
use Rattle.gu_book.proofs.Vocabulary.{ap, arith, depth_of, node_of, none_is_some, same_Some, Some, sym, ◌∙◌, ◌≡◌}
use Rattle.gu_book.specs.Found.{IsNamedBy}

pub unreachable-requires : goal.unreachable-requires
unreachable-requires c =
    none_is_some (node_of c.args.changes.now c.args.name) c.in-Some.node
    (found_none c.requires.trees c.args.name (rw c.in_default-find.is at c.find.ensures.absent))
    (sym c.node_of.ensures ∙ c.in-Some.is)

-- the node that stands there is the one that the list has under the name
its_node : (c : After-found_at-found)
    → IsNamedBy c.args.changes.now c.args.name
    (Some (record { node = c.in-Some.node; found = c.found_at-found.result }))
its_node c =
    let l = c.args.changes.now in
    let q = c.found_at-found.ensures.found l c.args.name c.args.trees.now c.requires.trees
    (rw c.in-Some-find.is at c.find.ensures.found) (rw c.in-Some-find.is at c.find.ensures.node) in
    let there : node_of l c.args.name ≡ Some c.in-Some.node = sym c.node_of.ensures ∙ c.in-Some.is in
    let one : q.0 ≡ c.in-Some.node = same_Some q.0 c.in-Some.node (sym (found_node q) ∙ there) in (
      there,
      rw one at q.1,
      rw one at q.2,
    )

pub returns-clause-named : goal.returns-clause-named
returns-clause-named c = its_node (goal.at.returns-clause-named c).After-found_at-found

pub returns-clause-there : goal.returns-clause-there
returns-clause-there c =
    let is = its_node (goal.at.returns-clause-there c).After-found_at-found in
    lies_there c.requires.trees.filed c.args.name (record { node = c.in-Some.node; found = c.found_at-found.result })
    c.in-Some-find.spot.trade c.find.new.path.items is.1 c.found_at-found.ensures.trade
    (rw c.in-Some-find.is at c.find.ensures.found)

its_depth : (c : After-found_at-found) → depth_of c.args.changes.now c.args.name ≡ c.found_at-found.result.depth
its_depth c = let is = its_node c in ap (depth_of c.args.changes.now) (sym is.1) ∙ is.2.deep

pub returns-clause-most : goal.returns-clause-most
returns-clause-most c = let deep = its_depth (goal.at.returns-clause-most c).After-found_at-found in omega (arith, deep)

pub returns-clause-least : goal.returns-clause-least
returns-clause-least c =
    λ _. let deep = its_depth (goal.at.returns-clause-least c).After-found_at-found in omega (arith, deep)
