use Rattle.gu_book.proofs.rules.holdings.holding_above.Goals as goal
use Rattle.gu_book.proofs.{OnePlace.{above_as, found_node}, Vocabulary.{parent, Some, sym, ◌∙◌, ◌≡◌}}

pub returns-in-Some-find : goal.returns-in-Some-find
returns-in-Some-find c =
    let q = c.requires.found in
    let b = c.in-Some-find.ensures c.args.changes.now c.requires.trees in
    let up : parent q.0.kind ≡ Some c.in-Some.parent = sym (rw (found_node q) at c.parent_of.ensures) ∙ c.in-Some.is in
    rw (found_node q)
    (c.held_at.ensures
    ∙ above_as q.2 b.0 c.in-Some-find.above c.in-Some.parent b.2 b.1 up c.args.undone.now.deal c.requires.deal)
