use Rattle.gu_book.proofs.found.find.Goals as goal
use Rattle.gu_book.proofs.OnePlace.{found_none}

pub returns-in_default : goal.returns-in_default
returns-in_default c = λ l are. found_none are c.args.name (rw c.in_default.is at c.find.ensures.absent)

pub returns : goal.returns
returns c = λ l are.
    c.found_at.ensures.found l c.args.name c.args.trees.now are (rw c.in-Some.is at c.find.ensures.found)
    (rw c.in-Some.is at c.find.ensures.node)
