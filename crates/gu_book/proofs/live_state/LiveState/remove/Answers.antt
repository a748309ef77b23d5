use Rattle.gu_book.proofs.live_state.LiveState.remove.Goals as goal
use Rattle.gu_book.proofs.{AllShown.{of_trees_is, undone_of_trees}, Gone.turned_down, LiveStates.terms_gone}

pub returns-in_default-clause-removed : goal.returns-in_default-clause-removed
returns-in_default-clause-removed c =
    let none = rw c.in_default.is at c.requires.can.undone in
    terms_gone c.requires.can.goes none c.take_out.new.self c.take_out.ensures

pub remove_return-requires-clause-back : goal.remove_return-requires-clause-back
remove_return-requires-clause-back c = turned_down c.in-Refuse.is

pub unreachable-requires : goal.unreachable-requires
unreachable-requires c =
    let found = rw c.in-Some.is at c.requires.can.undone in
    let other = c.in_default-command in
    of_trees_is c.args.removal.now.entry.now.command (undone_of_trees c.requires.can.goes.free found)
    other.not-Trade other.not-Split other.not-Claim other.not-Refuse other.not-Cancel
