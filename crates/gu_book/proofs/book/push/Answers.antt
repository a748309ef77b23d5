use Rattle.gu_book.proofs.book.push.Goals as goal
use Rattle.gu_book.proofs.{LookedUp.entries_fewer, Vocabulary.entry_of_change}

pub push-requires-clause-few : goal.push-requires-clause-few
push-requires-clause-few c =
    entries_fewer c.requires.accepted.house c.args.entries.now.items (entry_of_change c.args.made.now)
    c.args.made.now.number c.requires.accepted.answered
