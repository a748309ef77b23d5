use Rattle.gu_journal.proofs.session.write_own.Goals as goal
use Rattle.gu_journal.proofs.{Vocabulary.text_of_message, Writable.header_for}

pub returns-clause-ok : goal.returns-clause-ok
returns-clause-ok c fs body =
    let house = c.args.stamp.house in
    let header = header_for c.args.kind.now house house c.args.stamp.number c.args.moment.now in
    rw (text_of_message header fs, ← body, ← c.from.ensures) c.write_frame.ensures.ok
