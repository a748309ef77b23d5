use Rattle.std.proofs.Common.{sym, ◌∙◌}
use Rattle.std.proofs.lemmas.Result.{IfOk-weaker}
use Rattle.gu_recorder.proofs.OnDisk.{comes_back}
use Rattle.gu_server.proofs.laws.what_was_told_comes_back.Goals as goal

-- a journal stands in the file that begins with what was told, and the book begins with that
pub returns-clause-comes_back : goal.returns-clause-comes_back
returns-clause-comes_back g c =
    let file = g.E.Disk.seen c.args.found.disk in
    let told = (c.keeps_told.ensures.kept c.requires.clean).left file c.requires.left in
    let same = c.requires.house ∙ sym c.keeps_told.ensures.house in
    IfOk-weaker c.recover.result _ _
    (λ r book right. comes_back c.args.found.house c.args.recorder.now.journal.house c.args.found.pin.now.bytes
    c.args.recorder.now.journal.pin.bytes file r.book.history c.args.told.seen same (book right) told)
    c.recover.ensures.book
