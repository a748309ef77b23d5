use Rattle.std.proofs.Common.{sym, subst}
use Rattle.gu_book.specs.Seen.{BookView}
use Rattle.gu_journal.specs.Counting.{Recovers}
use Rattle.gu_journal.specs.Damages.{HasNoLater}
use Rattle.gu_server.proofs.stating.heard_of.Goals as goal

pub returns-in-Ok-heard_in-clause-recovers : goal.returns-in-Ok-heard_in-clause-recovers
returns-in-Ok-heard_in-clause-recovers c =
    subst (λ (b : BookView). Recovers c.args.house.house c.args.house.pin.bytes c.args.file.items b.history)
    (sym c.in-Ok-heard_in.ensures) c.in-Ok.ensures.recovers

pub returns-in-Ok-heard_in-clause-later : goal.returns-in-Ok-heard_in-clause-later
returns-in-Ok-heard_in-clause-later c =
    subst (λ (b : BookView). HasNoLater c.args.house.house c.args.house.pin.bytes c.args.file.items b.history)
    (sym c.in-Ok-heard_in.ensures) c.in-Ok.ensures.later
