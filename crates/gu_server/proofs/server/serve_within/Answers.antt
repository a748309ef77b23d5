use Rattle.std.proofs.Common.{subst}
use Rattle.std.specs.Prelude.{IfOk}
use Rattle.gu_book.specs.Seen.{HouseAndHistory, BookView, stored}
use Rattle.gu_desk.specs.Runs.{IsRunOf}
use Rattle.gu_server.proofs.Begun.{begun}
use Rattle.gu_server.proofs.server.serve_within.Goals as goal

pub returns : goal.returns
returns g c =
    let run = subst (λ (o : HouseAndHistory). IfOk c.run_desk-served.result (λ (b : BookView). IsRunOf o (stored b)))
    c.in-Ok.ensures.opening c.run_desk-served.ensures in
    record { run = run; begins = begun c.args.book c.run_desk-served.result run }
