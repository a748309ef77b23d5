use Rattle.std.proofs.Common.{subst}
use Rattle.std.specs.Prelude.{IfOk}
use Rattle.gu_book.specs.Seen.{HouseAndHistory, BookView, stored}
use Rattle.gu_desk.specs.Runs.{IsRunOf}
use Rattle.gu_keep.proofs.starting.serve_listener.Goals as goal

-- the ground opens with the book that the journal says
pub returns : goal.returns
returns g c =
    subst (λ (o : HouseAndHistory). IfOk c.run_kept.result (λ (b : BookView). IsRunOf o (stored b)))
    c.in-Ok-prepare.ensures.opening c.run_kept.ensures
