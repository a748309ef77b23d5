use Rattle.std.proofs.Common.{List, ap, subst}
use Rattle.std.specs.List.{All}
use Rattle.gu_desk.specs.Begins.{BeginsWith}
use Rattle.gu_desk.specs.declared.seat.Seat.{Seat}
use Rattle.gu_desk.proofs.desk.Desk.close.Goals as goal

pub returns-in-Ok-clause-seen : goal.returns-in-Ok-clause-seen
returns-in-Ok-clause-seen g c =
    subst (λ (l : List (Seat g.row.J.Denot)). All (λ s. BeginsWith c.end.result.history s.seen) l)
    (ap (λ v. v.items) c.in-Ok.ensures.same) c.end.ensures.seen
