use Rattle.gu_status.specs.Metrics.{room_text}
use Rattle.gu_status.proofs.Appending.{on_ok, four}
use Rattle.gu_status.proofs.figures.push_room.Goals as goal

pub returns : goal.returns
unfolding room_text
returns c = on_ok c.push_flag.result
    (λ last. four _ _ _ _ _ _ _ _ _ c.in_ok-push_single.ensures c.in_ok-push_single-2.ensures
    c.in_ok-push_single-3.ensures last) c.push_flag.ensures
