use Rattle.std.proofs.Common.{◌≤◌, length, subst}
use Rattle.gu_codec.specs.Answer.{pairs}
use Rattle.gu_message.specs.Finding.{entries}
use Rattle.gu_message.proofs.Indexing.{lone_end, side_slot}
use Rattle.gu_message.proofs.index.Index.has_each_once.Goals as goal

pub returns : goal.returns
returns c e =
    subst (λ fs. length (entries 54 fs) ≤ 1) c.self.view_is
    (lone_end c.self.inside.repeated c.self.inside.slots.now (pairs c.self.inside.fields) 54 c.self.invariant.count
    side_slot e c.self.invariant.lone)
