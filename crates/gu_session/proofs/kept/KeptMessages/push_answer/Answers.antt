use Rattle.gu_session.proofs.KeptLists.{pushed_size}
use Rattle.gu_session.proofs.kept.KeptMessages.push_answer.Goals as goal

pub invariant_of-self-2 : goal.invariant_of-self-2
invariant_of-self-2 c =
    rw (c.push_back_reserved.ensures.items, c.reserve.ensures.items)
    (pushed_size c.self.inside.headers.items c.self.inside.gone c.self.inside.bytes.items c.write_answer.new.bytes.items
    c.in_ok-header.header _ c.self.invariant c.in_ok-header.ensures.ok)
