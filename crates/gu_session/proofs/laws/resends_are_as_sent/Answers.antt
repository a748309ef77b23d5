use Rattle.gu_session.proofs.Frames.{resends_are_as_sent as law}
use Rattle.gu_session.proofs.laws.resends_are_as_sent.Goals as goal

pub returns : goal.returns
returns c = law
