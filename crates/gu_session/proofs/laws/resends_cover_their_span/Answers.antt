use Rattle.gu_session.proofs.AsSent.{resends_cover_their_span as law}
use Rattle.gu_session.proofs.laws.resends_cover_their_span.Goals as goal

pub returns : goal.returns
returns c = law
