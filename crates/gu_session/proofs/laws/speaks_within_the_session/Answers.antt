use Rattle.gu_session.proofs.Runs.{speaks_within_the_session as law}
use Rattle.gu_session.proofs.laws.speaks_within_the_session.Goals as goal

pub returns : goal.returns
returns c = law
