use Rattle.gu_session.proofs.Runs.{expected_never_falls as law}
use Rattle.gu_session.proofs.laws.expected_never_falls.Goals as goal

pub returns : goal.returns
returns c = law
