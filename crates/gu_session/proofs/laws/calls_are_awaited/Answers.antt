use Rattle.gu_session.proofs.Runs.{calls_are_awaited as law}
use Rattle.gu_session.proofs.laws.calls_are_awaited.Goals as goal

pub returns : goal.returns
returns c = law
