use Rattle.std.proofs.Common.{rules}
use Rattle.gu_session.proofs.session.Session.awaiting.Goals as goal

pub returns : goal.returns
returns c = search rules
