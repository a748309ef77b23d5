use Rattle.std.proofs.Common.{rules}
use Rattle.gu_session.proofs.session.Session.step_noted.Goals as goal

pub returns-in-Message-clause-ok : goal.returns-in-Message-clause-ok
returns-in-Message-clause-ok c = search rules

pub returns-in-Tick-clause-ok : goal.returns-in-Tick-clause-ok
returns-in-Tick-clause-ok c = search rules

pub returns-in-Reply-clause-ok : goal.returns-in-Reply-clause-ok
returns-in-Reply-clause-ok c = search rules

pub returns-in-End-clause-ok : goal.returns-in-End-clause-ok
returns-in-End-clause-ok c = search rules
