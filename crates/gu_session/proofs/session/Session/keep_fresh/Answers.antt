use Rattle.std.proofs.Common.{rules}
use Rattle.gu_session.proofs.session.Session.keep_fresh.Goals as goal

pub returns-in_err-keep-clause-err : goal.returns-in_err-keep-clause-err
returns-in_err-keep-clause-err c = search rules
