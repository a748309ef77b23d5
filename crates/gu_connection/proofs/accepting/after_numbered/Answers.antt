use Rattle.std.proofs.Common.{rules}
use Rattle.gu_connection.proofs.accepting.after_numbered.Goals as goal

pub returns-in_default : goal.returns-in_default
returns-in_default c = search rules
