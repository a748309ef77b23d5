use Rattle.std.proofs.Common.{rules}
use Rattle.gu_command.proofs.options.options_of.Goals as goal

-- each option is read behind its own name
pub returns-clause-ok : goal.returns-clause-ok
returns-clause-ok c = search rules
