use Rattle.std.proofs.Common.{rules}
use Rattle.gu_command.proofs.statement.statement_line.Goals as goal

-- each word is read behind its own name
pub returns-clause-read : goal.returns-clause-read
returns-clause-read c = search rules
