use Rattle.std.proofs.Common.{rules}
use Rattle.gu_base.proofs.names.alloc.AllocId.new.Goals as goal

pub returns-in-Some : goal.returns-in-Some
returns-in-Some c = search rules
