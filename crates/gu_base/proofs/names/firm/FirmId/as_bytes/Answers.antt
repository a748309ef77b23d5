use Rattle.std.proofs.Common.{rules}
use Rattle.gu_base.proofs.names.firm.FirmId.as_bytes.Goals as goal

pub returns-clause-value : goal.returns-clause-value
returns-clause-value c = search rules
