use Rattle.std.proofs.Common.{rules}
use Rattle.gu_codec.proofs.writing.append.Goals as goal

pub returns-then-bytes-capacity-clause-items : goal.returns-then-bytes-capacity-clause-items
returns-then-bytes-capacity-clause-items c = search rules

pub returns-then-bytes-capacity-clause-len : goal.returns-then-bytes-capacity-clause-len
returns-then-bytes-capacity-clause-len c = search rules
