use Rattle.std.proofs.Common.{rules}
use Rattle.gu_codec.proofs.fields.Fields.value_at.Goals as goal

pub returns : goal.returns
returns c = search rules
