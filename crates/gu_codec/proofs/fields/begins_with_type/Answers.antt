use Rattle.std.proofs.Common.{◌∙◌}
use Rattle.gu_codec.proofs.FieldSteps.{typed_by_text}
use Rattle.gu_codec.proofs.fields.begins_with_type.Goals as goal

pub returns : goal.returns
returns c = c.starts_with.ensures.value ∙ typed_by_text c.args.bytes.now
