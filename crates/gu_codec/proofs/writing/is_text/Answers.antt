use Rattle.std.proofs.Common.{arith}
use Rattle.gu_codec.proofs.FieldSteps.{value_tested}
use Rattle.gu_codec.proofs.writing.is_text.Goals as goal

pub returns-then-len-le-MAX_TEXT_LEN-clause-yes : goal.returns-then-len-le-MAX_TEXT_LEN-clause-yes
returns-then-len-le-MAX_TEXT_LEN-clause-yes c e =
    record { value = (value_tested c.args.text.now _ c.soh_at.ensures (omega arith)).0 e; short = omega arith }

pub returns-then-len-le-MAX_TEXT_LEN-clause-no : goal.returns-then-len-le-MAX_TEXT_LEN-clause-no
returns-then-len-le-MAX_TEXT_LEN-clause-no c h =
    (value_tested c.args.text.now _ c.soh_at.ensures (omega arith)).1 h.value
