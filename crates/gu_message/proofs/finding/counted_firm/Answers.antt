use Rattle.std.proofs.Common.{rules}
use Rattle.gu_message.proofs.finding.counted_firm.Goals as goal

pub loop-tag-preserved-then-tag-role_tag : goal.loop-tag-preserved-then-tag-role_tag
loop-tag-preserved-then-tag-role_tag c = search rules
