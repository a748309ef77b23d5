use Rattle.gu_log.proofs.ReadBack.{line_read}
use Rattle.gu_log.proofs.laws.is_read_back.Goals as goal

pub returns : goal.returns
returns c = line_read
