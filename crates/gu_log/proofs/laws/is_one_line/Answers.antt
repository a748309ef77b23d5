use Rattle.gu_log.proofs.OneLine.{line_shows}
use Rattle.gu_log.proofs.laws.is_one_line.Goals as goal

pub returns : goal.returns
returns c = line_shows
