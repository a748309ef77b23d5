use Rattle.gu_lives.proofs.WholeLive.{live_rise, whole_live}
use Rattle.gu_lives.proofs.laws.live_changes_are_whole.Goals as goal

pub returns-clause-rise : goal.returns-clause-rise
returns-clause-rise c = live_rise

pub returns-clause-whole : goal.returns-clause-whole
returns-clause-whole c = λ t h lawful small run. whole_live lawful small run
