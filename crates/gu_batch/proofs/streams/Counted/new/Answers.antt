use Rattle.std.proofs.Common.{rules}
use Rattle.gu_batch.proofs.streams.Counted.new.Goals as goal

pub returns-clause-made : goal.returns-clause-made
returns-clause-made g c = search rules
