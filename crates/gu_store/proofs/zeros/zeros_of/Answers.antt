use Rattle.gu_store.proofs.zeros.zeros_of.Goals as goal
use Rattle.std.proofs.lemmas.List.{take-replicate}

pub returns : goal.returns
returns c = take-replicate c.args.count 65536 0 c.requires
