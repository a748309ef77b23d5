use Rattle.gu_journal.proofs.lawful.are_bytes.Goals as goal
use Rattle.gu_journal.proofs.Vocabulary.{arith}

pub returns : goal.returns
returns c i = omega (arith, c.type_inv.bytes i)
