use Rattle.std.specs.Hash.DefaultHasher.{write_word}
use Rattle.gu_ids.proofs.hash.Sip.take.Goals as goal

pub returns : goal.returns
unfolding write_word
returns c = simp c.turn-turned.ensures
