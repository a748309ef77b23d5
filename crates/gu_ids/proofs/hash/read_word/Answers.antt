use Rattle.std.proofs.Common.{refl}
use Rattle.std.specs.Hash.DefaultHasher.{read_word}
use Rattle.gu_ids.proofs.hash.read_word.Goals as goal

pub returns : goal.returns
unfolding read_word
returns c = refl
