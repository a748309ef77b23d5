use Rattle.gu_codec.proofs.Readings as lemmas
use Rattle.gu_codec.proofs.laws.one_stream.Goals as goal

pub returns : goal.returns
returns c = lemmas.one_stream
