use Rattle.gu_codec.proofs.Readings as lemmas
use Rattle.gu_codec.proofs.laws.each_stream.Goals as goal

pub returns : goal.returns
returns c = lemmas.stream_is
