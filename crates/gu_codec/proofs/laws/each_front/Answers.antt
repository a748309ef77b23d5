use Rattle.gu_codec.proofs.FrontOf.{front_is, front_alone}
use Rattle.gu_codec.proofs.laws.each_front.Goals as goal

pub returns : goal.returns
returns c = record { stands = front_is; alone = front_alone }
