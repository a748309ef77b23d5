use Rattle.gu_lives.proofs.KeptTerms.{tells_of_trades}
use Rattle.gu_lives.proofs.TwoParts.{split_in_two}
use Rattle.gu_lives.proofs.laws.trades_stand_alone.Goals as goal

pub returns-clause-sums : goal.returns-clause-sums
returns-clause-sums c = λ t l p rises legal. split_in_two t l rises legal p

pub returns-clause-tells : goal.returns-clause-tells
returns-clause-tells c = λ t l p rises legal. tells_of_trades t l rises legal p
