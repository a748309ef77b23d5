use Rattle.gu_lives.proofs.Rolling.{rolled_part, rolled_trades, rolled_whole}
use Rattle.gu_lives.proofs.laws.a_book_is_rolled.Goals as goal

pub returns-clause-whole : goal.returns-clause-whole
returns-clause-whole c = rolled_whole

pub returns-clause-trades : goal.returns-clause-trades
returns-clause-trades c = rolled_trades

pub returns-clause-part : goal.returns-clause-part
returns-clause-part c = rolled_part
