use Rattle.gu_lives.proofs.KeptLegal.{kept_is_legal}
use Rattle.gu_lives.proofs.WholeLive.{whole_kept}
use Rattle.gu_lives.proofs.WholeTrades.{whole_trades}
use Rattle.gu_lives.proofs.laws.a_closed_part_stays_legal.Goals as goal

pub returns-clause-legal : goal.returns-clause-legal
returns-clause-legal c = kept_is_legal

pub returns-clause-whole : goal.returns-clause-whole
returns-clause-whole c = whole_kept

pub returns-clause-trades : goal.returns-clause-trades
returns-clause-trades c = whole_trades
