use Rattle.gu_book.proofs.live_state.LiveState.new.Goals as goal
use Rattle.gu_book.proofs.{Charging.no_fees, Filed.filed_none, Vocabulary.arith}
use Rattle.gu_depend.proofs.TermsFollow.{none_follow}

pub returns : goal.returns
returns c = λ t. record {
  filed = filed_none _ c.new.ensures.trees c.new.ensures.places;
  charged = no_fees t _ c.new-3.ensures;
  stands = record { lots = λ at side. c.new-2.ensures.lots at side };
  dealt = none_follow t _ c.new-4.ensures.rows c.new-4.ensures.entries;
  placed = (let last = c.new.ensures.last in omega arith);
  dealt_before = (let last = c.new-4.ensures.last in omega arith);
}
