use Rattle.gu_depend.proofs.standing.first_standing_at.Goals as goal
use Rattle.gu_depend.proofs.{ReadOff.read_as, Vocabulary.{false, true, ◌∙◌}}

pub returns-then-is_trade_or_decision : goal.returns-then-is_trade_or_decision
returns-then-is_trade_or_decision A c = λ t l g p rises legal shows place has.
    c.split_of.ensures
    ∙ read_as g t l rises legal shows c.args.k c.args.spot.now.trade p c.args.spot.now.node.now place has true
    (cc (c.if-is_trade_or_decision.true))

pub returns-else-is_trade_or_decision : goal.returns-else-is_trade_or_decision
returns-else-is_trade_or_decision A c = λ t l g p rises legal shows place has.
    c.first_on_parts.ensures
    ∙ read_as g t l rises legal shows c.args.k c.args.spot.now.trade p c.args.spot.now.node.now place has false
    (cc (c.if-is_trade_or_decision.false))
