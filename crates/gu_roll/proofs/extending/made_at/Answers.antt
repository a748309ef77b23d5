use Rattle.std.proofs.Common.{◌∙◌}
use Rattle.gu_roll.proofs.Made.{none_made, line_made, made_is}
use Rattle.gu_roll.proofs.extending.made_at.Goals as goal

pub returns-in_err-called : goal.returns-in_err-called
returns-in_err-called c = c.from_residual.ensures ∙ none_made c.args.house.now c.args.place c.in_err-called.ensures.call

pub returns-in-Agree : goal.returns-in-Agree
returns-in-Agree c =
    made_is c.args.house.now c.args.place _ c.in-Agree.giver c.in-Agree.taker c.in-Agree.rate
    c.in-Agree.limit c.in_ok-called.ensures.call c.in-Agree.is

pub returns : goal.returns
returns c =
    let line = line_made c.args.house.now c.args.place _ c.in_ok-called.ensures.call in
    absurd (c.in_default.not-Agree line.0.0.giver line.0.0.taker line.0.1.rate line.0.1.limit line.2)
