use Rattle.clap.specs.Words.{new_app, with_rule}
use Rattle.std.proofs.Common.{codes}
use Rattle.gu_command.specs.Lines.{house_rule}
use Rattle.gu_command.proofs.CommandLines.{same_rule}
use Rattle.gu_command.proofs.line.trace_command.Goals as goal

pub returns : goal.returns
returns c =
    let house = with_rule (new_app (codes "trace")) house_rule in
    same_rule house _ _ c.with_option.result c.trade_option.ensures.rule
    (c.with_option.ensures house c.house_command-command.ensures)
