use Rattle.std.proofs.Common.{codes}
use Rattle.clap.specs.Words.{new_app, with_rule}
use Rattle.gu_command.specs.Lines.{house_rule, firm_rule}
use Rattle.gu_command.proofs.CommandLines.{same_rule}
use Rattle.gu_command.proofs.statement.statement_command.Goals as goal

pub returns : goal.returns
returns c =
    let house = with_rule (new_app (codes "statement")) house_rule in
    let firm = with_rule house firm_rule in
    let one = same_rule house _ _ c.with_option-command.result c.firm_option.ensures.rule
    (c.with_option-command.ensures house c.house_command-command.ensures) in
    same_rule firm _ _ c.with_option.result c.source_option.ensures.rule (c.with_option.ensures firm one)
