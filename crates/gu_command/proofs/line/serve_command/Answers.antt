use Rattle.std.proofs.Common.{codes}
use Rattle.clap.specs.Words.{new_app, with_rule}
use Rattle.gu_command.specs.Lines.{house_rule, port_rule, workers_rule}
use Rattle.gu_command.proofs.CommandLines.{same_rule}
use Rattle.gu_command.proofs.line.serve_command.Goals as goal

pub returns : goal.returns
returns c =
    let house = with_rule (new_app (codes "serve")) house_rule in
    let port = with_rule house port_rule in
    let workers = with_rule port workers_rule in
    let one = same_rule house _ _ c.with_option-command.result c.port_option.ensures.rule
    (c.with_option-command.ensures house c.house_command-command.ensures) in
    let two = same_rule port _ _ c.with_option-command-2.result c.workers_option.ensures.rule
    (c.with_option-command-2.ensures port one) in
    same_rule workers _ _ c.with_option.result c.connections_option.ensures.rule (c.with_option.ensures workers two)
