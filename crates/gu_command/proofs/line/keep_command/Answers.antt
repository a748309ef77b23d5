use Rattle.std.proofs.Common.{codes}
use Rattle.clap.specs.Words.{new_app, with_rule}
use Rattle.gu_command.specs.Lines.{house_rule, journal_rule, port_rule, workers_rule, connections_rule}
use Rattle.gu_command.proofs.CommandLines.{same_rule}
use Rattle.gu_command.proofs.line.keep_command.Goals as goal

pub returns : goal.returns
returns c =
    let house = with_rule (new_app (codes "keep")) house_rule in
    let journal = with_rule house journal_rule in
    let port = with_rule journal port_rule in
    let workers = with_rule port workers_rule in
    let connections = with_rule workers connections_rule in
    let one = same_rule house _ _ c.with_option-command.result c.journal_argument-journal.ensures.rule
    (c.with_option-command.ensures house c.house_command-command.ensures) in
    let two = same_rule journal _ _ c.with_option-command-2.result c.port_option.ensures.rule
    (c.with_option-command-2.ensures journal one) in
    let three = same_rule port _ _ c.with_option-command-3.result c.workers_option.ensures.rule
    (c.with_option-command-3.ensures port two) in
    let four = same_rule workers _ _ c.with_option-command-4.result c.connections_option.ensures.rule
    (c.with_option-command-4.ensures workers three) in
    c.with_options.ensures connections four
