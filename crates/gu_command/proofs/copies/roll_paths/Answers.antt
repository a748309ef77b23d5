use Rattle.std.proofs.Common.{codes}
use Rattle.clap.specs.Words.{new_app, with_rule}
use Rattle.gu_command.specs.Lines.{house_rule, journal_rule, larger_rule}
use Rattle.gu_command.proofs.CommandLines.{same_rule}
use Rattle.gu_command.proofs.copies.roll_paths.Goals as goal

pub returns : goal.returns
returns c =
    let house = with_rule (new_app (codes "roll")) house_rule in
    let journal = with_rule house journal_rule in
    let larger = with_rule journal larger_rule in
    let one = same_rule house _ _ c.with_option-command.result c.journal_argument-journal.ensures.rule
    (c.with_option-command.ensures house c.house_command-command.ensures) in
    let two = same_rule journal _ _ c.with_option-command-2.result c.larger_argument.ensures.rule
    (c.with_option-command-2.ensures journal one) in
    same_rule larger _ _ c.with_option.result c.copy_argument.ensures.rule (c.with_option.ensures larger two)
