use Rattle.std.proofs.Common.{codes}
use Rattle.clap.specs.Words.{new_app, with_rule}
use Rattle.gu_command.specs.Lines.{house_rule, journal_rule, larger_rule, copy_rule, open_rule}
use Rattle.gu_command.proofs.CommandLines.{same_rule}
use Rattle.gu_command.proofs.copies.roll_command.Goals as goal

pub returns : goal.returns
returns c =
    let paths = with_rule (with_rule (with_rule (with_rule (new_app (codes "roll")) house_rule) journal_rule)
    larger_rule) copy_rule in
    let opened = with_rule paths open_rule in
    let one = same_rule paths _ _ c.with_option-command.result c.open_option.ensures.rule
    (c.with_option-command.ensures paths c.roll_paths.ensures) in
    same_rule opened _ _ c.with_option.result c.map_option.ensures.rule (c.with_option.ensures opened one)
