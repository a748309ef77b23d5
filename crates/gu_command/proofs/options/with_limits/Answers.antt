use Rattle.clap.specs.Words.{with_rule}
use Rattle.gu_command.specs.Options.{most_entries_rule, most_parts_rule, reserve_rule, memory_rule, rate_rule}
use Rattle.gu_command.specs.Options.{per_firm_rule}
use Rattle.gu_command.proofs.CommandLines.{same_rule}
use Rattle.gu_command.proofs.options.with_limits.Goals as goal

pub returns : goal.returns
returns c app h =
    let entries = with_rule app most_entries_rule in
    let parts = with_rule entries most_parts_rule in
    let reserve = with_rule parts reserve_rule in
    let memory = with_rule reserve memory_rule in
    let rate = with_rule memory rate_rule in
    let per_firm = with_rule rate per_firm_rule in
    let one = same_rule app _ _ c.with_option-command.result c.most_entries_option.ensures.rule
    (c.with_option-command.ensures app h) in
    let two = same_rule entries _ _ c.with_option-command-2.result c.most_parts_option.ensures.rule
    (c.with_option-command-2.ensures entries one) in
    let three = same_rule parts _ _ c.with_option-command-3.result c.reserve_option.ensures.rule
    (c.with_option-command-3.ensures parts two) in
    let four = same_rule reserve _ _ c.with_option-command-4.result c.memory_option.ensures.rule
    (c.with_option-command-4.ensures reserve three) in
    let five = same_rule memory _ _ c.with_option-command-5.result c.rate_option.ensures.rule
    (c.with_option-command-5.ensures memory four) in
    let six = same_rule rate _ _ c.with_option-command-6.result c.per_firm_option.ensures.rule
    (c.with_option-command-6.ensures rate five) in
    same_rule per_firm _ _ c.with_option.result c.held_option.ensures.rule (c.with_option.ensures per_firm six)
