use Rattle.clap.specs.Words.{with_rule}
use Rattle.gu_command.specs.Options.{status_rule}
use Rattle.gu_command.proofs.CommandLines.{same_rule}
use Rattle.gu_command.proofs.options.with_telling.Goals as goal

pub returns : goal.returns
returns c app h =
    let status = with_rule app status_rule in
    same_rule status _ _ c.with_option.result c.log_calls_option.ensures.rule
    (c.with_option.ensures status
    (same_rule app _ _ c.with_option-command.result c.status_option.ensures.rule
    (c.with_option-command.ensures app h)))
