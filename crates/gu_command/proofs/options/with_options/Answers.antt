use Rattle.clap.specs.Words.{with_rule}
use Rattle.gu_command.specs.Options.{replica_rule, limited, telling}
use Rattle.gu_command.specs.Naming.{naming}
use Rattle.gu_command.proofs.CommandLines.{same_rule}
use Rattle.gu_command.proofs.options.with_options.Goals as goal

pub returns : goal.returns
returns c app h =
    let replica = with_rule app replica_rule in
    let told = telling (limited replica) in
    same_rule (naming told) _ _ c.with_option.result c.archive_option.ensures.rule
    (c.with_option.ensures (naming told)
    (c.with_naming-command.ensures told
    (c.with_telling-command.ensures (limited replica)
    (c.with_limits-command.ensures replica
    (same_rule app _ _ c.with_option-command.result c.replica_option.ensures.rule
    (c.with_option-command.ensures app h))))))
