use Rattle.clap.specs.Words.{with_subcommand}
use Rattle.gu_command.specs.Lines.{top, batch, trace, serve, keep, verify, backup, extend, roll, statement}
use Rattle.gu_command.proofs.line.program_command.Goals as goal

pub returns : goal.returns
returns c =
    let one = with_subcommand top batch.top in
    let two = with_subcommand one trace.top in
    let three = with_subcommand two serve.top in
    let four = with_subcommand three keep.top in
    let five = with_subcommand four verify.top in
    let six = with_subcommand five backup.top in
    let seven = with_subcommand six extend.top in
    let eight = with_subcommand seven roll.top in
    let batched = c.with_command-command.ensures top batch c.bare_command.ensures c.batch_command.ensures in
    let traced = c.with_command-command-2.ensures one trace batched c.trace_command.ensures in
    let served = c.with_command-command-3.ensures two serve traced c.serve_command.ensures in
    let kept = c.with_command-command-4.ensures three keep served c.keep_command.ensures in
    let verified = c.with_command-command-5.ensures four verify kept c.verify_command.ensures in
    let copied = c.with_command-command-6.ensures five backup verified c.backup_command.ensures in
    let extended = c.with_command-command-7.ensures six extend copied c.extend_command.ensures in
    let rolled = c.with_command-command-8.ensures seven roll extended c.roll_command.ensures in
    c.with_command.ensures eight statement rolled c.statement_command.ensures
