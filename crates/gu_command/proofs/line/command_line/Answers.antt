use Rattle.std.proofs.Common.{◌∙◌, ap, ap₂, map}
use Rattle.std.proofs.lemmas.Result.{IfOk-weaker}
use Rattle.clap.specs.Words.{found_of, takes}
use Rattle.gu_command.proofs.CommandLines.{batch_taken, totals_taken, trace_taken, serve_taken, keep_taken}
use Rattle.gu_command.proofs.CommandLines.{verify_taken, backup_taken, verify_read, backup_read}
use Rattle.gu_command.proofs.CommandLines.{extend_taken, extend_read, roll_taken, roll_read}
use Rattle.gu_command.proofs.CommandLines.{statement_taken, statement_read}
use Rattle.gu_command.proofs.CommandLines.{found_here, line_found}
use Rattle.gu_command.proofs.CommandLines.{batch_read, totals_read, trace_read, serve_read, keep_read, line_read}
use Rattle.gu_command.proofs.line.command_line.Goals as goal

pub returns-in-Err-clause-batch : goal.returns-in-Err-clause-batch
returns-in-Err-clause-batch c path words_are plain =
    c.usage.ensures.memory
    (c.in-Err.ensures.passes (ap₂ takes c.in_ok-program_command.ensures.0 words_are ∙ batch_taken path plain))

pub returns-in-Err-clause-totals : goal.returns-in-Err-clause-totals
returns-in-Err-clause-totals c path words_are plain =
    c.usage.ensures.memory
    (c.in-Err.ensures.passes (ap₂ takes c.in_ok-program_command.ensures.0 words_are ∙ totals_taken path plain))

pub returns-in-Err-clause-trace : goal.returns-in-Err-clause-trace
returns-in-Err-clause-trace c path word trade words_are plain plain_word number_is =
    c.usage.ensures.memory
    (c.in-Err.ensures.passes
    (ap₂ takes c.in_ok-program_command.ensures.0 words_are ∙ trace_taken path word plain plain_word))

pub returns-in-Err-clause-serve : goal.returns-in-Err-clause-serve
returns-in-Err-clause-serve c path word port words_are plain plain_word port_is =
    c.usage.ensures.memory
    (c.in-Err.ensures.passes
    (ap₂ takes c.in_ok-program_command.ensures.0 words_are ∙ serve_taken path word plain plain_word))

pub returns-in-Err-clause-keep : goal.returns-in-Err-clause-keep
returns-in-Err-clause-keep c path file word port words_are plain plain_file plain_word port_is =
    c.usage.ensures.memory (c.in-Err.ensures.passes
    (ap₂ takes c.in_ok-program_command.ensures.0 words_are ∙ keep_taken path file word plain plain_file plain_word))

pub returns-in-Err-clause-verify : goal.returns-in-Err-clause-verify
returns-in-Err-clause-verify c path file words_are plain plain_file =
    c.usage.ensures.memory
    (c.in-Err.ensures.passes
    (ap₂ takes c.in_ok-program_command.ensures.0 words_are ∙ verify_taken path file plain plain_file))

pub returns-in-Err-clause-backup : goal.returns-in-Err-clause-backup
returns-in-Err-clause-backup c file copy words_are plain plain_copy =
    c.usage.ensures.memory
    (c.in-Err.ensures.passes
    (ap₂ takes c.in_ok-program_command.ensures.0 words_are ∙ backup_taken file copy plain plain_copy))

pub returns-in-Err-clause-extend : goal.returns-in-Err-clause-extend
returns-in-Err-clause-extend c path file larger copy words_are plain plain_file plain_larger plain_copy =
    c.usage.ensures.memory
    (c.in-Err.ensures.passes (ap₂ takes c.in_ok-program_command.ensures.0 words_are
    ∙ extend_taken path file larger copy plain plain_file plain_larger plain_copy))

pub returns-in-Err-clause-roll : goal.returns-in-Err-clause-roll
returns-in-Err-clause-roll c path file larger copy words_are plain plain_file plain_larger plain_copy =
    c.usage.ensures.memory
    (c.in-Err.ensures.passes (ap₂ takes c.in_ok-program_command.ensures.0 words_are
    ∙ roll_taken path file larger copy plain plain_file plain_larger plain_copy))

pub returns-in-Err-clause-statement : goal.returns-in-Err-clause-statement
returns-in-Err-clause-statement c path words_are plain =
    c.usage.ensures.memory
    (c.in-Err.ensures.passes (ap₂ takes c.in_ok-program_command.ensures.0 words_are ∙ statement_taken path plain))

pub returns-in-Err-clause-taken : goal.returns-in-Err-clause-taken
returns-in-Err-clause-taken c is =
    let words = map (λ w. w.bytes.items) c.args.words.now in
    c.usage.ensures.memory
    (c.in-Err.ensures.passes (ap (λ a. takes a words) c.in_ok-program_command.ensures.0 ∙ is.taken))

pub returns-clause-read : goal.returns-clause-read
returns-clause-read c =
    let words = map (λ w. w.bytes.items) c.args.words.now in
    let found = found_here _ words c.in-Ok.matches c.in-Some.name.now (found_of c.in-Some.given.now)
    c.in_ok-program_command.ensures.0 (λ h. (c.in-Ok.ensures.matches h).1) c.in-Some.ensures.name
    c.in-Some.ensures.rows in
    IfOk-weaker c.line_of.result _ _ (λ l h. line_found words c.in-Some.name.now _ _ l found.0 found.1 found.2 h)
    c.line_of.ensures.read

pub returns-clause-batch : goal.returns-clause-batch
returns-clause-batch c path words_are plain =
    let words = map (λ w. w.bytes.items) c.args.words.now in
    let found = found_here _ words c.in-Ok.matches c.in-Some.name.now (found_of c.in-Some.given.now)
    c.in_ok-program_command.ensures.0 (λ h. (c.in-Ok.ensures.matches h).1) c.in-Some.ensures.name
    c.in-Some.ensures.rows in
    batch_read c.line_of.result words c.in-Some.name.now path _ _ words_are plain found.0 found.1 c.line_of.ensures.read
    c.line_of.ensures.batch

pub returns-clause-totals : goal.returns-clause-totals
returns-clause-totals c path words_are plain =
    let words = map (λ w. w.bytes.items) c.args.words.now in
    let found = found_here _ words c.in-Ok.matches c.in-Some.name.now (found_of c.in-Some.given.now)
    c.in_ok-program_command.ensures.0 (λ h. (c.in-Ok.ensures.matches h).1) c.in-Some.ensures.name
    c.in-Some.ensures.rows in
    totals_read c.line_of.result words c.in-Some.name.now path _ _ words_are plain found.0 found.1
    c.line_of.ensures.read c.line_of.ensures.trace

pub returns-clause-trace : goal.returns-clause-trace
returns-clause-trace c path word number words_are plain plain_word number_is =
    let words = map (λ w. w.bytes.items) c.args.words.now in
    let found = found_here _ words c.in-Ok.matches c.in-Some.name.now (found_of c.in-Some.given.now)
    c.in_ok-program_command.ensures.0 (λ h. (c.in-Ok.ensures.matches h).1) c.in-Some.ensures.name
    c.in-Some.ensures.rows in
    trace_read c.line_of.result words c.in-Some.name.now path word number _ _ words_are plain plain_word number_is
    found.0 found.1 c.line_of.ensures.read c.line_of.ensures.trace

pub returns-clause-serve : goal.returns-clause-serve
returns-clause-serve c path word port words_are plain plain_word port_is =
    let words = map (λ w. w.bytes.items) c.args.words.now in
    let found = found_here _ words c.in-Ok.matches c.in-Some.name.now (found_of c.in-Some.given.now)
    c.in_ok-program_command.ensures.0 (λ h. (c.in-Ok.ensures.matches h).1) c.in-Some.ensures.name
    c.in-Some.ensures.rows in
    serve_read c.line_of.result words c.in-Some.name.now path word port _ _ words_are plain plain_word port_is found.0
    found.1 c.line_of.ensures.read c.line_of.ensures.serve

pub returns-clause-keep : goal.returns-clause-keep
returns-clause-keep c path file word port words_are plain plain_file plain_word port_is =
    let words = map (λ w. w.bytes.items) c.args.words.now in
    let found = found_here _ words c.in-Ok.matches c.in-Some.name.now (found_of c.in-Some.given.now)
    c.in_ok-program_command.ensures.0 (λ h. (c.in-Ok.ensures.matches h).1) c.in-Some.ensures.name
    c.in-Some.ensures.rows in
    keep_read c.line_of.result words c.in-Some.name.now path file word port _ _ words_are plain plain_file plain_word
    port_is found.0 found.1 found.2 c.line_of.ensures.read c.line_of.ensures.keep

pub returns-clause-verify : goal.returns-clause-verify
returns-clause-verify c path file words_are plain plain_file =
    let words = map (λ w. w.bytes.items) c.args.words.now in
    let found = found_here _ words c.in-Ok.matches c.in-Some.name.now (found_of c.in-Some.given.now)
    c.in_ok-program_command.ensures.0 (λ h. (c.in-Ok.ensures.matches h).1) c.in-Some.ensures.name
    c.in-Some.ensures.rows in
    verify_read c.line_of.result words c.in-Some.name.now path file _ _ words_are plain plain_file found.0 found.1
    c.line_of.ensures.read c.line_of.ensures.verify

pub returns-clause-backup : goal.returns-clause-backup
returns-clause-backup c file copy words_are plain plain_copy =
    let words = map (λ w. w.bytes.items) c.args.words.now in
    let found = found_here _ words c.in-Ok.matches c.in-Some.name.now (found_of c.in-Some.given.now)
    c.in_ok-program_command.ensures.0 (λ h. (c.in-Ok.ensures.matches h).1) c.in-Some.ensures.name
    c.in-Some.ensures.rows in
    backup_read c.line_of.result words c.in-Some.name.now file copy _ _ words_are plain plain_copy found.0 found.1
    c.line_of.ensures.read c.line_of.ensures.backup

pub returns-clause-extend : goal.returns-clause-extend
returns-clause-extend c path file larger copy words_are plain plain_file plain_larger plain_copy =
    let words = map (λ w. w.bytes.items) c.args.words.now in
    let found = found_here _ words c.in-Ok.matches c.in-Some.name.now (found_of c.in-Some.given.now)
    c.in_ok-program_command.ensures.0 (λ h. (c.in-Ok.ensures.matches h).1) c.in-Some.ensures.name
    c.in-Some.ensures.rows in
    extend_read c.line_of.result words c.in-Some.name.now path file larger copy _ _ words_are plain plain_file
    plain_larger plain_copy found.0 found.1 c.line_of.ensures.read c.line_of.ensures.extend

pub returns-clause-roll : goal.returns-clause-roll
returns-clause-roll c path file larger copy words_are plain plain_file plain_larger plain_copy =
    let words = map (λ w. w.bytes.items) c.args.words.now in
    let found = found_here _ words c.in-Ok.matches c.in-Some.name.now (found_of c.in-Some.given.now)
    c.in_ok-program_command.ensures.0 (λ h. (c.in-Ok.ensures.matches h).1) c.in-Some.ensures.name
    c.in-Some.ensures.rows in
    roll_read c.line_of.result words c.in-Some.name.now path file larger copy _ _ words_are plain plain_file
    plain_larger plain_copy found.0 found.1 c.line_of.ensures.read c.line_of.ensures.roll

pub returns-clause-statement : goal.returns-clause-statement
returns-clause-statement c path words_are plain =
    let words = map (λ w. w.bytes.items) c.args.words.now in
    let found = found_here _ words c.in-Ok.matches c.in-Some.name.now (found_of c.in-Some.given.now)
    c.in_ok-program_command.ensures.0 (λ h. (c.in-Ok.ensures.matches h).1) c.in-Some.ensures.name
    c.in-Some.ensures.rows in
    statement_read c.line_of.result words c.in-Some.name.now path _ _ words_are plain found.0 found.1
    c.line_of.ensures.read c.line_of.ensures.statement

pub returns-clause-taken : goal.returns-clause-taken
returns-clause-taken c is =
    let words = map (λ w. w.bytes.items) c.args.words.now in
    let found = found_here _ words c.in-Ok.matches c.in-Some.name.now (found_of c.in-Some.given.now)
    c.in_ok-program_command.ensures.0 (λ h. (c.in-Ok.ensures.matches h).1) c.in-Some.ensures.name
    c.in-Some.ensures.rows in
    line_read c.line_of.result words c.in-Some.name.now _ _ is.line is.found found.0 found.1 found.2
    c.line_of.ensures.batch c.line_of.ensures.trace c.line_of.ensures.serve c.line_of.ensures.keep
    c.line_of.ensures.verify c.line_of.ensures.backup c.line_of.ensures.extend c.line_of.ensures.roll
    c.line_of.ensures.statement
