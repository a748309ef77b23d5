use Rattle.std.proofs.Common.{rules, subst}
use Rattle.gu_command.specs.Lines.{IsLine}
use Rattle.gu_command.specs.declared.line.Line.{Line}
use Rattle.gu_server.proofs.Served.{served_by}
use Rattle.gu_server.proofs.program.obey.Goals as goal

-- firms were served
pub returns-in-Ok-clause-does : goal.returns-in-Ok-clause-does
returns-in-Ok-clause-does g c words line =
    let found = subst (λ (l : Line). IsLine words l) c.in-Serve.is line in
    served_by words _ _ _ _ _ _ _ _ _ _ c.serve_and_tell.result
    (record {
      path = c.as_str-in-Serve.result.now;
      is = found.0;
      asked = search (rules, found.1);
      house = c.in-Ok.house;
      named = c.in-Ok.ensures;
    }) c.serve_and_tell.ensures

-- firms were served of a book that is kept
pub returns-in-Keep-clause-does : goal.returns-in-Keep-clause-does
returns-in-Keep-clause-does g c words line =
    let found = subst (λ (l : Line). IsLine words l) c.in-Keep.is line in
    c.keep_by.ensures.does words _ _ _ found.0 (search (rules, found.1))

-- a journal was looked at
pub returns-in-Verify-clause-does : goal.returns-in-Verify-clause-does
returns-in-Verify-clause-does g c words line =
    let found = subst (λ (l : Line). IsLine words l) c.in-Verify.is line in
    c.verify_by.ensures.does words _ _ _ found.0 (search (rules, found.1)) found.2 found.3 found.4

-- a batch was run
pub returns-in-Batch-clause-does : goal.returns-in-Batch-clause-does
returns-in-Batch-clause-does g c = search rules

-- a journal was copied
pub returns-in-Backup-clause-does : goal.returns-in-Backup-clause-does
returns-in-Backup-clause-does g c words line =
    let found = subst (λ (l : Line). IsLine words l) c.in-Backup.is line in
    c.back_up_by.ensures.does words _ _ found.0 (search (rules, found.1)) (search (rules, found.2))

-- a journal was written anew
pub returns-in-Extend-clause-does : goal.returns-in-Extend-clause-does
returns-in-Extend-clause-does g c words line =
    let found = subst (λ (l : Line). IsLine words l) c.in-Extend.is line in
    c.extend_by.ensures.does words _ found.0 (search (rules, found.1)) found.2 found.3 found.4

-- a new book was begun
pub returns-in-Roll-clause-does : goal.returns-in-Roll-clause-does
returns-in-Roll-clause-does g c words line =
    let found = subst (λ (l : Line). IsLine words l) c.in-Roll.is line in
    c.roll_by.ensures.does words _ _ _ found.0 (search (rules, found.1)) found.2 found.3 found.4 found.5

-- a statement was written
pub returns-clause-does : goal.returns-clause-does
returns-clause-does g c words line =
    let found = subst (λ (l : Line). IsLine words l) c.in-Statement.is line in
    c.statement_by.ensures.does words found.0 found.1 found.2 found.3
