use Rattle.std.proofs.Common.{◌≡◌, ◌==◌, ◌∙◌, ap, length, false, Some, rules}
use Rattle.gu_statement.proofs.Going.{time_told}
use Rattle.gu_statement.proofs.text.text_in.Goals as goal

pub returns-in-Ok : goal.returns-in-Ok
returns-in-Ok c =
    let some : (length c.args.bytes.now == 0) ≡ false = search rules in
    ap Some c.in-Ok.ensures.cases.0 ∙ time_told c.args.bytes.now c.in-Ok.ensures.cases.1 some
