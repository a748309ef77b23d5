use Rattle.std.proofs.Common.{◌<◌, length, arith}
use Rattle.std.proofs.lemmas.Bool.Decides.{nat_tests}
use Rattle.gu_message.proofs.ReportTexts.{shown_text}
use Rattle.gu_message.proofs.allocation_report.append_parts.Goals as goal

pub returns-then-not-is_empty-clause-items : goal.returns-then-not-is_empty-clause-items
returns-then-not-is_empty-clause-items c =
    let some : 0 < length c.args.parts.now = grind (arith, nat_tests, c.is_empty.ensures, c.if-not-is_empty.true) in
    shown_text c.args.parts.now c.args.out.now.items _ _ some c.append_number_field.ensures.items
    c.append_each.ensures.items
