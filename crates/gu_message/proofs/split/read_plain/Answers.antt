use Rattle.std.proofs.Common.{◌≡◌, ◌+◌, ◌-◌, ◌∙◌, ap, not, arith}
use Rattle.gu_base.specs.Names.{is_firm_text}
use Rattle.gu_message.proofs.PlainParts.{some_name, one_plain}
use Rattle.gu_message.proofs.split.read_plain.Goals as goal

pub plain-preserved : goal.plain-preserved
plain-preserved c =
    let part = c.in-Some.part in
    let account = part.account.now in
    let some = some_name (is_firm_text account) account c.new-account.result c.new-account.ensures
    (c.is_none.ensures ∙ ap not c.if-is_none.false) in
    let left : c.plain.left ≡ c.plain.left - 1 + 1 = omega arith in
    record {
      within = c.in-Some.ensures.inside;
      rest =
          one_plain c.args.by.now c.args.bytes.now c.plain.at part.end part.lots account c.new-account.result
          c.plain.parts.items c.keep.new.parts.items c.plain.left (c.plain.left - 1) c.in-Some.ensures
          (c.is_entry_end.ensures c.if-not-is_entry_end.false) c.new-account.ensures some left
          (rw c.if-not-keep.false at c.keep.ensures)
          ∙ c.plain.invariant.rest;
    }
