use Rattle.std.proofs.Common.{◌≡◌, ℕ, ◌≤◌, List, ◌++◌, length, take, sym, ap, subst, ◌∙◌, arith}
use Rattle.std.specs.Prelude.{unsigned_abs}
use Rattle.gu_base.specs.declared.report.ReportPart.{ReportPart}
use Rattle.gu_codec.specs.Writing.{fields_text}
use Rattle.gu_codec.proofs.ReadBack.{text_join}
use Rattle.gu_message.specs.SendingTime.{sending_time}
use Rattle.gu_message.specs.AllocationReport.{entry_fields, shown_parts, date_in}
use Rattle.gu_message.proofs.ReportTexts.{both_short}
use Rattle.gu_message.proofs.allocation_report.report.Goals as goal

pub returns-clause-short : goal.returns-clause-short
returns-clause-short c =
    let r = c.args.report.now in
    let date : List ℕ = date_in (sending_time (unsigned_abs c.args.moment.nanosecond)) in
    let dated : c.date.result.now ≡ date = c.date.ensures.value ∙ ap (take 8) c.new-time.ensures in
    let shown : c.as_slice-parts.result.now ≡ r.parts = c.as_slice-parts.ensures in
    let first = c.append_entry.ensures.items
    ∙ ap (λ (t : List ℕ). c.reserve.new.self.items ++ fields_text (entry_fields t r)) dated in
    let then = c.append_parts.ensures.items
    ∙ ap (λ (t : List ReportPart). c.append_entry.new.out.items ++ fields_text (shown_parts t)) shown in
    let same : length c.as_slice-parts.result.now ≡ length r.parts = ap (λ (t : List ReportPart). length t) shown in
    let few : length c.as_slice-parts.result.now ≤ 100 = omega (arith, same, c.requires.few) in
    let short = both_short c.reserve.new.self.items c.append_entry.new.out.items c.append_parts.new.out.items
    (fields_text (entry_fields date r)) (fields_text (shown_parts r.parts)) (length c.as_slice-parts.result.now) first
    then (omega (arith, c.append_entry.ensures.len, c.append_entry.new.out.ok.0, c.reserve.new.self.ok.0))
    (omega (arith, c.append_parts.ensures.len, c.append_parts.new.out.ok.0, c.append_entry.new.out.ok.0)) few in
    subst (λ (t : List ℕ). length t ≤ 65000) (sym (text_join (entry_fields date r) (shown_parts r.parts))) short
