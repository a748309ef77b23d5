use Rattle.std.proofs.Common.{◌≡◌, take, drop, sym, ◌∙◌, rules, take-append-drop}
use Rattle.gu_trace.specs.Totals.{totals_text}
use Rattle.gu_batch.proofs.tracing.write_totals.Goals as goal

-- the writer failed, and took a front of the totals
pub returns : goal.returns
returns g c =
    let written = c.in-Err.ensures.err in
    let text = c.deref.result.now in
    let whole : totals_text c.args.book.now.house c.args.book.now.history ≡ text = search rules in
    record {
      out = take written.0 text;
      appended = written.1;
      right = (c.in-Err.ensures.failed, drop written.0 text, whole ∙ sym (take-append-drop written.0 text));
    }

pub returns-in-Ok : goal.returns-in-Ok
returns-in-Ok g c = search rules
