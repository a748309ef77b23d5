use Rattle.std.proofs.lemmas.Result.{err_from_is_err_and}
use Rattle.gu_batch.proofs.ReadAlong.{stream_wrong, told_wrong, told_right, front_told}
use Rattle.gu_batch.proofs.tracing.run_trace.Goals as goal

pub returns-in_err-answering : goal.returns-in_err-answering
returns-in_err-answering g c =
    let p = err_from_is_err_and c.from_residual.result c.from_residual.ensures.1 in
    rw (p.1, p.2)
    (stream_wrong c.args.house c.args.trade _ _ _ _ _ _ _ _ c.in_err-answering.field-0.0 c.in_err-answering.ensures)

pub returns-in_err-text : goal.returns-in_err-text
returns-in_err-text g c =
    let p = err_from_is_err_and c.from_residual-in_err-text.result c.from_residual-in_err-text.ensures.1 in
    rw (p.1, p.2)
    (told_wrong c.args.house _ _ c.in_ok-answering.answering c.args.trade _ _ _ _ _ _ _ _ c.in_err-text.field-0.0
    c.in_ok-answering.ensures c.book.ensures.house c.book.ensures.history c.in_err-text.ensures.err)

pub returns-in-Ok : goal.returns-in-Ok
returns-in-Ok g c =
    told_right c.args.house _ _ c.in_ok-answering.answering c.args.trade _ _ _ _ _ _ _ _ _ _ c.in_ok-text.text.items
    c.in_ok-answering.ensures c.book.ensures.house c.book.ensures.history c.in_ok-text.ensures.ok
    (rw (← c.deref.ensures.value) c.in-Ok.ensures.ok)

pub returns : goal.returns
returns g c =
    let written = c.in-Err.ensures.err in
    front_told c.args.house _ _ c.in_ok-answering.answering c.args.trade _ _ _ _ _ _ _ _ _ _ written.0
    c.in_ok-text.text.items c.in_ok-answering.ensures c.book.ensures.house c.book.ensures.history
    c.in_ok-text.ensures.ok (rw (← c.deref.ensures.value) written.1) c.in-Err.ensures.failed
