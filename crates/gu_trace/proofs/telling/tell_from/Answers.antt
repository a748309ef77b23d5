use Rattle.std.proofs.Common.{◌≡◌, ◌≤◌, ◌<◌, ◌∙◌, List, ap, sym, length, arith}
use Rattle.gu_base.specs.declared.entry.Entry.{Entry}
use Rattle.gu_trace.specs.Filling.{told_from, filled}
use Rattle.gu_trace.specs.Reports.{told}
use Rattle.gu_trace.proofs.Walk.{rest_past, filled_full, filled_end, told_step}
use Rattle.gu_trace.proofs.telling.tell_from.Goals as goal

pub loop-place-preserved : goal.loop-place-preserved
loop-place-preserved c =
    let h = c.args.book.now.history in
    let found = c.loop-place.found.items in
    let long = ap (λ (l : List Entry). length l) c.history-place-end.ensures.value in
    let within : c.loop-place.place < length h = omega (arith, long) in
    let room : length found < 100 = omega arith in
    let step = told_step c.args.book.now.house.house h c.args.firm.now c.loop-place.place found c.tell.new.found.items
    (filled c.args.found.now.items (told_from c.args.book.now.house.house h c.args.firm.now c.args.from))
    within room c.in_ok-tell.ensures.value c.loop-place.invariant.so_far in
    record { bound = step.1; so_far = step.0 }

pub returns-then-len-eq-MOST_REPORTS-clause-value : goal.returns-then-len-eq-MOST_REPORTS-clause-value
returns-then-len-eq-MOST_REPORTS-clause-value c =
    let full : length c.loop-place.found.items ≡ 100 = omega arith in
    sym (filled_full c.loop-place.found.items
    (told_from c.args.book.now.house.house c.args.book.now.history c.args.firm.now c.loop-place.place) full)
    ∙ c.loop-place.invariant.so_far

pub returns-clause-value : goal.returns-clause-value
returns-clause-value c =
    let h = c.args.book.now.history in
    let t = c.args.book.now.house in
    let long = ap (λ (l : List Entry). length l) c.history-place-end.ensures.value in
    let past : length h ≤ c.loop-place.place = omega (arith, long) in
    sym (filled_end c.loop-place.found.items (told_from t.house h c.args.firm.now c.loop-place.place)
    (rest_past (told t.house h c.args.firm.now) h c.loop-place.place past)) ∙ c.loop-place.invariant.so_far
