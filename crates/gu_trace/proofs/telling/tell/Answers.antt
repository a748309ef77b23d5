use Rattle.std.proofs.Common.{ℕ, ◌≤◌, refl, length}
use Rattle.std.specs.Prelude.{slice_get}
use Rattle.gu_trace.specs.Reports.{entries_for}
use Rattle.gu_trace.proofs.Within.{run_within}
use Rattle.gu_trace.proofs.Concerned.{one_concerns, one_told, on_err}
use Rattle.gu_trace.proofs.telling.tell.Goals as goal

pub told-requires-clause-within : goal.told-requires-clause-within
told-requires-clause-within c = rw c.history.ensures.value
    (run_within c.args.book.now.house c.args.book.now.history c.history.ensures.run)

pub returns-in_err-outcome-clause-memory : goal.returns-in_err-outcome-clause-memory
returns-in_err-outcome-clause-memory c =
    let t = c.args.book.now.house in
    let h = c.args.book.now.history in
    let concerned = rw (
      c.house-house.ensures,
      c.house.ensures,
      c.history.ensures.value,
    ) at c.in_err-outcome.ensures.memory in
    on_err ((after : ℕ) → after ≤ c.args.place
    → 1 ≤ length (entries_for t.house h c.args.firm.now after)) c.from_residual.result
    (λ after low. one_concerns t.house h c.args.firm.now after c.args.place
    (slice_get h c.args.place) refl low c.requires.there concerned)

pub returns-in_err-push-in-Some-clause-memory : goal.returns-in_err-push-in-Some-clause-memory
returns-in_err-push-in-Some-clause-memory c =
    let t = c.args.book.now.house in
    let h = c.args.book.now.history in
    let tells = rw (
      c.house-house.ensures,
      c.house.ensures,
      c.history.ensures.value,
      c.in-Some.is,
    ) at c.in_ok-outcome.ensures.value in
    on_err ((after : ℕ) → after ≤ c.args.place
    → 1 ≤ length (entries_for t.house h c.args.firm.now after)) c.from_residual-in_err-push-in-Some.result
    (λ after low. one_told t.house h c.args.firm.now after c.args.place c.in-Some.report low c.requires.there tells)
