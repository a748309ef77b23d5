use Rattle.std.proofs.Common.{◌++◌, ◌+◌, ◌<◌, sym, ◌∙◌, ap, arith, length}
use Rattle.gu_trace.specs.Reports.{parts_shown}
use Rattle.gu_trace.proofs.Shown.{rest_shown, showing, passing}
use Rattle.gu_trace.proofs.telling.parts_shown.Goals as goal
use Rattle.gu_trace.proofs.telling.parts_shown.Goals.{in-Some+in_ok-push-in-Some, in-None}

pub loop-place-preserved : goal.loop-place-preserved
loop-place-preserved c =
    let f = c.args.firm.now in
    let n = c.args.number in
    let by = c.args.by.now in
    let ps = c.args.parts.now in
    let i = c.loop-place.place in
    let p = c.index-parts-place.result in
    let before = c.loop-place.shown.items in
    let whole = parts_shown f n by ps in
    let within : i < length ps = omega arith in
    elim c.match-part_shown.branch [
      | in-Some+in_ok-push-in-Some w ↦
          ap (λ v. v.items ++ rest_shown f n by ps (i + 1)) w.shown-is
          ∙ (ap (λ xs. xs ++ rest_shown f n by ps (i + 1)) w.in_ok-push-in-Some.ensures.items
          ∙ showing f n by ps i p w.in-Some.part before whole within c.index-parts-place.is
          (sym c.part_shown.ensures ∙ w.in-Some.is) c.loop-place.invariant)
      | in-None w ↦
          ap (λ v. v.items ++ rest_shown f n by ps (i + 1)) w.shown-is
          ∙ passing f n by ps i p before whole within c.index-parts-place.is (sym c.part_shown.ensures ∙ w.in-None.is)
          c.loop-place.invariant
    ]
