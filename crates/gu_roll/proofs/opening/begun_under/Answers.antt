use Rattle.std.proofs.Common.{◌≡◌, ◌+◌, ◌∙◌, ◌++◌, ◌∷◌, List, length, drop, ap, sym, refl, arith, subst, Some}
use Rattle.std.specs.Prelude.{slice_get}
use Rattle.std.proofs.lemmas.Option.{slice_get_read}
use Rattle.gu_base.specs.Answers.{answer_to}
use Rattle.gu_base.specs.House.{House}
use Rattle.gu_base.specs.Runs.{call_of}
use Rattle.gu_base.specs.declared.entry.Answer.TheVariants.{Accepted}
use Rattle.gu_base.specs.declared.entry.Entry.{Entry}
use Rattle.gu_roll.specs.Reopened.{begun_under}
use Rattle.gu_roll.proofs.Again.{drop_at}
use Rattle.gu_roll.proofs.opening.begun_under.Goals as goal

-- the entry isn't accepted again
pub returns-in-Ok-false-clause-why : goal.returns-in-Ok-false-clause-why
returns-in-Ok-false-clause-why c =
    let u = c.args.house.now in
    let h = c.loop-place.book.history in
    let entries = c.args.entries.now in
    let at = c.loop-place.place in
    let e = c.index-entries-place.result in
    let read : slice_get entries at ≡ Some e =
    slice_get_read entries (length entries) at e refl (omega (arith, c.loop-place-test.true))
    c.index-entries-place.is in
    let is : begun_under u entries ≡ h ++ e ∷ drop (at + 1) entries =
    sym c.loop-place.invariant.behind ∙ ap (λ (l : List Entry). h ++ l) (drop_at entries at e read) in
    let long : length h ≡ length c.history.result.now = ap length (sym c.history.ensures.value) in
    let unlike = c.in-Ok-false.ensures.unlike (c.in-Ok-false.field-0-test) in (
      h,
      drop (at + 1) entries,
      e,
      is,
      ap (λ n. n + 1) long,
      λ accepted.
          unlike
          (subst (λ (t : House). answer_to t h (call_of e) ≡ Accepted (length h + 1) e.status)
          (sym c.loop-place.invariant.house) (accepted ∙ ap (λ n. Accepted (n + 1) e.status) (sym long))),
    )
