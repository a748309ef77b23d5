use Rattle.std.proofs.Common.{arith, ◌≡◌, ◌∙◌, ap, sym, subst, refl, length, List}
use Rattle.atomic_table.specs.Table.{Me}
use Rattle.gu_base.specs.declared.entry.Entry.{Entry}
use Rattle.gu_book.specs.Ids.{NoIdTwice}
use Rattle.gu_book.specs.Seen.{BookView, HouseAndHistory, stored}
use Rattle.gu_desk.specs.Views.{GroundView}
use Rattle.gu_desk.specs.Runs.{IsRunOf}
use Rattle.gu_desk.specs.declared.count.PassView.{PassView}
use Rattle.gu_desk.proofs.Running.{run_starts}
use Rattle.gu_desk.proofs.desk.Desk.with_journal.Goals as goal

pub invariant_of-till : goal.invariant_of-till
invariant_of-till g c =
    let b = stored c.ground.inside.book in
    let same : b ≡ g.J.Job.opening = ap (λ (v : GroundView). v.opening) c.ground.view_is ∙ c.requires.opening in
    let history = ap (λ (l : List Entry). length l)
    (c.history-entries.ensures.value ∙ ap (λ (v : BookView). v.history) c.as_book.ensures) in
    let opening = ap (λ (v : HouseAndHistory). length v.history) same in (
      subst (λ (v : HouseAndHistory). IsRunOf g.J.Job.opening v) (sym same)
          (refl, run_starts g.J.Job.opening.house g.J.Job.opening.history),
      omega (arith, c.add.ensures.total, c.open-total.ensures.total, history),
      omega (arith, c.add.ensures.parts, c.in-Ok-cut_seats.ensures.parts),
      omega (arith, c.add.ensures.amount, c.in-Ok-cut_seats.ensures.amount, history, opening),
      ap (λ (v : GroundView). v.table) c.ground.view_is ∙ c.requires.table,
      (c.in-Ok-cut_seats.ensures.table ∙ c.ground.invariant.2.0, c.ground.invariant.2.1),
      c.in-Ok-cut_seats.ensures.same ∙ c.ground.invariant.4,
      rw c.as_book.ensures at c.history-entries.ensures.once,
      c.ground.invariant.6,
    )

pub cut_seats-requires-clause-fits : goal.cut_seats-requires-clause-fits
cut_seats-requires-clause-fits g c =
    omega (arith, c.ground.invariant.6, ap (λ (m : Me Entry PassView). length m.0.seen) c.ground.invariant.4)

-- the book's pass has seen the opening history, and so has each seat
pub returns-clause-seen : goal.returns-clause-seen
returns-clause-seen g c = λ k d low. c.in-Ok-cut_seats.ensures.seen k d low
    ∙ (ap (λ (m : Me Entry PassView). m.0.seen) c.ground.invariant.4
    ∙ ap (λ (v : GroundView). v.opening.history) c.ground.view_is)

pub returns-clause-once : goal.returns-clause-once
returns-clause-once g c = λ k d low.
    subst (λ (h : List Entry). NoIdTwice h)
    (sym (c.in-Ok-cut_seats.ensures.seen k d low ∙ ap (λ (m : Me Entry PassView). m.0.seen) c.ground.invariant.4))
    (rw c.as_book.ensures at c.history-entries.ensures.once)
