use Rattle.std.proofs.Common.{◌≡◌, arith, ap, sym, subst, ◌∙◌, [], List, rules}
use Rattle.atomic_table.specs.Table.{Me}
use Rattle.gu_base.specs.declared.entry.Entry.{Entry}
use Rattle.gu_book.specs.Seen.{BookView, stored}
use Rattle.gu_desk.specs.Begins.{BeginsWith}
use Rattle.gu_desk.specs.Passes.{of_book}
use Rattle.gu_desk.specs.Shares.{Gains}
use Rattle.gu_desk.specs.declared.count.PassView.{PassView}
use Rattle.gu_desk.proofs.Moves.{begins_with_all}
use Rattle.gu_desk.proofs.Running.{grown, gains, grows}
use Rattle.gu_desk.proofs.till.Till.call.Goals as goal

pub invariant_of-self : goal.invariant_of-self
invariant_of-self g c =
    let i = c.self.invariant in
    let e = c.apply-answer.ensures in
    let next = grown g.J.Job.opening (stored c.self.inside.book) (stored c.apply-answer.new.self) _
    c.apply-answer.result i.0 e.answered e.kept e.unchanged in
    let out = c.new-seat.ensures in
    let added = c.publish_accepted.ensures in (
      next.0,
      omega (arith, next.1, i.1, c.add_gained.ensures.total),
      i.2,
      i.3,
      i.4,
      (out.table ∙ added.table ∙ c.into_share-share.ensures.table ∙ i.5.0, i.5.1),
      out.same ∙ added.added ∙ ap (λ (h : List Entry). (of_book h, []))
          (c.history-history.ensures.value ∙ ap (λ (b : BookView). b.history) c.as_book.ensures),
      rw c.as_book.ensures at c.history-history.ensures.once,
      rw c.as_book.ensures at c.history-history.ensures.fits,
    )

-- the history gains the record of an accepted call, and nothing else
pub publish_accepted-requires-clause-gains : goal.publish_accepted-requires-clause-gains
publish_accepted-requires-clause-gains g c =
    let e = c.apply-answer.ensures in
    let old = stored c.self.inside.book in
    let new = stored c.apply-answer.new.self in
    let r = c.apply-answer.result in
    let seen = ap (λ (m : Me Entry PassView). m.0.seen) (c.into_share-share.ensures.same ∙ c.self.invariant.6) in
    subst (λ (p : List Entry × List Entry). Gains r p.0 p.1)
    (λ k. (sym seen k, sym (c.history-history.ensures.value ∙ ap (λ (b : BookView). b.history) c.as_book.ensures) k))
    (gains old new _ r e.answered e.kept e.unchanged)

-- the till's history begins with what the seat had seen, and its new one with that
pub returns-clause-later : goal.returns-clause-later
returns-clause-later g c =
    let e = c.apply-answer.ensures in
    let old = stored c.self.inside.book in
    let new = stored c.apply-answer.new.self in
    let r = c.apply-answer.result in
    let seen = ap (λ (m : Me Entry PassView). m.0.seen) c.self.invariant.6 in
    let begins : BeginsWith old.history c.args.seat.seen =
    subst (λ (h : List Entry). BeginsWith h c.args.seat.seen) seen c.into_share-share.ensures.begins in (
      (grown g.J.Job.opening old new _ r c.self.invariant.0 e.answered e.kept e.unchanged).0.1,
      begins_with_all new.history old.history c.args.seat.seen
          (grows r old.history new.history (gains old new _ r e.answered e.kept e.unchanged)) begins,
    )

pub returns-clause-answered : goal.returns-clause-answered
returns-clause-answered g c = search rules

pub returns-clause-kept : goal.returns-clause-kept
returns-clause-kept g c = search rules

pub returns-clause-memory : goal.returns-clause-memory
returns-clause-memory g c = search rules

pub returns-clause-unchanged : goal.returns-clause-unchanged
returns-clause-unchanged g c = search rules
