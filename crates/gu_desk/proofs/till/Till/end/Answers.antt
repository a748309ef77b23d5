use Rattle.std.proofs.Common.{ap, subst, List, get_or}
use Rattle.atomic_table.specs.Table.{Me}
use Rattle.gu_base.specs.declared.entry.Entry.{Entry}
use Rattle.gu_desk.specs.Begins.{BeginsWith}
use Rattle.gu_desk.specs.declared.count.PassView.{PassView}
use Rattle.gu_desk.proofs.till.Till.end.Goals as goal

-- the history is what the book's pass has seen
pub returns-clause-seen : goal.returns-clause-seen
returns-clause-seen g c = λ k d low.
    rw c.into_book.ensures (subst (λ (h : List Entry). BeginsWith h (get_or c.args.seats.items k d).seen)
    (ap (λ (m : Me Entry PassView). m.0.seen) c.self.invariant.6) (c.merge_seats-all.ensures.begins k d low))
