use Rattle.std.proofs.Common.{◌≡◌, ap, sym, subst, length, List, []}
use Rattle.atomic_table.specs.Table.{Me}
use Rattle.gu_base.specs.declared.entry.Entry.{Entry}
use Rattle.gu_desk.specs.Begins.{BeginsWith}
use Rattle.gu_desk.specs.Passes.{of_journal}
use Rattle.gu_desk.specs.declared.count.PassView.{PassView}
use Rattle.gu_desk.proofs.Moves.{begins_empty}
use Rattle.gu_desk.proofs.journal.JournalSeat.new.Goals as goal

-- nothing is durable, which begins every history
pub invariant_of-result : goal.invariant_of-result
invariant_of-result g c =
    let me = c.args.pass.me in
    let kept : me.0.kept ≡ [] = ap (λ (m : Me Entry PassView). m.0.kept) c.requires.journals in (
      c.requires.table,
      subst (λ (d : List Entry). me ≡ (of_journal me.0.seen d, [])) (sym kept) c.requires.journals,
      c.requires.records,
      ap (λ (d : List Entry). length d) (sym kept),
      subst (λ (d : List Entry). BeginsWith me.0.seen d) (sym kept) (begins_empty me.0.seen),
    )
