use Rattle.std.proofs.Common.{rules, ap, ◌∙◌}
use Rattle.atomic_table.specs.Table.{Me}
use Rattle.gu_base.specs.declared.entry.Entry.{Entry}
use Rattle.gu_desk.specs.Passes.{with_kept_laid_in}
use Rattle.gu_desk.specs.declared.count.PassView.{PassView}
use Rattle.gu_desk.proofs.Moves.{lays_kept, compares_as}
use Rattle.gu_desk.proofs.count.compare.Goals as goal

pub join_seat-requires : goal.join_seat-requires
join_seat-requires c = (search rules, search rules, c.requires.slots, search rules, lays_kept _ _ _ _)

pub load-requires : goal.load-requires
load-requires c =
    let w : PassView = with_kept_laid_in c.args.pass.now.me.0 c.args.caller.me.0 in
    let me = c.join_seat.ensures.2 ∙ ap (λ (m : Me Entry PassView). (w, m.1)) c.requires.journals in (
      search rules,
      search rules,
      compares_as _ _ _ w me (ap (λ (m : Me Entry PassView). m.0.is_journals) c.requires.journals),
    )
