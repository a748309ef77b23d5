use Rattle.std.proofs.Common.{rules, refl, ap, ◌∙◌}
use Rattle.atomic_table.specs.Table.{Me}
use Rattle.gu_base.specs.declared.entry.Entry.{Entry}
use Rattle.gu_desk.specs.Passes.{beside, with_laid_in}
use Rattle.gu_desk.specs.declared.count.PassView.{PassView}
use Rattle.gu_desk.proofs.Moves.{joins, orders_as}
use Rattle.gu_desk.proofs.count.order.Goals as goal

pub join_seat-requires : goal.join_seat-requires
join_seat-requires c = (
  search rules,
  search rules,
  c.requires.slots,
  search rules,
  joins _ _ _ _ (ap (λ (m : Me Entry PassView). m.0.is_journals) c.give_beside-beside.ensures.new),
)

pub load-requires : goal.load-requires
load-requires c =
    let w : PassView = with_laid_in (beside c.args.pass.now.me.0) c.args.caller.me.0 in
    let me = c.join_seat.ensures.2
    ∙ ap (λ (m : Me Entry PassView). (with_laid_in m.0 c.args.caller.me.0, m.1)) c.give_beside-beside.ensures.new in
    (search rules, search rules, orders_as _ _ _ w me refl)
