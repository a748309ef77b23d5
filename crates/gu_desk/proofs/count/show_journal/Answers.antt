use Rattle.std.proofs.Common.{rules, ap, ◌∙◌}
use Rattle.atomic_table.specs.Table.{Me}
use Rattle.gu_base.specs.declared.entry.Entry.{Entry}
use Rattle.gu_desk.specs.declared.count.PassView.{PassView}
use Rattle.gu_desk.proofs.Moves.{shows}
use Rattle.gu_desk.proofs.count.show_journal.Goals as goal

pub join_seat-requires : goal.join_seat-requires
join_seat-requires c =
    let not_books =
    ap (λ (m : Me Entry PassView). m.0.is_books) (c.give_beside-had.ensures.same ∙ c.requires.journals) in
    (search rules, search rules, search rules, search rules, shows _ _ _ _ not_books)
