use Rattle.std.proofs.Common.{rules, sym, subst, length, [], ◌∷◌, List}
use Rattle.atomic_table.specs.Table.{opening}
use Rattle.gu_base.specs.declared.entry.Entry.{Entry}
use Rattle.gu_desk.specs.Passes.{IsCounted, of_opening}
use Rattle.gu_desk.proofs.Moves.{begins, gives_journal_as}
use Rattle.gu_desk.proofs.count.open_count.Goals as goal

-- the words are the length of the history, and nothing
pub of_words-requires : goal.of_words-requires
of_words-requires c =
    let h = c.args.book.now.history in
    subst (λ (l : List Entry). IsCounted (opening (length l ∷ 0 ∷ []) [] (of_opening h))) (sym c.history.ensures.value)
    (begins h c.history.ensures.fits)

pub split_seat-journal-requires : goal.split_seat-journal-requires
split_seat-journal-requires c =
    (search rules, search rules, gives_journal_as _ _ c.args.book.now.history (search rules))
