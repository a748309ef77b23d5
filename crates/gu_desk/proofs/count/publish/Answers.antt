use Rattle.std.proofs.Common.{rules, ◌≡◌, ◌≤◌, ◌∙◌, [], ◌∷◌, ◌++◌, List, length, ap, sym, subst}
use Rattle.atomic_table.specs.Table.{Me}
use mathlib.Core.Option.{some}
use Rattle.gu_base.specs.Limits.{most_entries}
use Rattle.gu_base.specs.declared.entry.Entry.{Entry}
use Rattle.gu_desk.specs.Passes.{of_book, with_record}
use Rattle.gu_desk.specs.declared.count.PassView.{PassView}
use Rattle.gu_desk.proofs.Moves.{publishes_as, gained_is, last_place}
use Rattle.gu_desk.proofs.count.publish.Goals as goal

pub compare_exchange_with-requires : goal.compare_exchange_with-requires
compare_exchange_with-requires c =
    let h = c.args.pass.now.me.0.seen in
    let k = c.args.history.now in
    let e = c.index-history-before.result in
    let more = c.requires.one.1 in
    let whole : h ++ e ∷ [] ≡ k = gained_is h k c.requires.one.0 e more c.index-history-before.is in
    let few = subst (λ (l : List Entry). length l ≤ most_entries) (sym whole) c.requires.fits in
    (search rules, search rules, publishes_as _ _ _ h _ e c.requires.books (last_place h k c.requires.one.0 more) few)

pub returns-clause-added : goal.returns-clause-added
returns-clause-added c =
    let h = c.args.pass.now.me.0.seen in
    let e = c.index-history-before.result in
    let whole : h ++ e ∷ [] ≡ c.args.history.now =
    gained_is h c.args.history.now c.requires.one.0 e c.requires.one.1 c.index-history-before.is in
    c.compare_exchange_with.ensures.2
    ∙ (ap (λ (m : Me Entry PassView). (with_record (some e) m.0, m.1)) c.requires.books
    ∙ ap (λ (l : List Entry). (of_book l, [])) whole)
