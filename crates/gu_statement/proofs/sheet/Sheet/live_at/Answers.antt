use Rattle.std.proofs.Common.{◌≡◌, ◌∙◌, ap, sym, Some, None}
use Rattle.std.specs.Prelude.{slice_get}
use Rattle.std.proofs.lemmas.Option.{slice_get-get_or}
use Rattle.gu_base.specs.History.{numbered_as}
use Rattle.gu_statement.proofs.Live.{live_at}
use Rattle.gu_statement.proofs.sheet.Sheet.live_at.Goals as goal

pub returns-in-Some-entry_at-clause-change : goal.returns-in-Some-entry_at-clause-change
returns-in-Some-entry_at-clause-change c =
    let k = c.in-Some.ensures.lookup in
    let there : slice_get c.args.self.now.live.now c.args.place ≡ Some c.in-Some.number.now =
    slice_get-get_or c.args.self.now.live.now c.args.place c.in-Some.number.now k.3.0 ∙ ap Some (sym k.1) in
    live_at c.args.self.now.book.now.history c.args.place c.in-Some.number.now
    (Some (numbered_as c.in-Some.number.now c.in-Some-entry_at.entry.now)) (rw c.requires at there)
    (rw c.entries-entries.ensures.value at c.in-Some-entry_at.ensures)

pub returns-in-None-clause-change : goal.returns-in-None-clause-change
returns-in-None-clause-change c =
    let k = c.in-Some.ensures.lookup in
    let there : slice_get c.args.self.now.live.now c.args.place ≡ Some c.in-Some.number.now =
    slice_get-get_or c.args.self.now.live.now c.args.place c.in-Some.number.now k.3.0 ∙ ap Some (sym k.1) in
    live_at c.args.self.now.book.now.history c.args.place c.in-Some.number.now None (rw c.requires at there)
    (rw c.entries-entries.ensures.value at c.in-None.ensures)
