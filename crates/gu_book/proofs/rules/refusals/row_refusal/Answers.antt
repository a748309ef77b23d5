use Rattle.gu_book.proofs.rules.refusals.row_refusal.Goals as goal
use Rattle.{gu_base.specs.Refusals.at_node, gu_book.proofs.Vocabulary.{ap, live, split_row, sym, ◌∙◌}}

pub returns-in-Some : goal.returns-in-Some
returns-in-Some c =
    let t = c.at.inside.house.now in
    let l = live c.at.inside.entries.now.items in
    let q = rw (c.in-Split.is, ← c.at.view_is, c.in-Some.is) at c.requires.named in
    let e = c.split_refusal.ensures l _ q.2 in
    rw (c.in-Split.is, ← c.at.view_is)
    ((rw c.as_slice.ensures at e) ∙ sym (ap (at_node (split_row t l c.args.by.now c.in-Split.parts)) q.0))
