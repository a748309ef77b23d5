use Rattle.std.proofs.Common.{rules}
use Rattle.std.proofs.Common.{◌≡◌, ◌++◌, ◌∙◌, ap}
use Rattle.std.specs.Prelude.{Some, map, flat_map}
use Rattle.gu_base.specs.History.{live}
use Rattle.gu_tree.specs.Shown.{shown}
use Rattle.gu_book.specs.TreeRows.{tree_rows}
use Rattle.gu_trace.specs.Trace.{line_of}
use Rattle.gu_trace.proofs.Texts.{traced}
use Rattle.gu_trace.proofs.tree_text.trace.Goals as goal

pub returns-clause-text : goal.returns-clause-text
returns-clause-text c =
    let book = c.args.book.now in
    let told : Some (map shown c.in-Some.rows.items) ≡ tree_rows (live book.history) c.args.trade =
    rw c.in-Some.is at c.in_ok-rows.ensures.rows in
    c.in_ok-extend_from_slice.ensures.items
    ∙ ap (λ t. c.args.out.now.items ++ t)
    (c.as_bytes.ensures.value
    ∙ (c.in_ok-append_lines.ensures
    ∙ (ap (λ t. t ++ flat_map (λ r. line_of book.house book.history (shown r)) c.deref.result.now)
    c.new-text.ensures.bytes
    ∙ (ap (flat_map (λ r. line_of book.house book.history (shown r))) c.deref.ensures.value
    ∙ traced book.house book.history c.args.trade c.in-Some.rows.items told))))

pub returns-in_default-clause-text : goal.returns-in_default-clause-text
returns-in_default-clause-text c = search rules

pub returns-in_default-clause-live : goal.returns-in_default-clause-live
returns-in_default-clause-live c = search rules
