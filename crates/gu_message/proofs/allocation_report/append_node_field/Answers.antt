use Rattle.std.proofs.Common.{ℕ, List, ◌++◌, ap, ◌∙◌}
use Rattle.std.specs.Prelude.{decimal}
use Rattle.gu_message.proofs.ReportTexts.{node_joined}
use Rattle.gu_message.proofs.allocation_report.append_node_field.Goals as goal

pub returns-clause-items : goal.returns-clause-items
returns-clause-items c =
    let entry = c.format-2.ensures.text ∙ ap decimal (c.get.ensures.value ∙ c.entry.ensures) in
    node_joined c.args.out.now.items (decimal c.args.tag) (decimal c.args.name.entry) (decimal c.args.name.part) _ _ _ _
    _ _
    (c.append.ensures.items
    ∙ ap (λ (t : List ℕ). c.args.out.now.items ++ t) (c.as_bytes.ensures.value ∙ c.format.ensures.text))
    c.append-2.ensures.items
    (c.append-3.ensures.items ∙ ap (λ (t : List ℕ). c.append-2.new.out.items ++ t) (c.as_bytes-2.ensures.value ∙ entry))
    c.append-4.ensures.items
    (c.append-5.ensures.items
    ∙ ap (λ (t : List ℕ). c.append-4.new.out.items ++ t)
    (c.as_bytes-3.ensures.value ∙ c.format-3.ensures.text ∙ ap decimal (c.from.ensures ∙ c.part.ensures.value)))
    c.append-6.ensures.items
