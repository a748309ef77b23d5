use Rattle.std.proofs.Common.{◌≡◌, ◌++◌, ◌∙◌, ap}
use Rattle.std.specs.Prelude.{string_bytes, map, flat_map}
use Rattle.gu_base.specs.History.{live}
use Rattle.gu_base.specs.declared.entry.Record.{Record}
use Rattle.gu_trace.proofs.Texts.{all_written}
use Rattle.gu_trace.proofs.Made.{made_at, made_all}
use Rattle.gu_trace.proofs.day_totals.append_made.Goals as goal

pub returns : goal.returns
returns c =
    let book = c.args.book.now in
    let f = made_at book.house book.history in
    let items : c.as_slice-number-items.result.now ≡ map (λ (r : Record). r.number) (live book.history) =
    c.as_slice-number-items.ensures.value ∙ c.in_ok-numbers.ensures in
    all_written f c.as_slice-number-items.result.now c.loop-number.number-index (string_bytes c.loop-number.text) _
    c.loop-number-test.false c.loop-number.invariant
    ∙ ap (λ t. string_bytes c.args.text.now ++ t) (ap (flat_map f) items ∙ made_all book.house book.history)
