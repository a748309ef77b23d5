use Rattle.gu_statement.proofs.Going.{on, on_ok, wrote, given, as_text, as_count}
use Rattle.gu_statement.proofs.total_text.say_agreement.Goals as goal

pub returns : goal.returns
returns c =
    let begun = given c.in_ok-begin_object.was (wrote c.begin_object.result c.begin_object.ensures) in
    let entry = on begun (as_count c.from.ensures c.in_ok-count.ensures) in
    let giver = on entry (as_text c.as_str.ensures.value c.in_ok-say.ensures) in
    let kind = on giver c.in_ok-say-2.ensures in
    let limit = on kind c.in_ok-count-2.ensures in
    let rate = on limit c.in_ok-count-3.ensures in
    let taker = on rate (as_text c.as_str-2.ensures.value c.in_ok-say-3.ensures) in
    let last = on taker c.in_ok-count-4.ensures in
    on_ok c.end_object.result (λ ends. on last ends) (wrote c.end_object.result c.end_object.ensures)
