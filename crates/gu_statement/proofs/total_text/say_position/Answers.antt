use Rattle.gu_statement.proofs.Going.{on, on_ok, wrote, given, as_text}
use Rattle.gu_statement.proofs.total_text.say_position.Goals as goal

pub returns : goal.returns
returns c =
    let begun = given c.in_ok-begin_object.was (wrote c.begin_object.result c.begin_object.ensures) in
    let account = on begun (as_text c.as_str.ensures.value c.in_ok-say.ensures) in
    let firm = on account (as_text c.as_str-2.ensures.value c.in_ok-say-2.ensures) in
    let instrument = on firm (as_text c.as_str-3.ensures.value c.in_ok-say-3.ensures) in
    let kind = on instrument c.in_ok-say-4.ensures in
    let long = on kind c.in_ok-count.ensures in
    let last = on long c.in_ok-count-2.ensures in
    on_ok c.end_object.result (λ ends. on last ends) (wrote c.end_object.result c.end_object.ensures)
