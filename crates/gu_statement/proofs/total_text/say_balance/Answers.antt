use Rattle.gu_statement.proofs.Going.{on, on_ok, wrote, given, as_text}
use Rattle.gu_statement.proofs.total_text.say_balance.Goals as goal

pub returns : goal.returns
returns c =
    let begun = given c.in_ok-begin_object.was (wrote c.begin_object.result c.begin_object.ensures) in
    let firm = on begun (as_text c.as_str.ensures.value c.in_ok-say.ensures) in
    let kind = on firm c.in_ok-say-2.ensures in
    let paid = on kind c.in_ok-count.ensures in
    let last = on paid c.in_ok-count-2.ensures in
    on_ok c.end_object.result (λ ends. on last ends) (wrote c.end_object.result c.end_object.ensures)
