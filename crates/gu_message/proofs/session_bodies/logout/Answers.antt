use Rattle.std.proofs.Common.{append-nil}
use Rattle.gu_message.proofs.session_bodies.logout.Goals as goal

pub returns-in-Some-NumberTooLow-clause-ok : goal.returns-in-Some-NumberTooLow-clause-ok
returns-in-Some-NumberTooLow-clause-ok c =
    let too_low = rw c.in-Some-NumberTooLow.is at c.in-Some-NumberTooLow.field-0-is in
    rw (c.append_number_text.ensures.items, c.reserve.ensures.items, c.in-Some-NumberTooLow.is, too_low)
    (simp append-nil)
