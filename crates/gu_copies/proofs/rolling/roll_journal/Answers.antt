use Rattle.gu_copies.proofs.Anew.{line_told, front_told, not_begun}
use Rattle.gu_copies.proofs.rolling.roll_journal.Goals as goal

pub returns-in-Ok-write_whole : goal.returns-in-Ok-write_whole
returns-in-Ok-write_whole g c =
    line_told c.args.old.house c.args.new.house c.args.old.pin.bytes c.args.new.pin.bytes _ _ _ _ _ _ _
    c.in-Ok.line.items c.in-Ok.ensures.rolled (rw (← c.deref.ensures.value) c.in-Ok-write_whole.ensures.ok)

pub returns : goal.returns
returns g c =
    let written = c.in-Err-write_whole.ensures.err in
    front_told c.args.old.house c.args.new.house c.args.old.pin.bytes c.args.new.pin.bytes _ _ _ _ _ _ _
    c.in-Ok.line.items written.0 c.in-Ok.ensures.rolled (rw (← c.deref.ensures.value) written.1)
    c.in-Err-write_whole.ensures.failed

pub returns-in-Err : goal.returns-in-Err
returns-in-Err g c =
    not_begun c.args.old.house c.args.new.house c.args.old.pin.bytes c.args.new.pin.bytes _ _ _ _ _ c.in-Err.fault
    c.in-Err.ensures.fault
