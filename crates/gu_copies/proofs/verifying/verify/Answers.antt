use Rattle.gu_copies.proofs.Looking.{refused, untold, said, half_said}
use Rattle.gu_copies.proofs.verifying.verify.Goals as goal

-- a start from the bytes would be refused
pub returns-in-Err-verified : goal.returns-in-Err-verified
returns-in-Err-verified g c =
    refused c.args.house c.args.pin.now.bytes _ c.args.look.now.totals c.args.look.now.trade _ _
    c.in-Ok.file.items _ (rw (← c.as_str.ensures.value) c.in-Ok.ensures.bytes) c.in-Err-verified.ensures.refusal

-- what is asked for beside the line can't be told
pub returns-in-Err-asked : goal.returns-in-Err-asked
returns-in-Err-asked g c =
    untold c.args.house c.args.pin.now.bytes _ c.args.look.now.totals c.args.look.now.trade _ _
    c.in-Ok.file.items c.in-Ok-verified.found.0.history c.in-Ok-verified.found.1.items c.in-Err-asked.error
    (rw (← c.as_str.ensures.value) c.in-Ok.ensures.bytes) c.in-Ok-verified.ensures.line
    c.in-Err-asked.ensures.none

-- all was written
pub returns-in-Ok-write_whole : goal.returns-in-Ok-write_whole
returns-in-Ok-write_whole g c =
    said c.args.house _ c.args.pin.now.bytes _ c.args.look.now.totals c.args.look.now.trade _ _ _ _
    c.in-Ok.file.items c.in-Ok-verified.found.0.history c.in-Ok-verified.found.1.items
    c.append_asked-asked.new.out.items
    (rw (← c.as_str.ensures.value) c.in-Ok.ensures.bytes) c.in-Ok-verified.ensures.line
    c.in-Ok-asked.ensures.live c.in-Ok-verified.ensures.house c.in-Ok-asked.ensures.text
    (rw (← c.deref.ensures.value) c.in-Ok-write_whole.ensures.ok)

-- a front of it was written
pub returns : goal.returns
returns g c =
    let written = c.in-Err-write_whole.ensures.err in
    half_said c.args.house _ c.args.pin.now.bytes _ c.args.look.now.totals c.args.look.now.trade _ _ _ _
    c.in-Ok.file.items c.in-Ok-verified.found.0.history c.in-Ok-verified.found.1.items
    c.append_asked-asked.new.out.items written.0
    (rw (← c.as_str.ensures.value) c.in-Ok.ensures.bytes) c.in-Ok-verified.ensures.line
    c.in-Ok-asked.ensures.live c.in-Ok-verified.ensures.house c.in-Ok-asked.ensures.text
    (rw (← c.deref.ensures.value) written.1) c.in-Err-write_whole.ensures.failed
