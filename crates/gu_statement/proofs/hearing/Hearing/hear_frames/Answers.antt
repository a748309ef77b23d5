use Rattle.std.proofs.Common.{Some, ap, ◌∙◌}
use Rattle.gu_codec.specs.declared.frame.Frame.TheVariants.{Whole, Garbled}
use Rattle.gu_statement.proofs.Frames.{whole_left, garbled_left}
use Rattle.gu_statement.proofs.hearing.Hearing.hear_frames.Goals as goal

pub frames-smaller-in-Ok : goal.frames-smaller-in-Ok
frames-smaller-in-Ok c =
    let w = c.in-Some-Whole in
    (whole_left c.frames.feed c.next_sealed.follows.lender-at-none c.next_sealed.result w.fields w.field-0-1
    c.frames.invariant c.next_sealed.ensures.answer c.next_sealed.follows.holds-at-none
    (w.is ∙ ap Some w.field-0-is)).0

pub frames-smaller : goal.frames-smaller
frames-smaller c =
    let w = c.in-Some-Garbled in
    (garbled_left c.frames.feed c.next_sealed.follows.lender-at-none c.next_sealed.result w.field-0-0
    c.frames.invariant c.next_sealed.ensures.answer c.next_sealed.follows.holds-at-none
    (w.is ∙ ap Some w.field-0-is)).0
