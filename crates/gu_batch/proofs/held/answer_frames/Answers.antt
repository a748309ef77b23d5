use Rattle.std.proofs.Common.{◌≡◌, Some, length, drop, ap, refl, ◌∙◌, arith, length-drop}
use Rattle.gu_codec.specs.declared.frame.Frame.TheVariants.{Whole, Garbled, Broken}
use Rattle.gu_codec.proofs.Streams.{frame_len}
use Rattle.gu_batch.proofs.Holding.{answer_of, leads_sealed, sealed_len, leads_garbled, leads_broken, leads_begun}
use Rattle.gu_batch.proofs.Holding.{may_count}
use Rattle.gu_batch.proofs.held.answer_frames.Goals as goal

pub answer-requires : goal.answer-requires
answer-requires c =
    may_count c.args.answering.now c.frames.answering c.args.feed.now c.frames.feed c.frames.out.items
    c.frames.invariant c.requires.numbered c.requires.short

pub frames-preserved-in-Ok : goal.frames-preserved-in-Ok
frames-preserved-in-Ok c =
    let w = c.in-Some-Whole in
    let a = answer_of c.frames.feed c.next_sealed.follows.lender-at-none c.next_sealed.result
    (Some (Whole w.fields w.field-0-1)) c.frames.invariant.unbroken c.next_sealed.ensures.answer
    c.next_sealed.follows.holds-at-none (w.is ∙ ap Some w.field-0-is) in
    rw (c.in-Ok.ensures.ok, c.in-Ok.ensures.after)
    (leads_sealed c.args.answering.now c.frames.answering c.args.feed.now c.frames.feed
    c.next_sealed.follows.lender-at-none c.frames.out.items w.fields w.field-0-1 c.frames.invariant a.0 a.1)

pub frames-smaller-in-Ok : goal.frames-smaller-in-Ok
frames-smaller-in-Ok c =
    let w = c.in-Some-Whole in
    let a = answer_of c.frames.feed c.next_sealed.follows.lender-at-none c.next_sealed.result
    (Some (Whole w.fields w.field-0-1)) c.frames.invariant.unbroken c.next_sealed.ensures.answer
    c.next_sealed.follows.holds-at-none (w.is ∙ ap Some w.field-0-is) in
    let len = sealed_len c.frames.feed w.fields w.field-0-1 a.0 in
    let new : length c.next_sealed.follows.lender-at-none.held ≡ length (drop w.field-0-1 c.frames.feed.held) =
    rw (a.1) refl in
    omega (arith, new, len.0, len.1, length-drop w.field-0-1 c.frames.feed.held)

pub returns-in-Err : goal.returns-in-Err
returns-in-Err c =
    rw (c.in-Err.ensures.err)
    (leads_begun c.args.answering.now c.frames.answering c.args.feed.now c.frames.feed c.frames.out.items
    c.frames.invariant)

pub frames-smaller : goal.frames-smaller
frames-smaller c =
    let w = c.in-Some-Garbled in
    let a = answer_of c.frames.feed c.next_sealed.follows.lender-at-none c.next_sealed.result
    (Some (Garbled w.field-0-0)) c.frames.invariant.unbroken c.next_sealed.ensures.answer
    c.next_sealed.follows.holds-at-none (w.is ∙ ap Some w.field-0-is) in
    let len = frame_len _ _ _ a.0.1 in
    let new : length c.next_sealed.follows.lender-at-none.held ≡ length (drop w.field-0-0 c.frames.feed.held) =
    rw (a.1) refl in
    omega (arith, new, len, a.0.1.within, length-drop w.field-0-0 c.frames.feed.held)

pub frames-preserved : goal.frames-preserved
frames-preserved c =
    let w = c.in-Some-Garbled in
    let a = answer_of c.frames.feed c.next_sealed.follows.lender-at-none c.next_sealed.result
    (Some (Garbled w.field-0-0)) c.frames.invariant.unbroken c.next_sealed.ensures.answer
    c.next_sealed.follows.holds-at-none (w.is ∙ ap Some w.field-0-is) in
    leads_garbled c.args.answering.now c.frames.answering c.args.feed.now c.frames.feed
    c.next_sealed.follows.lender-at-none c.frames.out.items w.field-0-0 c.frames.invariant a.0 a.1

pub returns-in-Some-Broken : goal.returns-in-Some-Broken
returns-in-Some-Broken c =
    let w = c.in-Some-Broken in
    let a = answer_of c.frames.feed c.next_sealed.follows.lender-at-none c.next_sealed.result (Some (Broken w.at))
    c.frames.invariant.unbroken c.next_sealed.ensures.answer c.next_sealed.follows.holds-at-none
    (w.is ∙ ap Some w.field-0-is) in
    leads_broken c.args.answering.now c.frames.answering c.args.feed.now c.frames.feed c.frames.out.items w.at
    c.frames.invariant a.0
