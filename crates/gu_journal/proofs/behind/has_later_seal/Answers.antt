use Rattle.gu_journal.proofs.behind.has_later_seal.Goals as goal
use Rattle.gu_journal.proofs.{Going.{front_frame, garbled_len}, Searching.{later_found, looks_filled, looks_first}}
use Rattle.gu_journal.proofs.Searching.{looks_passed, no_message, none_stands, nothing_more, other_front}
use Rattle.gu_journal.proofs.Vocabulary.{append-nil, arith, begins_stays, Broken, broken_stays, end_of, Garbled, length}
use Rattle.gu_journal.proofs.Vocabulary.{None, pairs, Partial, ◌≡◌}

pub frames-init : goal.frames-init
frames-init g c = looks_first c.requires.usable c.requires.within c.requires.empty

-- a seal that is looked for
pub returns-then-is_later_seal-clause-found : goal.returns-then-is_later_seal-clause-found
returns-then-is_later_seal-clause-found g c found clean =
    later_found (g.D.Disk.seen c.args.disk.now) c.frames.window c.args.window.now.at c.args.replay.now.stand
    c.args.replay.now.first
    (pairs c.in-Whole.fields) c.in-Whole.len c.frames.invariant.behind (c.frames.invariant.there clean)
    c.in-Whole.ensures (c.is_later_seal.ensures.0 c.if-is_later_seal.true)

-- another message
pub pass_to_frame-requires-clause-some : goal.pass_to_frame-requires-clause-some
pass_to_frame-requires-clause-some g c =
    let some = front_frame c.frames.window.bytes (pairs c.in-Whole.fields) c.in-Whole.len c.in-Whole.ensures in
    omega (arith, some.0, some.1)

pub frames-preserved-in-Whole : goal.frames-preserved-in-Whole
frames-preserved-in-Whole g c =
    looks_passed c.frames.invariant c.pass_to_frame.ensures.within c.pass_to_frame.ensures.passed (λ clean.
    no_message _ _ _ _ (pairs c.in-Whole.fields) c.in-Whole.len c.in-Whole.ensures
    (λ seal. let yes = c.is_later_seal.ensures.1 seal in let no = c.if-is_later_seal.false in cc))

-- a garbled frame
pub pass_to_frame-requires-in-Garbled-clause-some : goal.pass_to_frame-requires-in-Garbled-clause-some
pass_to_frame-requires-in-Garbled-clause-some g c =
    let some = garbled_len c.frames.window.bytes c.in-Garbled.len c.in-Garbled.ensures in
    omega (arith, some.0, some.1)

pub frames-preserved-in-Garbled : goal.frames-preserved-in-Garbled
frames-preserved-in-Garbled g c =
    looks_passed c.frames.invariant c.pass_to_frame-in-Garbled.ensures.within c.pass_to_frame-in-Garbled.ensures.passed
    (λ clean. other_front _ _ _ (Garbled c.in-Garbled.len)
    (begins_stays _ _ (record { fields = None; len = c.in-Garbled.len }) c.in-Garbled.ensures) (λ n size same seal. cc))

-- no frame
pub frames-preserved-in-Broken : goal.frames-preserved-in-Broken
frames-preserved-in-Broken g c =
    looks_passed c.frames.invariant c.pass_to_frame-in-Broken.ensures.within c.pass_to_frame-in-Broken.ensures.passed
    (λ clean. other_front _ _ _ (Broken c.in-Broken.at)
    (broken_stays _ _ c.in-Broken.at c.in-Broken.ensures) (λ n size same seal. cc))

-- a piece more is read
pub frames-preserved-then-at-len : goal.frames-preserved-then-at-len
frames-preserved-then-at-len g c =
    looks_filled c.frames.invariant c.fill.ensures.reads c.in_ok-fill-in-Partial.ensures.adds

-- a front of a frame, behind which the file ends
pub frames-preserved : goal.frames-preserved
frames-preserved g c =
    looks_passed c.frames.invariant c.pass_to_frame-else-len-eq0.ensures.within
    c.pass_to_frame-else-len-eq0.ensures.passed (λ clean.
    let size = c.requires.size (c.frames.invariant.reads.clean clean) in
    let all : end_of c.frames.window ≡ length (g.D.Disk.seen c.args.disk.now) =
    omega (arith, size, c.frames.invariant.within, c.if-at-len.false) in
    let none = nothing_more c.args.replay.now.stand c.args.replay.now.first _ _ c.args.window.now.at
    (c.frames.invariant.there clean) all in
    other_front _ _ _ Partial (rw (none, append-nil) c.in-Partial.ensures) (λ n size same seal. cc))

-- all was looked at
pub returns-then-len-eq0-clause-none : goal.returns-then-len-eq0-clause-none
returns-then-len-eq0-clause-none g c found clean =
    none_stands c.args.replay.now.stand c.args.replay.now.first (g.D.Disk.seen c.args.disk.now)
    c.args.window.now.at c.frames.window.at (c.frames.invariant.none clean)
    (omega (arith, c.requires.size (c.frames.invariant.reads.clean clean), c.if-at-len.false, c.if-len-eq0.true))
