use Rattle.gu_journal.proofs.file.take_frames.Goals as goal
use Rattle.gu_journal.proofs.{Going.passed_on, Looping.{goes_filled, goes_first, goes_taken, reads_on}}
use Rattle.gu_journal.proofs.{Reasons.goes_told, Vocabulary.{ap, arith, Held, length, length-drop, refl, rules, ◌∙◌}}

pub frames-init : goal.frames-init
frames-init g c = record {
  goes = rw c.requires.front (goes_first c.requires.fresh);
  reads = record { same = refl; usable = c.requires.usable; clean = λ h. h; crash = λ x left. left };
}

-- a frame is taken
pub take_front-requires-clause-small : goal.take_front-requires-clause-small
take_front-requires-clause-small g c =
    let goes = c.frames.invariant.goes in
    omega (arith, goes.within, goes.fewer, c.requires.short, c.at.ensures)

pub pass-requires-clause-within : goal.pass-requires-clause-within
pass-requires-clause-within g c = let m = rw c.in-Taken.is at c.in_ok-met.ensures.meets in m.1

pub pass-requires-clause-small : goal.pass-requires-clause-small
pass-requires-clause-small g c =
    let m = rw c.in-Taken.is at c.in_ok-met.ensures.meets in
    let goes = c.frames.invariant.goes in
    omega (arith, goes.within, goes.fewer, m.1, c.requires.short)

pub frames-preserved-in-Taken : goal.frames-preserved-in-Taken
frames-preserved-in-Taken g c =
    let m = rw c.in-Taken.is at c.in_ok-met.ensures.meets in
    record {
      goes = rw c.pass.ensures
          (goes_taken c.frames.invariant.goes (m.0, m.1, λ t taken place is. m.2 t taken (c.at.ensures ∙ place) is));
      reads = c.frames.invariant.reads;
    }

pub frames-smaller-in-Taken : goal.frames-smaller-in-Taken
frames-smaller-in-Taken g c =
    let m = rw c.in-Taken.is at c.in_ok-met.ensures.meets in
    let at = ap (λ (w : Held). w.at) c.pass.ensures in
    let len = ap (λ (w : Held). length w.bytes) c.pass.ensures in
    omega (arith, at, len, m.0, m.1, length-drop c.in-Taken.len c.frames.window.bytes)

-- what is there isn't taken
pub returns-in_err-met-clause-cause : goal.returns-in_err-met-clause-cause
returns-in_err-met-clause-cause g c =
    let m = c.in_err-met.ensures in
    passed_on c.from_residual.result c.from_residual.ensures
    (λ e is. rw is (goes_told c.frames.invariant.goes (search rules) (search rules) _ m.place m.cause))

pub returns-in_err-fill_counted-in-Begun-clause-cause : goal.returns-in_err-fill_counted-in-Begun-clause-cause
returns-in_err-fill_counted-in-Begun-clause-cause g c =
    passed_on c.from_residual-in_err-fill_counted-in-Begun.result
    c.from_residual-in_err-fill_counted-in-Begun.ensures
    (λ e is. rw is (λ told. absurd (c.in_err-fill_counted-in-Begun.ensures.err told)))

-- nothing more counts
pub returns-then-at-len-clause-finds : goal.returns-then-at-len-clause-finds
returns-then-at-len-clause-finds g c =
    let m = rw c.in-Begun.is at c.in_ok-met.ensures.meets in
    record { goes = rw (m.1, m.2) c.frames.invariant.goes; all = search rules; begun = m.0 }

-- a piece more was read
pub frames-preserved : goal.frames-preserved
frames-preserved g c =
    let m = rw c.in-Begun.is at c.in_ok-met.ensures.meets in
    let gains = rw c.frames.invariant.reads.same at c.in_ok-fill_counted-in-Begun.ensures.gains in
    record {
      goes = rw (m.1, m.2) (goes_filled c.frames.invariant.goes gains c.fill_counted.ensures.reads.clean);
      reads = reads_on c.frames.invariant.reads c.fill_counted.ensures.reads;
    }
