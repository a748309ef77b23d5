use Rattle.gu_journal.proofs.group.write_group.Goals as goal
use Rattle.gu_journal.proofs.{Going.passed_on, Vocabulary.{ap, arith, inr, length}}

pub returns-in_err-write_frames-clause-cause : goal.returns-in_err-write_frames-clause-cause
returns-in_err-write_frames-clause-cause c =
    passed_on c.from_residual.result c.from_residual.ensures (λ e is. rw is c.in_err-write_frames.ensures.cause)

pub returns-then-len-gt-MOST_BYTES-clause-cause : goal.returns-then-len-gt-MOST_BYTES-clause-cause
returns-then-len-gt-MOST_BYTES-clause-cause c len =
    inr (inr (inr (λ bytes held.
    let size = ap length (c.in_ok-write_frames.ensures.group.group bytes held) in
    omega (arith, size, c.len.ensures, c.if-len-gt-MOST_BYTES.true))))
