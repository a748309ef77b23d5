use Rattle.gu_journal.proofs.file.take_front.Goals as goal
use Rattle.gu_journal.proofs.{Going.{front_frame, passed_on}, Reasons.refused_reason, Vocabulary.{ap, arith}}
use Rattle.gu_journal.proofs.Vocabulary.{broken_stays, length, length-take, pairs, ℕ}

pub bytes-requires : goal.bytes-requires
bytes-requires c = (front_frame c.args.window.now.bytes (pairs c.in-Whole.fields) c.in-Whole.len c.in-Whole.ensures).1

pub take-requires-clause-frame : goal.take-requires-clause-frame
take-requires-clause-frame c =
    rw c.bytes.ensures
    (front_frame c.args.window.now.bytes (pairs c.in-Whole.fields) c.in-Whole.len c.in-Whole.ensures).2

pub take-requires-clause-small : goal.take-requires-clause-small
take-requires-clause-small c = omega (arith, c.requires.small, ap length c.bytes.ensures, length-take {A = ℕ})

pub returns-in_ok-take-in-Whole-clause-meets : goal.returns-in_ok-take-in-Whole-clause-meets
returns-in_ok-take-in-Whole-clause-meets c =
    let f = front_frame c.args.window.now.bytes (pairs c.in-Whole.fields) c.in-Whole.len c.in-Whole.ensures in
    (f.0, f.1, λ t taken place is. rw c.bytes.ensures at (c.in_ok-take-in-Whole.ensures.takes t taken place is))

pub returns-in_err-take-in-Whole-clause-cause : goal.returns-in_err-take-in-Whole-clause-cause
returns-in_err-take-in-Whole-clause-cause c =
    passed_on c.from_residual.result c.from_residual.ensures (λ e is. rw is (λ t taken later behind is.
    refused_reason t c.args.pin.now.bytes taken c.args.replay.now.stand c.args.book.now.history behind
    c.args.window.now.bytes later (pairs c.in-Whole.fields) c.in-Whole.len c.in-Whole.ensures _
    (c.in_err-take-in-Whole.ensures.cause t taken is)))

pub returns-in-Broken-clause-cause : goal.returns-in-Broken-clause-cause
returns-in-Broken-clause-cause c t taken later behind is =
    rw c.damaged-in-Broken.ensures
    (c.in-Broken.at, broken_stays c.args.window.now.bytes later c.in-Broken.at c.in-Broken.ensures)
