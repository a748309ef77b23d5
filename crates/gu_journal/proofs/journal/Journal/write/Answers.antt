use Rattle.gu_journal.proofs.journal.Journal.write.Goals as goal
use Rattle.gu_journal.proofs.{Going.passed_on, Vocabulary.size_of}

pub returns-in_err-write_group-clause-cause : goal.returns-in_err-write_group-clause-cause
returns-in_err-write_group-clause-cause g c =
    passed_on c.from_residual-in_err-write_group.result c.from_residual-in_err-write_group.ensures
    (λ e is. rw is (rw c.in_ok-hasher.ensures.cases
    at (c.in_err-write_group.ensures.cause (size_of c.args.self.now.store))))
