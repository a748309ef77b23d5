use Rattle.std.proofs.Common.{ℕ, subst}
use Rattle.gu_recorder.specs.Replicas.{HasAnswered}
use Rattle.gu_recorder.proofs.disk_journal.DiskJournal.replicated.Goals as goal

-- the answer is of as many entries as the journal says
pub returns-then-answered-clause-answered : goal.returns-then-answered-clause-answered
returns-then-answered-clause-answered g c t pin h kept =
    subst (λ (n : ℕ). HasAnswered c.answered.new.replica n) (c.entries-count.ensures.kept t pin h kept)
    (c.answered.ensures.yes c.if-answered.true)
