use Rattle.gu_journal.proofs.recovering.journal_over.Goals as goal
use Rattle.gu_journal.proofs.{Resting.{bare_of, keeps_rest, new_has, rest_has, rest_starts}, Vocabulary.{ap, ◌∙◌}}
use Rattle.gu_store.specs.Store.{disk_of}
use Rattle.std.proofs.lemmas.Result.{IfOk-weaker}

-- ---- where there is no head

pub returns-then-rest-clause-keeps : goal.returns-then-rest-clause-keeps
returns-then-rest-clause-keeps g c t h taken r =
    let b = bare_of r c.if-rest.true in
    IfOk-weaker c.begun_over.result _ _ (λ j k. rw b.1 k) (c.begun_over.ensures.keeps t b.0)

pub returns-then-rest-clause-crash : goal.returns-then-rest-clause-crash
returns-then-rest-clause-crash g c t h taken c' r left = new_has r c.if-rest.true c'

pub returns-then-rest-clause-mixed : goal.returns-then-rest-clause-mixed
returns-then-rest-clause-mixed g c all t h taken c' r left =
    let b = bare_of r c.if-rest.true in
    (rw b.1 (c.begun_over.ensures.mixed all t c' b.0 left), λ old. let new = c.if-rest.true in cc)

-- ---- behind a head

pub returns-clause-keeps : goal.returns-clause-keeps
returns-clause-keeps g c t h taken r =
    keeps_rest r c.if-rest.false c.new-store.ensures.disk c.new-store.ensures.end c.new-store.ensures.left
    c.at_rest.ensures.store c.at_rest.ensures.house c.at_rest.ensures.next c.at_rest.ensures.hasher

pub returns-clause-crash : goal.returns-clause-crash
returns-clause-crash g c t h taken c' r left =
    rest_has r (ap disk_of c.at_rest.ensures.store ∙ c.new-store.ensures.disk) c' left

pub returns-clause-mixed : goal.returns-clause-mixed
returns-clause-mixed g c all t h taken c' r left =
    rest_starts r c.if-rest.false (ap disk_of c.at_rest.ensures.store ∙ c.new-store.ensures.disk) c' left
