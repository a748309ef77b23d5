use Rattle.gu_journal.proofs.recovering.begin.Goals as goal
use Rattle.gu_journal.proofs.{Groups.{head_no_zero, head_some}, Resting.rest_counted, Vocabulary.{[], ◌∙◌}}

pub append-requires-clause-no_zero : goal.append-requires-clause-no_zero
append-requires-clause-no_zero g c =
    rw (c.deref.ensures.value, c.in_ok-text.ensures.group)
    (head_no_zero _ _ _ _ c.requires.named c.requires.moment c.are_bytes.ensures)

pub append-requires-clause-some : goal.append-requires-clause-some
append-requires-clause-some g c =
    rw (c.deref.ensures.value, c.in_ok-text.ensures.group) (head_some _ _ _ _)

-- nothing was asked of the disk
pub returns-in_err-text-clause-mixed : goal.returns-in_err-text-clause-mixed
returns-in_err-text-clause-mixed g c all c' is left =
    (0, rest_counted [] c' _ is.no_zero is.some (is.durable c' left ∙ is.file))

pub returns-in_err-append-clause-mixed : goal.returns-in_err-append-clause-mixed
returns-in_err-append-clause-mixed g c all c' is left =
    rw (c.deref.ensures.value, c.in_ok-text.ensures.group) at (c.append.ensures.mixed all [] c' is left)

pub returns-clause-mixed : goal.returns-clause-mixed
returns-clause-mixed g c all c' is left =
    rw (c.deref.ensures.value, c.in_ok-text.ensures.group) at (c.append.ensures.mixed all [] c' is left)

pub returns-clause-rest : goal.returns-clause-rest
returns-clause-rest g c is =
    rw (c.deref.ensures.value, c.in_ok-text.ensures.group) at (c.in_ok-append.ensures.rest [] is)
