use Rattle.gu_depend.proofs.standing.standing_beside.Goals as goal
use Rattle.gu_depend.proofs.{ReadOff.{count_beside, read_beside}, Vocabulary.{None, Some, ◌∙◌}}

pub returns-in-Some-clause-first : goal.returns-in-Some-clause-first
returns-in-Some-clause-first c = λ t l rises legal are none.
    c.first_standing.ensures
    ∙ read_beside t l c.args.terms.now are rises legal c.args.k none (Some c.in-Some.row.now)
    (rw c.in-Some.is at c.row_beside.ensures)

pub returns-in-None-clause-first : goal.returns-in-None-clause-first
returns-in-None-clause-first c = λ t l rises legal are none.
    read_beside t l c.args.terms.now are rises legal c.args.k none None (rw c.in-None.is at c.row_beside.ensures)

pub returns-in-Some-clause-count : goal.returns-in-Some-clause-count
returns-in-Some-clause-count c = λ t l are.
    c.entry_count.ensures.value
    ∙ count_beside t l c.args.terms.now are c.args.k (Some c.in-Some.row.now)
    (rw c.in-Some.is at c.row_beside.ensures)

pub returns-in-None-clause-count : goal.returns-in-None-clause-count
returns-in-None-clause-count c = λ t l are.
    count_beside t l c.args.terms.now are c.args.k None (rw c.in-None.is at c.row_beside.ensures)
