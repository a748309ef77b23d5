use Rattle.gu_depend.proofs.standing.first_standing.Goals as goal
use Rattle.gu_depend.proofs.{ReadOff.{none_where_legal, nothing_placed, read_off}, Vocabulary.{sym, ◌∙◌}}

pub returns-in-None-clause-first : goal.returns-in-None-clause-first
returns-in-None-clause-first g c = λ t l rises legal shows are.
    let absent = rw c.in-None.is at c.named.ensures.absent in
    c.first_standing.ensures
    ∙ (read_off t l c.args.terms.now are c.args.k
    (sym (shows.places c.args.k) ∙ absent)
    ∙ nothing_placed c.args.trees.now t l rises legal shows c.args.k absent)

pub returns-in-None-clause-none : goal.returns-in-None-clause-none
returns-in-None-clause-none g c = λ t l rises legal shows are.
    none_where_legal t l c.args.k c.first_standing.result (returns-in-None-clause-first g c t l rises legal shows are)

pub returns-in-Some-clause-first : goal.returns-in-Some-clause-first
returns-in-Some-clause-first g c = λ t l rises legal shows are.
    c.first_standing_at.ensures t l c.args.trees.now c.named.new.path.items rises legal shows
    (rw c.in-Some.is at c.named.ensures.found) (rw c.in-Some.is at c.named.ensures.node)

pub returns-in-Some-clause-none : goal.returns-in-Some-clause-none
returns-in-Some-clause-none g c = λ t l rises legal shows are.
    none_where_legal t l c.args.k c.first_standing_at.result
    (returns-in-Some-clause-first g c t l rises legal shows are)
