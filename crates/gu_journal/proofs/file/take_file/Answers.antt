use Rattle.gu_journal.proofs.file.take_file.Goals as goal
use Rattle.gu_journal.proofs.{Looping.reads_on, Reasons.finds_told, Settling.{counts_of, on_both, on_done}}
use Rattle.gu_journal.proofs.Vocabulary.{ap, arith, length, rules, sym, ◌∙◌}

pub check_rest-requires-clause-within : goal.check_rest-requires-clause-within
check_rest-requires-clause-within g c =
    let goes = c.in_ok-take_frames.ensures.finds.goes in
    omega (arith, goes.within, goes.fewer)

pub check_rest-requires-clause-size : goal.check_rest-requires-clause-size
check_rest-requires-clause-size g c h =
    c.requires.size (c.take_frames.ensures.reads.clean h) ∙ sym (ap length c.take_frames.ensures.reads.same)

pub check_rest-requires-clause-front : goal.check_rest-requires-clause-front
check_rest-requires-clause-front g c = omega (arith, c.at.ensures)

pub returns-clause-reads : goal.returns-clause-reads
returns-clause-reads g c = reads_on c.take_frames.ensures.reads c.check_rest.ensures.reads

pub returns-clause-counts : goal.returns-clause-counts
returns-clause-counts g c =
    let finds = c.in_ok-take_frames.ensures.finds in
    on_done _ c.check_rest.ensures.cut c.check_rest.ensures.none
    (λ cut none. counts_of finds c.check_rest.ensures.reads.clean
    (λ h. c.requires.size (c.take_frames.ensures.reads.clean h)) (omega (arith, finds.all, cut))
    (λ h seal. none h (rw (c.take_frames.ensures.reads.same, c.at.ensures) seal)))

pub returns-clause-cause : goal.returns-clause-cause
returns-clause-cause g c =
    on_both _ c.check_rest.ensures.place c.check_rest.ensures.cause
    (finds_told c.in_ok-take_frames.ensures.finds c.check_rest.ensures.reads.clean
    (λ h. c.requires.size (c.take_frames.ensures.reads.clean h)) (search rules) (search rules)
    c.take_frames.ensures.reads.same)
