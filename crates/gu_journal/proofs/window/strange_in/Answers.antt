use Rattle.gu_journal.proofs.window.strange_in.Goals as goal
use Rattle.gu_journal.proofs.{Reading.{frame_fits, place_of_frame}, Vocabulary.{ap, length, subst, sym, unwrap_or, ℕ}}
use Rattle.gu_journal.proofs.Vocabulary.{◌∙◌, ◌≤◌}

pub returns-clause-value : goal.returns-clause-value
returns-clause-value c =
    c.unwrap_or.ensures ∙ ap (λ o. unwrap_or o (length c.args.bytes.now)) c.frame_in.ensures
    ∙ place_of_frame c.args.bytes.now

pub returns-clause-few : goal.returns-clause-few
returns-clause-few c = subst (λ (n : ℕ). n ≤ length c.args.bytes.now) (sym (returns-clause-value c))
    (frame_fits c.args.bytes.now)
