use Rattle.gu_journal.proofs.window.counted_len.Goals as goal
use Rattle.gu_journal.proofs.{Reading.place_of_zero, Vocabulary.{ap, length, unwrap_or, ◌∙◌}}

pub returns : goal.returns
returns c =
    c.unwrap_or.ensures ∙ ap (λ o. unwrap_or o (length c.args.bytes.now)) c.zero_in.ensures
    ∙ place_of_zero c.args.bytes.now
