use Rattle.gu_journal.proofs.file.take_again.Goals as goal
use Rattle.gu_journal.proofs.{Settling.again_of, Vocabulary.{ap, arith, Held, rules, Sealed, ◌≡◌}}

pub returns-then-eq-clause-again : goal.returns-then-eq-clause-again
returns-then-eq-clause-again g c =
    let w : Held = c.take_frames.new.window in
    let at : w.at ≡ c.args.sealed =
    omega (arith, c.at.ensures, c.if-at-sealed.true, ap (λ (v : Held). v.at) c.window.view_is) in
    let stands : c.take_frames.new.replay.stand ≡ Sealed = search rules in
    again_of c.in_ok-take_frames.ensures.finds at stands
