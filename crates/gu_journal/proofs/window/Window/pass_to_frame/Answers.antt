use Rattle.gu_journal.proofs.window.Window.pass_to_frame.Goals as goal
use Rattle.gu_journal.proofs.{Reading.{passed_to, strange_within}, Vocabulary.{ap, drop, Held, subst, sym, ℕ, ◌+◌, ◌≡◌}}

pub returns-clause-within : goal.returns-clause-within
returns-clause-within c = strange_within c.args.self.now.bytes c.requires.some

pub returns-clause-passed : goal.returns-clause-passed
returns-clause-passed c =
    let held = sym (ap (λ (h : Held). h.bytes) c.self.view_is) in
    let was = c.args.self.now in
    subst (λ (n : ℕ). c.pass.new.self ≡ record { at = was.at + n; bytes = drop n was.bytes })
    (passed_to c.self.inside.taken c.strange_in-strange.result c.self.inside.buffer.items c.deref.result.now
    was.bytes held c.deref.ensures.value c.strange_in-strange.ensures.value) c.pass.ensures
