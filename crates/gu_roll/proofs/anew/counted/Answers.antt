use Rattle.std.proofs.Common.{ℕ, List, refl, subst}
use Rattle.gu_journal.specs.Damages.{HasNoLater}
use Rattle.gu_roll.proofs.anew.counted.Goals as goal

pub returns-in-Ok-form_of-clause-later : goal.returns-in-Ok-form_of-clause-later
returns-in-Ok-form_of-clause-later c =
    subst (λ (f : List ℕ). HasNoLater c.args.house c.args.pin.now.bytes f c.in-Ok.field-0.book.history)
    c.new-disk.ensures (c.in-Ok.ensures.later refl)
