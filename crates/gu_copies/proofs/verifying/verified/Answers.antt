use Rattle.std.proofs.Common.{subst, refl, ℕ, List}
use Rattle.gu_journal.specs.Counting.{Recovers}
use Rattle.gu_journal.specs.Damages.{HasNoLater}
use Rattle.gu_copies.proofs.verifying.verified.Goals as goal

pub returns-in-Ok-line-clause-line : goal.returns-in-Ok-line-clause-line
returns-in-Ok-line-clause-line c =
    let t = c.args.house in
    let pin = c.args.pin.now.bytes in
    let h = c.in-Ok.field-0.book.history in
    let kept = c.in-Ok.ensures.keeps refl in
    record {
      recovers = subst (λ (f : List ℕ). Recovers t pin f h) c.new-disk.ensures (c.in-Ok.ensures.book refl);
      later = subst (λ (f : List ℕ). HasNoLater t pin f h) c.new-disk.ensures (c.in-Ok.ensures.later refl);
      bytes = kept.bytes;
      journal = kept.is_journal;
      says = c.in-Ok-line.ensures t pin h kept;
    }
