use Rattle.std.proofs.Common.{◌≡◌, ◌+◌, ◌∙◌, sym, rules, true, false}
use Rattle.std.specs.Prelude.{slice_get}
use Rattle.gu_roll.specs.Lack.{same_options}
use Rattle.gu_roll.proofs.Apart.{told_apart}
use Rattle.gu_roll.proofs.extending.first_other_opening.Goals as goal

pub returns-then-not-are_same_made : goal.returns-then-not-are_same_made
returns-then-not-are_same_made c =
    let n = c.loop-place.place in
    let apart : same_options (slice_get c.args.new.now.opening n) (slice_get c.args.old.now.opening n) ≡ false =
    search rules in
    sym (told_apart (n + 1) n c.args.new.now.opening c.args.old.now.opening false apart) ∙ c.loop-place.invariant

pub loop-place-preserved : goal.loop-place-preserved
loop-place-preserved c =
    let n = c.loop-place.place in
    let same : same_options (slice_get c.args.new.now.opening n) (slice_get c.args.old.now.opening n) ≡ true =
    search rules in
    sym (told_apart (n + 1) n c.args.new.now.opening c.args.old.now.opening true same) ∙ c.loop-place.invariant
