use Rattle.std.proofs.Common.{◌≡◌, ◌+◌, ◌∙◌, sym, rules, true, false}
use Rattle.std.specs.Prelude.{slice_get}
use Rattle.gu_roll.specs.Lack.{same_options}
use Rattle.gu_roll.proofs.Apart.{told_apart}
use Rattle.gu_roll.proofs.opening.first_other_line.Goals as goal

pub returns-then-not-are_same_made : goal.returns-then-not-are_same_made
returns-then-not-are_same_made c =
    let n = c.loop-place.place in
    let apart : same_options (slice_get c.args.house.now.opening n) (slice_get c.args.lines.now n) ≡ false =
    search rules in
    sym (told_apart (n + 1) n c.args.house.now.opening c.args.lines.now false apart) ∙ c.loop-place.invariant

pub loop-place-preserved : goal.loop-place-preserved
loop-place-preserved c =
    let n = c.loop-place.place in
    let same : same_options (slice_get c.args.house.now.opening n) (slice_get c.args.lines.now n) ≡ true =
    search rules in
    sym (told_apart (n + 1) n c.args.house.now.opening c.args.lines.now true same) ∙ c.loop-place.invariant
