use Rattle.std.proofs.Common.{◌≡◌, ◌++◌, drop}
use Rattle.std.specs.Prelude.{filter}
use Rattle.gu_roll.specs.Opened.{is_kept_by}
use Rattle.gu_roll.proofs.waiting.kept_of.Given as goal

abbrev pub invariant-loop-number : goal.invariant-loop-number
invariant-loop-number l =
    l.kept.items ++ filter (is_kept_by l.trades l.flags) (drop l.number-index l.numbers)
    ≡ filter (is_kept_by l.trades l.flags) l.numbers
