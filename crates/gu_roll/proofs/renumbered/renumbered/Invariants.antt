use Rattle.std.proofs.Common.{◌≡◌, ◌++◌, drop}
use Rattle.std.specs.List.{filter_map}
use Rattle.gu_roll.specs.Numbering.{entry_at_number, new_in}
use Rattle.gu_roll.proofs.renumbered.renumbered.Given as goal

abbrev pub invariant-loop-number : goal.invariant-loop-number
invariant-loop-number l =
    l.entries.items ++ filter_map (entry_at_number (new_in l.table) l.history) (drop l.number-index l.numbers)
    ≡ filter_map (entry_at_number (new_in l.table) l.history) l.numbers
