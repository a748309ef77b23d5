use Rattle.std.proofs.Common.{◌≡◌, ◌++◌, drop}
use Rattle.std.specs.List.{flat_map}
use Rattle.gu_log.specs.Values.{escaped}
use Rattle.gu_log.proofs.value.push_each.Given as goal

abbrev pub invariant-loop-byte : goal.invariant-loop-byte
invariant-loop-byte l =
    l.line.items ++ flat_map escaped (drop l.byte-index l.text) ≡ l.initial.line.items ++ flat_map escaped l.text
