use Rattle.std.proofs.Common.{◌≡◌, ◌++◌, drop}
use Rattle.std.specs.List.{flat_map}
use Rattle.gu_status.specs.Samples.{label_byte}
use Rattle.gu_status.proofs.samples.push_label.Given as goal

abbrev pub invariant-loop-byte : goal.invariant-loop-byte
invariant-loop-byte l = l.text.items ++ flat_map label_byte (drop l.byte-index l.value) ≡ l.initial.text.items
    ++ flat_map label_byte l.value
