use Rattle.std.proofs.Common.{◌≡◌, ◌≤◌, length, drop}
use Rattle.gu_codec.specs.Fields.{fields_of}
use Rattle.gu_message.specs.Finding.{entries}
use Rattle.gu_message.specs.SplitParts.{counted_of, with_front}
use Rattle.gu_message.proofs.split.read_plain.Given as goal

abbrev pub invariant-plain : goal.invariant-plain
invariant-plain l = record {
  within : l.at ≤ length l.bytes;
  rest : with_front l.parts.items (counted_of l.by l.left (entries 79 (fields_of (drop l.at l.bytes))))
      ≡ with_front l.initial.parts.items (counted_of l.by l.count (entries 79 (fields_of l.bytes)));
}

abbrev pub decreases-plain : goal.decreases-plain
decreases-plain l = l.left
