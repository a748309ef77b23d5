use Rattle.std.proofs.Common.{◌≡◌, ◌≤◌, ◌+◌, ◌-◌, ◌*◌, ◌++◌, length, drop, vec_len}
use Rattle.std.specs.Prelude.{vec_capacity}
use Rattle.std.specs.List.{flat_map}
use Rattle.gu_codec.specs.Writing.{fields_text}
use Rattle.gu_message.specs.AllocationReport.{part_fields}
use Rattle.gu_message.proofs.allocation_report.append_each.Given as goal

abbrev pub invariant-loop-part : goal.invariant-loop-part
invariant-loop-part l = record {
  told : l.out.items ++ flat_map (λ p. fields_text (part_fields p)) (drop l.part-index l.parts)
      ≡ l.initial.out.items ++ flat_map (λ p. fields_text (part_fields p)) l.parts;
  room : vec_len l.out + 256 * (length l.parts - l.part-index) ≤ vec_capacity l.out;
  len : vec_len l.out ≤ vec_len l.initial.out + 256 * l.part-index;
}
