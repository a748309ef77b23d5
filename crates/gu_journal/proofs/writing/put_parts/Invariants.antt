use Rattle.gu_journal.proofs.writing.put_parts.Given as goal
use Rattle.gu_journal.proofs.Vocabulary.{drop, fields_text, length, parts_fields, take, ◌*◌, ◌++◌, ◌+◌, ◌-◌, ◌≡◌, ◌≤◌}

abbrev pub invariant-loop-part : goal.invariant-loop-part
invariant-loop-part l = record {
  told : take l.end l.bytes ++ fields_text (parts_fields (drop l.part-index l.parts)) ≡ take l.at l.initial.bytes ++
      fields_text (parts_fields l.parts);
  room : l.end + 200 * (length l.parts - l.part-index) ≤ length l.bytes;
  end : l.end ≤ l.at + 200 * l.part-index;
  len : length l.bytes ≡ length l.initial.bytes;
}
