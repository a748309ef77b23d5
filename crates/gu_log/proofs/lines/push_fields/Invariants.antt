use Rattle.std.proofs.Common.{◌≡◌, ◌++◌, drop, map}
use Rattle.gu_log.specs.Lines.{field_pair, fields_text}
use Rattle.gu_log.proofs.lines.push_fields.Given as goal

abbrev pub invariant-loop-field : goal.invariant-loop-field
invariant-loop-field l = l.line.items ++ fields_text (map field_pair (drop l.field-index l.fields))
    ≡ l.initial.line.items ++ fields_text (map field_pair l.fields)
