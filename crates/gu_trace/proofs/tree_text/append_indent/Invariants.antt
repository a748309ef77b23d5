use Rattle.std.proofs.Common.{◌≡◌, ◌-◌, ◌++◌}
use Rattle.std.specs.Prelude.{string_bytes}
use Rattle.gu_trace.specs.Trace.{indent}
use Rattle.gu_trace.proofs.tree_text.append_indent.Given as goal

abbrev pub invariant-loop-level : goal.invariant-loop-level
invariant-loop-level l =
    string_bytes l.text ++ indent (l.depth - l._level) ≡ string_bytes l.initial.text ++ indent l.depth
