use Rattle.std.proofs.Common.{◌≡◌, ◌++◌, drop}
use Rattle.std.specs.Prelude.{string_bytes, flat_map}
use Rattle.gu_tree.specs.Shown.{shown}
use Rattle.gu_trace.specs.Trace.{line_of}
use Rattle.gu_trace.proofs.tree_text.append_lines.Given as goal

abbrev pub invariant-loop-row : goal.invariant-loop-row
invariant-loop-row l =
    string_bytes l.text ++ flat_map (λ r. line_of l.book.house l.book.history (shown r)) (drop l.row-index l.rows)
    ≡ string_bytes l.initial.text ++ flat_map (λ r. line_of l.book.house l.book.history (shown r)) l.rows
