use Rattle.std.proofs.Common.{◌++◌, ◌<◌, arith}
use Rattle.std.specs.Prelude.{string_bytes}
use Rattle.gu_trace.specs.Trace.{indent}
use Rattle.gu_trace.proofs.Texts.{indented}
use Rattle.gu_trace.proofs.tree_text.append_indent.Goals as goal

pub loop-level-preserved : goal.loop-level-preserved
loop-level-preserved c =
    let within : c.loop-level._level < c.args.depth = omega arith in
    indented c.args.depth c.loop-level._level (string_bytes c.loop-level.text) (string_bytes c.push_str.new.self)
    (string_bytes c.args.text.now ++ indent c.args.depth) within c.in_ok-push_str.ensures.bytes c.loop-level.invariant
