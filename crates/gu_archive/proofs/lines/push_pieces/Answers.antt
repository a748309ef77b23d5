use Rattle.std.proofs.Common.{rules, arith, ◌+◌, ◌-◌}
use Rattle.gu_archive.proofs.Pieces.{said_on}
use Rattle.gu_archive.proofs.lines.push_pieces.Goals as goal

pub loop-at-preserved : goal.loop-at-preserved
loop-at-preserved c =
    let at = c.loop-at.at in
    let len = c.in-Some.len in (
      search rules,
      said_on c.args.front.moment.now.text c.args.front.connection c.args.way c.args.line.now.items
          c.loop-at.line.items c.push_piece.new.line.items c.args.bytes.now at len (at + len - at) c.in-Some.is_plain
          (omega arith) c.loop-at.invariant.1 c.in_ok-push_piece.ensures,
    )
