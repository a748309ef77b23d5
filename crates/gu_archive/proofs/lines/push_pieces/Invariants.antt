use Rattle.std.proofs.Common.{length, ◌-◌, ◌≤◌, take}
use Rattle.gu_archive.specs.Lines.{AppendsSaid}
use Rattle.gu_archive.proofs.lines.push_pieces.Given as goal

abbrev pub invariant-loop-at : goal.invariant-loop-at
invariant-loop-at l = (l.at ≤ length l.bytes)
    × AppendsSaid l.front.moment.now.text l.front.connection l.way l.initial.line.items l.line.items (take l.at l.bytes)

abbrev pub decreases-loop-at : goal.decreases-loop-at
decreases-loop-at l = length l.bytes - l.at
