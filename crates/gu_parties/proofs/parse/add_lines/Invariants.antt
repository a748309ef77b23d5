use Rattle.std.proofs.Common.{◌≤◌, length, map}
use Rattle.gu_parties.specs.Words.{words, lines}
use Rattle.gu_parties.proofs.LinesRead.{Reads}
use Rattle.gu_parties.proofs.parse.add_lines.Given as goal

abbrev pub invariant-loop-here : goal.invariant-loop-here
invariant-loop-here l =
    Reads l.fn.house.house (map words (lines l.text)) (map words (lines l.rest)) l.line l.house × (l.line ≤ 100001)

abbrev pub decreases-loop-here : goal.decreases-loop-here
decreases-loop-here l = length l.rest
