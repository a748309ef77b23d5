use Rattle.std.proofs.Common.{◌≡◌, ◌++◌}
use Rattle.gu_trace.specs.Reports.{parts_shown}
use Rattle.gu_trace.proofs.Shown.{rest_shown}
use Rattle.gu_trace.proofs.telling.parts_shown.Given as goal

abbrev pub invariant-loop-place : goal.invariant-loop-place
invariant-loop-place l =
    l.shown.items ++ rest_shown l.firm l.number l.by l.parts l.place ≡ parts_shown l.firm l.number l.by l.parts
