use Rattle.std.proofs.Common.{◌≡◌, ◌+◌, drop}
use Rattle.gu_roll.specs.Opened.{has_waiting}
use Rattle.gu_roll.proofs.waiting.waits_among.Given as goal

abbrev pub invariant-loop-place : goal.invariant-loop-place
invariant-loop-place l =
    has_waiting l.decided l.number (l.place + 1) l.by (drop l.place l.parts)
    ≡ has_waiting l.decided l.number 1 l.by l.parts
