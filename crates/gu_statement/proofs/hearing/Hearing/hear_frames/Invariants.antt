use Rattle.std.proofs.Common.{◌≡◌, length, None}
use Rattle.gu_statement.proofs.hearing.Hearing.hear_frames.Given as goal

abbrev pub invariant-frames : goal.invariant-frames
invariant-frames l = l.feed.broken ≡ None

-- each frame takes bytes away
abbrev pub decreases-frames : goal.decreases-frames
decreases-frames l = length l.feed.held
