use Rattle.std.proofs.Common.{◌≡◌, None}
use Rattle.gu_statement.proofs.hearing.Hearing.hear_all.Given as goal

-- the stream isn't broken
abbrev pub invariant-reads : goal.invariant-reads
invariant-reads g l = l.feed.broken ≡ None
