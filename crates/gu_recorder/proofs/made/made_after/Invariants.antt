use Rattle.std.proofs.Common.{drop}
use Rattle.gu_recorder.proofs.made.made_after.Given as goal

-- all but so many at the front
abbrev pub ghost-note : goal.ghost-note
ghost-note a = drop a.from.now.1 a.from.now.0.now.bytes
