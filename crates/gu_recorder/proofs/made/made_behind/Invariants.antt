use Rattle.std.proofs.Common.{◌++◌}
use Rattle.gu_recorder.specs.Waiting.{made_of}
use Rattle.gu_recorder.proofs.made.made_behind.Given as goal

-- the bytes behind the others
abbrev pub ghost-note : goal.ghost-note
ghost-note g a = a.from.now.0.now.bytes ++ made_of a.from.now.1.now a.from.now.2.now.seen
