use Rattle.std.proofs.Common.{◌++◌, take}
use Rattle.gu_recorder.proofs.made.sent_behind.Given as goal

-- the front of what was made, behind what was sent
abbrev pub ghost-note : goal.ghost-note
ghost-note a = a.from.now.0.now.bytes ++ take a.from.now.2 a.from.now.1.now.bytes
