use Rattle.std.proofs.Common.{[]}
use Rattle.gu_recorder.proofs.made.nothing_made.Given as goal

-- none
abbrev pub ghost-note : goal.ghost-note
ghost-note a = []
