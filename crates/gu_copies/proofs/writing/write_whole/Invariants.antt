use Rattle.std.proofs.Common.{◌≡◌, ◌+◌, ◌-◌, ◌≤◌, length, take}
use Rattle.std.specs.Io.KnownBytes.{Appends}
use Rattle.gu_copies.proofs.writing.write_whole.Given as goal

abbrev pub invariant-pieces : goal.invariant-pieces
invariant-pieces g l = record {
  within : l.at ≤ length l.bytes;
  written : Appends (g.W.Sink.contents l.initial.writer) (g.W.Sink.contents l.writer) (take l.at l.bytes);
  calm : g.W.Sink.failed l.writer ≡ g.W.Sink.failed l.initial.writer;
}

-- each turn writes a byte more, or takes from the writer's patience
abbrev pub decreases-pieces : goal.decreases-pieces
decreases-pieces g l = (length l.bytes - l.at) + g.W.Sink.patience l.writer
