use Rattle.std.proofs.Common.{◌≡◌, ◌+◌, ◌-◌, ◌≤◌, length}
use Rattle.std.specs.Io.KnownBytes.{Consumes}
use Rattle.gu_server.proofs.house_files.read_all.Given as goal

abbrev pub invariant-reads : goal.invariant-reads
invariant-reads g l = record {
  held : length l.text.items ≤ 16777216;
  consumed : Consumes (g.R.Source.remaining l.initial.file) (g.R.Source.remaining l.file) l.text.items;
  calm : g.R.Source.failed l.file ≡ g.R.Source.failed l.initial.file;
}

-- each turn reads a byte more, or takes from the reader's patience
abbrev pub decreases-reads : goal.decreases-reads
decreases-reads g l = (16777216 - length l.text.items) + g.R.Source.patience l.file
