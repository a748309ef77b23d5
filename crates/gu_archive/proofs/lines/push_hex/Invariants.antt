use Rattle.std.proofs.Common.{◌≡◌, ◌++◌, drop}
use Rattle.std.specs.List.{flat_map}
use Rattle.gu_archive.specs.Lines.{hex_pair}
use Rattle.gu_archive.proofs.lines.push_hex.Given as goal

abbrev pub invariant-loop-byte : goal.invariant-loop-byte
invariant-loop-byte l =
    l.line.items ++ flat_map hex_pair (drop l.byte-index l.bytes) ≡ l.initial.line.items ++ flat_map hex_pair l.bytes
