use Rattle.std.proofs.Common.{◌≡◌, ◌+◌, length}
use Rattle.std.specs.Prelude.{decimal}
use Rattle.gu_codec.proofs.writing.decimal_len.Given as goal

abbrev pub invariant-fours : goal.invariant-fours
invariant-fours l = l.len + length (decimal l.rest) ≡ length (decimal l.number)

abbrev pub decreases-fours : goal.decreases-fours
decreases-fours l = l.rest
