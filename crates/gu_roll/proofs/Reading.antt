-- A frame at the front of some bytes has some of them.
use Rattle.std.proofs.Common.{◌<◌, ◌≤◌, ℕ, List, length, arith}
use Rattle.gu_codec.specs.Fronts.{IsFrontOf, Whole}
use Rattle.gu_codec.specs.Messages.{Message}
use Rattle.gu_codec.proofs.Streams.{frame_len}

pub frame_some : (s : List ℕ) (m : Message) (len : ℕ) → IsFrontOf s (Whole m len) → 0 < len
frame_some s m len is = let some : 21 ≤ len = frame_len s is.0 len is.1 in omega (arith, some)

pub frame_within : (s : List ℕ) (m : Message) (len : ℕ) → IsFrontOf s (Whole m len) → len ≤ length s
frame_within s m len is = is.1.within
