use Rattle.std.proofs.Common.{◌≡◌, take}
use Rattle.std.specs.Prelude.{fold}
use Rattle.gu_ids.specs.Hashing.{taken}
use Rattle.gu_ids.proofs.hash.take_long_id.Given as goal

-- the words so far are taken in
abbrev pub invariant-loop-place : goal.invariant-loop-place
invariant-loop-place l = l.taken ≡ fold taken l.initial.taken (take l.place l.words)
