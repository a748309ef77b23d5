-- What comes by way of a buffer and a writer.
use Rattle.std.specs.Prelude.{◌≡◌, ℕ, List, ◌++◌, Option}
use Rattle.std.specs.Io.KnownBytes.{Appends}

-- a writer that held `old` while `held` waited has gone on by this text: it holds `new` now, while
-- `left` waits
pub record Comes (old : Option (List ℕ)) (held : List ℕ) (new : Option (List ℕ)) (left : List ℕ)
    (text : List ℕ) : Type 0 where
  pub out : List ℕ
  pub written : Appends old new out
  pub whole : out ++ left ≡ held ++ text
