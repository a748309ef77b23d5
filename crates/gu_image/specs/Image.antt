-- A file in memory.
use Rattle.std.specs.Prelude.{◌≡◌, ℕ, List}
use Rattle.gu_image.specs.declared.Image.{Image}

-- its bytes
abbrev pub seen_of : Image → List ℕ
seen_of m = m.bytes.items

-- what a crash may leave: these alone
abbrev pub leaves : Image → List ℕ → Type 0
leaves m c = c ≡ seen_of m
