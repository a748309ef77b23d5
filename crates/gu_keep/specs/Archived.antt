-- What of a connection stands in the archive.
use Rattle.std.specs.Prelude.{◌≤◌, ◌⊎◌, ℕ, List, Option, length, IsNone}
use Rattle.gu_archive.specs.declared.archive.Archive.{Archive}
use Rattle.gu_archive.specs.declared.tap.Tap.{Tap}

-- all of these bytes, which the peer hasn't taken, where there is an archive
abbrev pub HasAll : Option Archive → Tap → List ℕ → Type 0
HasAll archive tap bytes = IsNone archive ⊎ (length bytes ≤ tap.ahead)
