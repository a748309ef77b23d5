-- What an archive keeps of a connection between two lines.
use Rattle.std.specs.Prelude.{◌≡◌, ◌++◌}
use Rattle.gu_archive.specs.Lines.{Text, AppendsSaid}
use Rattle.gu_archive.specs.declared.tap.Tap.{Tap}
use Rattle.gu_archive.specs.declared.lines.Way.TheVariants.{In}

-- what came stands in the lines or waits, behind what had waited, each byte once and in order
abbrev pub Hears : Text → Tap → Tap → Text → Text → Text → Type 0
Hears moment before after lines new bytes = (said : Text)
    × AppendsSaid moment before.number In lines new said
    × (before.incoming.items ++ bytes ≡ said ++ after.incoming.items)
