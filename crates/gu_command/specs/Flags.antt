-- What a flag of the command line means.
use Rattle.std.specs.Prelude.{Bool, false, bytes_eq, Option, Some, None, codes}
use Rattle.clap.specs.Words.{Text}

-- whether it was given
abbrev pub flag_meant : Option Text → Bool
flag_meant None = false
flag_meant (Some word) = bytes_eq word (codes "true")
