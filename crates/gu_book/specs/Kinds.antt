-- Which command it is.
use Rattle.std.specs.Prelude.{◌≡◌, Bool, true, false}
use Rattle.gu_base.specs.declared.command.Command.{Command}
use Rattle.gu_base.specs.declared.command.Command.TheVariants.{Agree, Raise}

-- one that makes terms or raises their limit
abbrev pub is_of_terms : Command → Bool
is_of_terms (Agree _ _ _ _) = true
is_of_terms (Raise _ _) = true
is_of_terms _ = false

abbrev pub IsOfTerms : Command → Type 0
IsOfTerms c = is_of_terms c ≡ true
