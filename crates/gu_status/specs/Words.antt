-- What an operator says.
use Rattle.std.specs.Prelude.{ℕ, Bool, bytes_eq, if◌then◌else◌, List, [], ◌∷◌, ◌++◌, Option, Some}
use Rattle.std.specs.Prelude.{None, codes}
use Rattle.gu_status.specs.Samples.{Text}
use Rattle.gu_status.specs.declared.snapshot.FirmEntries.{FirmEntries}
use Rattle.gu_status.specs.declared.words.FirmWord.{FirmWord}
use Rattle.gu_status.specs.declared.words.FirmWord.TheVariants.{Disconnect, Refuse, Admit}

-- the word of a firm that a path is
abbrev pub firm_word : Text → Option FirmWord
firm_word path = if bytes_eq path (codes "/disconnect") then Some Disconnect
    else if bytes_eq path (codes "/refuse") then Some Refuse
    else if bytes_eq path (codes "/admit") then Some Admit else None

-- a query names a firm
abbrev pub is_named : Text → Text → Bool
is_named query firm = bytes_eq query (codes "firm=" ++ firm)

-- the firm that a query names, if it is one of these
abbrev pub first_named : Text → List FirmEntries → Option Text
first_named query [] = None
first_named query (f ∷ fs) = if is_named query f.firm then Some f.firm else first_named query fs

abbrev pub firm_in : Option Text → List FirmEntries → Option Text
firm_in None firms = None
firm_in (Some query) firms = first_named query firms
