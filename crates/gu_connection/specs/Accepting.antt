-- What a server does where accept gives it no connection.
use Rattle.std.specs.Prelude.{ℕ, ℤ, pos, ◌==◌, if◌then◌else◌, List, [], ◌∷◌, Option, Some}
use Rattle.std.specs.List.{list_any}
use Rattle.gu_connection.specs.declared.accepting.AfterFault.{AfterFault}
use Rattle.gu_connection.specs.declared.accepting.AfterFault.TheVariants.{AsksAgain, Waits, Ends}

-- the faults of the listener itself, by Linux's numbers: EBADF, EINVAL, ENOTSOCK
abbrev pub of_listener : List ℕ
of_listener = 9 ∷ 22 ∷ 88 ∷ []

-- want of memory, of descriptors in the system and in the process, and of buffers
abbrev pub lacking : List ℕ
lacking = 12 ∷ 23 ∷ 24 ∷ 105 ∷ []

-- what is done behind the fault of this number
abbrev pub numbered : ℕ → AfterFault
numbered n =
    if list_any (λ m. m == n) of_listener then Ends
    else if list_any (λ m. m == n) lacking then Waits else AsksAgain

-- what is done behind a fault of accept; one that has no number is the runtime's own
abbrev pub outcome_of : Option ℤ → AfterFault
outcome_of (Some (pos n)) = numbered n
outcome_of _ = Ends
