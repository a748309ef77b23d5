-- With which status the program ends, and which faults are those of a kept book.
use Rattle.std.specs.Prelude.{ℕ, Bool, true, false}
use Rattle.gu_command.specs.declared.fault.Fault.{Fault}
use Rattle.gu_command.specs.declared.fault.Fault.TheVariants.{Usage, Journal, Keep, Run}
use Rattle.gu_batch.specs.declared.batch.RunError.TheVariants.{Memory}

-- 2 where the command line isn't one of the program's, else 1
abbrev pub status_of : Fault → ℕ
status_of (Usage text) = 2
status_of _ = 1

-- memory ran out
abbrev pub no_memory : Fault
no_memory = Run Memory

-- what can be wrong with a journal, and with a server whose book it keeps
abbrev pub is_keep_fault : Fault → Bool
is_keep_fault (Journal text) = true
is_keep_fault (Keep error) = true
is_keep_fault _ = false
