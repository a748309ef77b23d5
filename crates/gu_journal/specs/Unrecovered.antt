-- The disk of what a recovery gives.
use Rattle.std.specs.Prelude.{Result, Ok, Err}
use Rattle.gu_journal.specs.declared.recovering.Unrecovered.{Unrecovered}

-- the disk of what is recovered, and of what isn't
abbrev pub disk_in : {A D : Type 0} → (A → D) → Result A (Unrecovered D) → D
disk_in disk_of (Ok x) = disk_of x
disk_in disk_of (Err e) = e.disk
