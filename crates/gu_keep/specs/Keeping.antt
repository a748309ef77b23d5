-- A server whose book is kept in a journal.
use Rattle.std.specs.Prelude.{◌≡◌, ℕ, List, Option, Result, Ok, Err}
use Rattle.gu_base.specs.House.{House}
use Rattle.gu_batch.specs.Traces.{WritesTotals}
use Rattle.gu_book.specs.Seen.{HouseAndHistory}
use Rattle.gu_connection.specs.Serving.{IsServed}
use Rattle.gu_command.specs.declared.fault.Fault.{Fault}
use Rattle.gu_command.specs.declared.fault.Fault.TheVariants.{Journal, Keep, Run}

-- a server ended without a book, and nothing was written, or the totals of its book were
abbrev pub Keeps : {A : Type 0} → House → Option (List ℕ) → Option (List ℕ) → ℕ → ℕ
    → Result A Fault → Type 0
Keeps {A} house old new failed_before failed (Ok x) =
    (book : HouseAndHistory) × IsServed house book
    × WritesTotals {A = A} book.house book.history old new failed_before failed (Ok x)
Keeps {A} house old new failed_before failed (Err (Journal text)) =
    (new ≡ old) × (failed ≡ failed_before)
Keeps {A} house old new failed_before failed (Err (Keep error)) =
    (new ≡ old) × (failed ≡ failed_before)
Keeps {A} house old new failed_before failed (Err (Run error)) =
    (book : HouseAndHistory) × IsServed house book
    × WritesTotals {A = A} book.house book.history old new failed_before failed (Err error)
Keeps {A} house old new failed_before failed (Err _) = ⊥
