use Rattle.std.proofs.Common.{◌≡◌, ◌++◌, drop}
use Rattle.std.specs.Prelude.{string_bytes, flat_map}
use Rattle.gu_trace.proofs.Made.{made_at}
use Rattle.gu_trace.proofs.day_totals.append_made.Given as goal

abbrev pub invariant-loop-number : goal.invariant-loop-number
invariant-loop-number l =
    string_bytes l.text ++ flat_map (made_at l.book.house l.book.history) (drop l.number-index l.number-items)
    ≡ string_bytes l.initial.text ++ flat_map (made_at l.book.house l.book.history) l.number-items
