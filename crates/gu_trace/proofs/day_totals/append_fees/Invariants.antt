use Rattle.std.proofs.Common.{◌≡◌, ◌++◌, drop}
use Rattle.std.specs.Prelude.{string_bytes, flat_map}
use Rattle.gu_base.specs.History.{live}
use Rattle.gu_trace.specs.Totals.{fees_of}
use Rattle.gu_trace.proofs.day_totals.append_fees.Given as goal

abbrev pub invariant-loop-place : goal.invariant-loop-place
invariant-loop-place l =
    string_bytes l.text ++ flat_map (fees_of l.book.house (live l.book.history)) (drop l.place l.book.house.firms)
    ≡ string_bytes l.initial.text ++ flat_map (fees_of l.book.house (live l.book.history)) l.book.house.firms
