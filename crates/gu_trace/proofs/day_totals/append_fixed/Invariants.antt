use Rattle.std.proofs.Common.{◌≡◌, ◌++◌, drop}
use Rattle.std.specs.Prelude.{string_bytes, flat_map}
use Rattle.gu_base.specs.History.{live}
use Rattle.gu_trace.specs.Totals.{fixed_line}
use Rattle.gu_trace.proofs.day_totals.append_fixed.Given as goal

abbrev pub invariant-loop-place : goal.invariant-loop-place
invariant-loop-place l =
    string_bytes l.text
    ++ flat_map (fixed_line l.book.house (live l.book.history)) (drop l.place l.book.house.agreements)
    ≡ string_bytes l.initial.text ++ flat_map (fixed_line l.book.house (live l.book.history)) l.book.house.agreements
