use Rattle.std.proofs.Common.{◌≡◌, ◌++◌, drop}
use Rattle.std.specs.Prelude.{string_bytes, flat_map}
use Rattle.gu_base.specs.History.{live}
use Rattle.gu_trace.specs.Totals.{position_in}
use Rattle.gu_trace.proofs.day_totals.append_positions.Given as goal

abbrev pub invariant-loop-place : goal.invariant-loop-place
invariant-loop-place l =
    string_bytes l.text
    ++ flat_map (λ a. flat_map (position_in (live l.book.history) a) l.book.house.instruments)
    (drop l.place l.book.house.accounts)
    ≡ string_bytes l.initial.text
    ++ flat_map (λ a. flat_map (position_in (live l.book.history) a) l.book.house.instruments) l.book.house.accounts
