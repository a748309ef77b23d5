use Rattle.std.proofs.Common.{◌≡◌, ◌≤◌, ◌++◌, List, length, drop}
use Rattle.gu_base.specs.declared.report.Report.{Report}
use Rattle.gu_trace.specs.Filling.{told_of_numbers, filled}
use Rattle.gu_trace.proofs.telling.tell_numbers.Given as goal

abbrev pub invariant-loop-number : goal.invariant-loop-number
invariant-loop-number l = record {
  bound : length l.found.items ≤ 100;
  so_far : (others : List Report) → filled l.found.items (told_of_numbers l.book.house.house l.book.history l.firm
      (drop l.number-index l.numbers) ++ others)
      ≡ filled l.initial.found.items (told_of_numbers l.book.house.house l.book.history l.firm l.numbers ++ others);
}
