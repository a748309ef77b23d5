use Rattle.std.proofs.Common.{◌≡◌, ◌≤◌, length}
use Rattle.gu_trace.specs.Filling.{told_from, filled}
use Rattle.gu_trace.proofs.telling.tell_from.Given as goal

abbrev pub invariant-loop-place : goal.invariant-loop-place
invariant-loop-place l = record {
  bound : length l.found.items ≤ 100;
  so_far : filled l.found.items (told_from l.book.house.house l.book.history l.firm l.place)
      ≡ filled l.initial.found.items (told_from l.book.house.house l.book.history l.firm l.from);
}
