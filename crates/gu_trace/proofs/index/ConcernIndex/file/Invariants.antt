use Rattle.std.proofs.Common.{◌≡◌, ◌≤◌}
use Rattle.gu_trace.specs.Index.{IsIndexOf}
use Rattle.gu_trace.proofs.index.ConcernIndex.file.Given as goal

abbrev pub invariant-loop-place : goal.invariant-loop-place
invariant-loop-place l = record {
  goes_with : IsIndexOf l.book.house.house l.book.history l.self;
  here : l.self.filed ≡ l.place;
  stays_filed : l.initial.self.filed ≤ l.self.filed;
}
