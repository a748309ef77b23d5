use Rattle.std.proofs.Common.{◌≡◌, ◌++◌, drop}
use Rattle.gu_roll.specs.Reopened.{begun_under}
use Rattle.gu_roll.proofs.opening.begun_under.Given as goal

abbrev pub invariant-loop-place : goal.invariant-loop-place
invariant-loop-place l = record {
  house : l.book.house ≡ l.house;
  behind : l.book.history ++ drop l.place l.entries ≡ begun_under l.house l.entries;
}
