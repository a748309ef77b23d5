use Rattle.std.proofs.Common.{◌≡◌, ◌+◌, ◌≤◌, length, All}
use Rattle.std.specs.List.{sum_by}
use Rattle.gu_desk.specs.Begins.{BeginsWith}
use Rattle.gu_desk.proofs.till.merge_seats.Given as goal

abbrev pub invariant-loop-seat : goal.invariant-loop-seat
invariant-loop-seat g l = record {
  parts : l.all.parts ≡ l.initial.all.parts + length l.yielded;
  amount : l.all.amount ≡ l.initial.all.amount + sum_by (λ s. s.share) l.yielded;
  apart : 1 ≤ length l.yielded → l.all.parts ≤ g.J.Ledger.parts;
  table : l.pass.table_id ≡ l.initial.pass.table_id;
  same : l.pass.me ≡ l.initial.pass.me;
  begins : All (λ s. BeginsWith l.initial.pass.me.0.seen s.seen) l.yielded;
}
