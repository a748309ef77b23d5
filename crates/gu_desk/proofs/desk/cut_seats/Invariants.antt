use Rattle.std.proofs.Common.{◌≡◌, ◌+◌, vec_len, All}
use Rattle.gu_desk.proofs.desk.cut_seats.Given as goal

abbrev pub invariant-loop : goal.invariant-loop
invariant-loop g l = record {
  parts : l.opening.parts + l.counter ≡ l.workers + 1;
  amount : l.opening.amount ≡ 0;
  seats : vec_len l.seats ≡ l.counter;
  shares : All (λ s. s.share ≡ 0) l.seats.items;
  table : l.pass.table_id ≡ l.initial.pass.table_id;
  same : l.pass.me ≡ l.initial.pass.me;
  seen : All (λ s. s.seen ≡ l.initial.pass.me.0.seen) l.seats.items;
}
