use Rattle.gu_book.proofs.rules.refusals.parts_sum.Given as goal
use Rattle.std.proofs.Common.{sum_by, take, ◌*◌, ◌^◌, ◌≡◌, ◌≤◌}

abbrev pub invariant-loop-part : goal.invariant-loop-part
invariant-loop-part l = (l.sum ≡ sum_by (λ p. p.lots) (take l.part-index l.parts)) × (l.sum ≤ l.part-index * 2 ^ 64)
