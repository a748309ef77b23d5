use Rattle.std.proofs.Common.{◌≡◌, ◌+◌, ◌≤◌, length, drop}
use Rattle.gu_session.proofs.KeptLists.{numbered_within}
use Rattle.gu_session.proofs.noted.count_in.Given as goal

abbrev pub invariant-loop-i : goal.invariant-loop-i
invariant-loop-i l = record {
  all : l.count + length (numbered_within l.span.from l.span.next (drop l.i l.headers.items))
      ≡ length (numbered_within l.span.from l.span.next l.headers.items);
  few : l.count ≤ l.i;
}
