use Rattle.std.proofs.Common.{◌≡◌, ◌+◌, ◌≤◌, length, drop}
use Rattle.std.specs.Prelude.{filter}
use Rattle.gu_base.specs.declared.entry.Entry.{Entry}
use Rattle.gu_roll.specs.Losing.{is_a_reverse}
use Rattle.gu_roll.proofs.lost.count_reversed.Given as goal

abbrev pub invariant-loop-entry : goal.invariant-loop-entry
invariant-loop-entry l = record {
  few : l.count ≤ l.entry-index;
  rest : l.count + length (filter (λ (e : Entry). is_a_reverse e.command) (drop l.entry-index l.history))
      ≡ length (filter (λ (e : Entry). is_a_reverse e.command) l.history);
}
