use Rattle.std.proofs.Common.{◌≡◌, ◌≤◌, ℕ, drop}
use Rattle.gu_base.specs.History.{is_reversed}
use Rattle.gu_roll.proofs.picking.are_live.Given as goal

abbrev pub invariant-loop-entry : goal.invariant-loop-entry
invariant-loop-entry l =
    (n : ℕ) → n ≤ l.most → is_reversed (drop l.entry-index l.history) n ≡ is_reversed l.history n
