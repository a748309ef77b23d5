use Rattle.gu_tree.proofs.slot.climb.Given as goal
use Rattle.gu_tree.{proofs.{Groves.IsOnWay, Vocabulary.{drop, length, ◌≡◌, ◌≤◌}}, specs.Filing.turned}

abbrev pub invariant-loop-first : goal.invariant-loop-first
invariant-loop-first g l =
    record {
      way : IsOnWay l.slots.filed l.fn.node l.node (turned (drop l.first l.steps));
      cells : length l.steps ≡ 64;
      within : l.first ≤ 64;
    }

abbrev pub decreases-loop-first : goal.decreases-loop-first
decreases-loop-first g l = l.node.entry
