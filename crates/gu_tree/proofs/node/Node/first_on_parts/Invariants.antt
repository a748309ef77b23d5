use Rattle.gu_tree.proofs.node.Node.first_on_parts.Given as goal
use Rattle.gu_tree.{proofs.Vocabulary.{from_list, take, ◌≡◌}, specs.NumbersOn.{least, numbers_at_each}}

abbrev pub invariant-loop-part : goal.invariant-loop-part
invariant-loop-part g l = l.first ≡ least (numbers_at_each (from_list (take l.part-index l.part-items)))
