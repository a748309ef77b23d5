-- What is left compares as the whole does.
use Rattle.std.specs.Prelude.{◌≡◌, length}
use Rattle.std.specs.Ordering.{nat_cmp}
use Rattle.std.specs.Cmp.Lexicographic.{slice_cmp}
use Rattle.gu_base.proofs.cells.by_words.Given as goal

abbrev pub invariant-words : goal.invariant-words
invariant-words l = slice_cmp nat_cmp l.left_rest l.right_rest ≡ slice_cmp nat_cmp l.left l.right

abbrev pub decreases-words : goal.decreases-words
decreases-words l = length l.left_rest
