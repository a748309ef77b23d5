-- How many workers a desk has.
use Rattle.std.proofs.Common.{rules, ℕ, ◌≤◌, IsTrue}
use Rattle.gu_desk.specs.Views.{is_worker_count}

-- one at least
pub one_at_least : (n : ℕ) → IsTrue (is_worker_count n) → 1 ≤ n
one_at_least n w = search rules
