use Rattle.std.proofs.Common.{◌≡◌, ◌≤◌, ◌-◌, ℕ, List, ◌++◌, length, drop, replicate, arith}
use Rattle.std.proofs.Math.Seq.{drop-append_seam}
use Rattle.std.proofs.lemmas.List.{drop-replicate, length-append, length-replicate}
use Rattle.gu_message.proofs.test_req_id.TestReqId.new.Goals as goal

-- a text with zeros behind it
padded : (n : ℕ) (text copied : List ℕ) → copied ≡ text → length text ≤ n
    → (length text ≤ n) × (length (copied ++ drop (length text) (replicate n 0)) ≡ n)
    × (drop (length text) (copied ++ drop (length text) (replicate n 0)) ≡ replicate (n - length text) 0)
padded n text copied e fits =
    rw e (
      fits,
      rw (drop-replicate {X = ℕ} (length text) n 0)
          (omega
          (arith, length-append text (replicate (n - length text) 0), length-replicate {A = ℕ} (n - length text) 0)),
      rw (drop-append_seam text (drop (length text) (replicate n 0))) (drop-replicate {X = ℕ} (length text) n 0),
    )

pub invariant_of-result : goal.invariant_of-result
invariant_of-result c = padded _ _ _ (c.copy_from_slice.ensures.after) (omega arith)
