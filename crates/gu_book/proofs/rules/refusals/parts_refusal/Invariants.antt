use Rattle.gu_book.proofs.rules.refusals.parts_refusal.Given as goal
use Rattle.gu_book.proofs.Vocabulary.{drop, first, IfSome, knows_account, map, refusal_of_part, true, ◌≡◌}

-- the parts that are left are refused as all are, and the known account is one of the firm's
abbrev pub invariant-loop-part : goal.invariant-loop-part
invariant-loop-part l =
    (first (map (refusal_of_part l.house l.by) (drop l.part-index l.parts))
    ≡ first (map (refusal_of_part l.house l.by) l.parts))
    × IfSome l.known (λ a. knows_account l.house l.by a.now ≡ true)
