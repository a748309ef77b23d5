use Rattle.gu_book.proofs.rules.holdings.lots_away.Given as goal
use Rattle.gu_book.proofs.Vocabulary.{drop, filter_map, Holding, part_away, sum_by, ◌+◌, ◌≡◌}

abbrev pub invariant-loop-part : goal.invariant-loop-part
invariant-loop-part l =
    l.away + sum_by (λ (h : Holding). h.lots) (filter_map (part_away l.whole l.by) (drop l.part-index l.parts))
    ≡ sum_by (λ (h : Holding). h.lots) (filter_map (part_away l.whole l.by) l.parts)
