use Rattle.gu_book.proofs.rules.holdings.put_away.Given as goal
use Rattle.gu_book.proofs.Vocabulary
use Vocabulary.{counted_at}
use Vocabulary.{drop, filter_map, HaveRoom, Holding, Key, lots_in, part_away, Side, sum_by, ◌+◌, ◌<◌, ◌^◌, ◌≡◌}

abbrev pub invariant-loop-part : goal.invariant-loop-part
invariant-loop-part l = record {
  done : l.done ≡ l.part-index;
  firm : l.key.firm ≡ l.whole.key.firm;
  instrument : l.key.instrument ≡ l.whole.key.instrument;
  room : HaveRoom l.positions (filter_map (part_away l.whole l.by) (drop l.part-index l.parts));
  put : (at : Key) (side : Side)
      → lots_in l.positions at side
      + sum_by (counted_at at side) (filter_map (part_away l.whole l.by) (drop l.part-index l.parts))
      ≡ lots_in l.fn.positions at side + sum_by (counted_at at side) (filter_map (part_away l.whole l.by) l.parts);
  moved : l.moved + sum_by (λ (h : Holding). h.lots) (filter_map (part_away l.whole l.by) (drop l.part-index l.parts))
      ≡ sum_by (λ (h : Holding). h.lots) (filter_map (part_away l.whole l.by) l.parts);
  fits : sum_by (λ (h : Holding). h.lots) (filter_map (part_away l.whole l.by) l.parts) < 2 ^ 64;
}
