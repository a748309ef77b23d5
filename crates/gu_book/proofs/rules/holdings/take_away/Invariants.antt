use Rattle.gu_book.proofs.rules.holdings.take_away.Given as goal
use Rattle.gu_book.proofs.Vocabulary.{counted_at, drop, filter_map, Key, lots_in, part_away, Side, sum_by, ◌+◌, ◌≡◌}
use Rattle.gu_positions.specs.Rows.{IsReady}

-- what is taken still is there
abbrev pub invariant-loop-part : goal.invariant-loop-part
invariant-loop-part l = record {
  gone : (at : Key) (side : Side)
      → lots_in l.positions at side + sum_by (counted_at at side) (filter_map (part_away l.whole l.by) l.parts)
      ≡ lots_in l.fn.positions at side
      + sum_by (counted_at at side) (filter_map (part_away l.whole l.by) (drop l.part-index l.parts));
  stays : (at : Key) → IsReady l.fn.positions at → IsReady l.positions at;
}
