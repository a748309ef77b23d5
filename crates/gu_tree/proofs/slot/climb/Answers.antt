use Rattle.gu_tree.proofs.slot.climb.Goals as goal
use Rattle.gu_tree.proofs
use proofs.Groves.{read_out, step_up, way_cell, way_ends, way_further, written_before}
use proofs.Vocabulary.{arith, length-set, rules, sym, ◌+◌, ◌-◌, ◌∙◌, ◌≡◌, ◌≢◌}

pub overflow_sub-first : goal.overflow_sub-first
overflow_sub-first g c =
    way_cell _ _ _ _ _ c.loop-first.invariant.cells (search rules) c.loop-first.invariant.way

pub unreachable-requires : goal.unreachable-requires
unreachable-requires g c =
    let part : c.loop-first.node.part ≢ 0 = search rules in
    let u = step_up c.args.slots.now.filed c.loop-first.node _ _ part c.loop-first.invariant.way.ahead in
    c.in_default.not-Node u.above ((rw c.entry-in-loop-first.ensures at c.filed_at-found.ensures) ∙ u.slot)

pub loop-first-preserved : goal.loop-first-preserved
loop-first-preserved g c =
    let part : c.loop-first.node.part ≢ 0 = search rules in
    let i : c.loop-first.node.part ≡ c.part-in-loop-first-2.result - 1 + 1 = omega arith in
    let some = way_cell _ _ _ _ _ c.loop-first.invariant.cells part c.loop-first.invariant.way in
    let more = written_before c.loop-first.steps c.loop-first.first (c.part-in-loop-first-2.result - 1) some
    (omega arith) in
    record {
      way = way_further _ _ _ _ _ _ _ part i
          (rw c.entry-in-loop-first.ensures at (sym c.filed_at-found.ensures ∙ c.in-Node.is)) more
          c.loop-first.invariant.way;
      cells = length-set c.loop-first.steps _ _ ∙ c.loop-first.invariant.cells;
      within = omega arith;
    }

pub returns : goal.returns
returns g c =
    let steps = read_out _ _ _ _ c.loop-first.invariant.cells c.requires.empty c.in-Ok.ensures.ok in
    way_ends _ _ c.loop-first.node _ _ _ (search rules) c.entry-2.ensures steps c.loop-first.invariant.way
