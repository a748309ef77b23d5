use Rattle.gu_fees.proofs.pair.PairTerms.take_out.Goals as goal
use Rattle.gu_base.specs.Terms.{raised_by_deed, used_by_deed}
use Rattle.gu_fees.proofs.Dealings.{counted_less, dealings_without, kept_counts, kept_less, made_stays}
use Rattle.std.proofs.Common.{arith, sym, ◌∙◌}

pub invariant_of-self : goal.invariant_of-self
invariant_of-self c = record {
  kept = rw (rw (sym c.take.ensures.value ∙ c.in_default.is) at c.take.ensures.taken.none) c.self.invariant.kept;
  blocks = c.take.ensures.blocks;
}

pub returns-in_default-clause-dealings : goal.returns-in_default-clause-dealings
returns-in_default-clause-dealings c =
    rw (← c.self.view_is) (cc (dealings_without c.self.inside.deeds.filed.kept c.args.entry))

pub made_without-self-inside-requires : goal.made_without-self-inside-requires
made_without-self-inside-requires c = λ none.
    let there = sym c.take.ensures.value ∙ c.in-Some.is in
    rw c.all.ensures.kept (made_stays _ c.self.invariant.kept c.args.entry c.in-Some.deed there
    (rw there at c.take.ensures.taken.removed) none)

pub overflow_sub-self : goal.overflow_sub-self
overflow_sub-self c =
    omega (
      arith,
      (kept_counts _ c.self.invariant.kept c.args.entry c.in-Some.deed
          (sym c.take.ensures.value ∙ c.in-Some.is)).0,
    )

pub overflow_sub-self-2 : goal.overflow_sub-self-2
overflow_sub-self-2 c =
    omega (
      arith,
      (kept_counts _ c.self.invariant.kept c.args.entry c.in-Some.deed
          (sym c.take.ensures.value ∙ c.in-Some.is)).1,
    )

pub invariant_of-self-2 : goal.invariant_of-self-2
invariant_of-self-2 c =
    let there = sym c.take.ensures.value ∙ c.in-Some.is in record {
      kept = rw (c.sweep.ensures.kept, c.raised_by.ensures, c.used_by.ensures)
          (kept_less _ c.self.invariant.kept c.args.entry c.in-Some.deed there
          c.take.ensures.taken.kept (rw there at c.take.ensures.taken.removed)
          (rw c.all.ensures.kept at c.made_without-self-inside.ensures));
      blocks = c.sweep.ensures.blocks;
    }

pub returns-clause-dealings : goal.returns-clause-dealings
returns-clause-dealings c = rw (← c.self.view_is) (cc (dealings_without c.self.inside.deeds.filed.kept c.args.entry))

pub take-requires : goal.take-requires
take-requires c = record {
  blocks = c.self.invariant.blocks;
  raised = omega (arith, c.self.invariant.kept.small.raised);
  used = c.self.invariant.kept.small.used;
}

pub sweep-requires-clause-raised : goal.sweep-requires-clause-raised
sweep-requires-clause-raised c =
    let there = sym c.take.ensures.value ∙ c.in-Some.is in
    let less = counted_less raised_by_deed c.args.entry c.in-Some.deed _ there in
    rw (rw there at c.take.ensures.taken.removed) (omega (arith, less, c.self.invariant.kept.small.raised))

pub sweep-requires-clause-used : goal.sweep-requires-clause-used
sweep-requires-clause-used c =
    let there = sym c.take.ensures.value ∙ c.in-Some.is in
    let less = counted_less used_by_deed c.args.entry c.in-Some.deed _ there in
    rw (rw there at c.take.ensures.taken.removed) (omega (arith, less, c.self.invariant.kept.small.used))
