use Rattle.gu_fees.proofs.terms.Terms.put_at.Goals as goal
use Rattle.gu_fees.proofs.Places.{apart_changed, below_changed, can_by_row, last_same, other_place}
use Rattle.{gu_sums.specs.Filing.last_of, std.proofs.Common.{arith, refl, sym, ◌∙◌}}

pub put_into-requires : goal.put_into-requires
put_into-requires c =
    let above = rw (← c.self.view_is) at c.requires.above in
    let pair = rw (← c.self.view_is) at c.requires.pair in
    can_by_row _ _ _ (λ r e. let low = c.self.invariant.below c.args.place r e in omega arith) pair

pub invariant_of-self : goal.invariant_of-self
invariant_of-self c =
    let above = rw (← c.self.view_is) at c.requires.above in
    let last = c.file.ensures.filed.last in
    record {
      apart = apart_changed c.put_into.ensures.len c.self.invariant.apart;
      below = below_changed _ _ _ c.put_into.ensures.others
          (last_of c.self.inside.entries.filed) (last_of c.file.new.self.filed) (omega arith)
          c.self.invariant.below (rw last (last_same _ _
          c.put_into.ensures.last));
    }

pub returns : goal.returns
returns c = λ giver taker is.
    let at =
    rw (← c.self.view_is) at is in
    rw (← c.self.view_is)
    (record {
      own = rw at c.put_into.ensures.own;
      others = λ g k differ. other_place _ _
          _ _ c.put_into.ensures.others
          (λ same. let is = c.self.invariant.apart.apart giver taker g k c.args.place at same in cc);
      placed = λ n. c.file.ensures.filed.at n ∙ rw (sym at);
      places = refl;
      last = c.file.ensures.filed.last;
    })
