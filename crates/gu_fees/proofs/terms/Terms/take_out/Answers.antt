use Rattle.gu_fees.proofs.terms.Terms.take_out.Goals as goal
use Rattle.gu_fees.proofs
use proofs.Places.{apart_changed, below_changed, last_lower, none_there, other_place, some_there}
use Rattle.{gu_base.specs.Dealt.leave_out, gu_fees.specs.Rows.is_pair, gu_sums.specs.Filing.{kept_at, last_of}}
use Rattle.std.{proofs.Common.{arith, refl, sym, ◌∙◌, ◌≡◌}, specs.{Map.lookup, Prelude.{IsSomeAnd, slice_get, Some}}}

pub invariant_of-self : goal.invariant_of-self
invariant_of-self c =
    let last = c.take.ensures.taken.last in
    record {
      apart = apart_changed c.take_from.ensures.len c.self.invariant.apart;
      below = below_changed _ _ _ c.take_from.ensures.others
          (last_of c.self.inside.entries.filed) (last_of c.take.new.self.filed) (omega arith)
          c.self.invariant.below
          (rw last (last_lower _
          _ _
          (c.self.invariant.below c.in-Some.i) (none_there _ _
          _ c.take_from.ensures.len) c.take_from.ensures.last));
    }

pub invariant_of-self-in_default : goal.invariant_of-self-in_default
invariant_of-self-in_default c =
    record {
      apart = c.self.invariant.apart;
      below = λ i r e.
          omega (arith, c.self.invariant.below i r e, c.take.ensures.taken.last);
    }

pub returns-in-Some : goal.returns-in-Some
returns-in-Some c =
    let found : kept_at c.self.inside.entries.filed c.args.entry ≡ Some c.in-Some.i =
    sym c.take.ensures.value ∙ c.in-Some.is in
    rw (← c.self.view_is)
    (record {
      own = λ g k j at place.
          let here : lookup (is_pair g k) c.self.inside.places.entries ≡ Some c.in-Some.i = cc (at, found, place) in
          rw here (some_there c.self.inside.pairs.items c.in-Some.i
          (λ r. IsSomeAnd (slice_get c.take_from.new.pairs.items c.in-Some.i) (λ q. (q.file ≡ r.file)
          × (q.dealings ≡ leave_out c.args.entry r.dealings)))
          (c.self.invariant.apart.there g k c.in-Some.i here) c.take_from.ensures.own);
      others = λ g k away. other_place c.self.inside.pairs.items c.take_from.new.pairs.items
          (lookup (is_pair g k) c.self.inside.places.entries) c.in-Some.i c.take_from.ensures.others
          (away c.in-Some.i found);
      placed = λ n. c.take.ensures.taken.at n;
      places = refl;
      apart = c.self.invariant.apart.apart;
      last = c.take.ensures.taken.last;
    })

pub returns-in_default : goal.returns-in_default
returns-in_default c =
    let none = sym c.take.ensures.value ∙ c.in_default.is in
    rw (← c.self.view_is)
    (record {
      own = λ g k j at place. cc (none, at);
      others = λ g k away. refl;
      placed = λ n. c.take.ensures.taken.at n;
      places = refl;
      apart = c.self.invariant.apart.apart;
      last = c.take.ensures.taken.last;
    })
