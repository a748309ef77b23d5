use Rattle.gu_fees.proofs.terms.Terms.add_pair.Goals as goal
use Rattle.gu_fees.proofs.Places.{Adds, adds_apart, more_below, other_row, own_row, place_stays}
use Rattle.std.proofs.{Common.{arith, length, rules, [], ◌++◌, ◌∙◌, ◌∷◌, ◌≡◌, ◌≤◌}, lemmas.Grind.common_steps}

added : (c : goal.After-push_reserved) → Adds c.self.inside.places.entries c.insert.new.self.entries c.args.giver.now
    c.args.taker.now (length c.self.inside.pairs.items)
added c =
    let place : c.len-i.result ≡ length c.self.inside.pairs.items =
    first_of (search rules, grind (arith, common_steps)) in
    record {
      own = c.in_ok-insert.ensures.updates.1 ∙ rw place;
      others = λ g k is. c.in_ok-insert.ensures.updates.2 _ is;
    }

rows : (c : goal.After-push_reserved) → c.push_reserved.new.self.items ≡ c.self.inside.pairs.items ++ c.ready.new.self
    ∷ []
rows c = first_of (search rules, cc, grind (arith, common_steps))

pub invariant_of-self-2 : goal.invariant_of-self-2
invariant_of-self-2 c = record {
  apart = rw (rows c) (adds_apart c.ready.new.self (added c) c.self.invariant.apart);
  below = rw (rows c) (more_below c.self.inside.pairs.items c.ready.new.self c.self.inside.entries.filed
      c.self.invariant.below (let a : c.ready.new.self.last ≡ 0 = first_of (cc, search rules) in a));
}

pub returns-clause-own : goal.returns-clause-own
returns-clause-own c =
    let own = own_row c.ready.new.self (added c) c.self.invariant.apart in
    let room : 1 ≤ c.ready.new.self.room = first_of (search rules, grind (arith, common_steps)) in
    let file : c.ready.new.self.file ≡ c.args.file = first_of (cc, search rules) in
    let dealings : c.ready.new.self.dealings ≡ [] = first_of (cc, search rules) in
    rw (rows c, own) (file, dealings, room)

pub returns-clause-others : goal.returns-clause-others
returns-clause-others c = λ g k is.
    rw (← c.self.view_is, rows c) (other_row _ (added c) c.self.invariant.apart g k is)

pub returns-clause-places : goal.returns-clause-places
returns-clause-places c = λ g k i e.
    place_stays (added c) (rw (← c.self.view_is) at c.requires.new) g k i (rw (← c.self.view_is) at e)
