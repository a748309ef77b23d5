use Rattle.std.proofs.Common.{sym, rules}
use Rattle.gu_parties.proofs.Names.{firm_named}
use Rattle.gu_parties.proofs.house.House.add_agreement.Goals as goal

pub returns-clause-does : goal.returns-clause-does
returns-clause-does c =
    let g = firm_named c.args.giver.now c.in-Some.giver (sym c.in-Some.ensures) in
    let t = firm_named c.args.taker.now c.in-Some-new.taker (sym c.in-Some-new.ensures) in
    rw (g.0, t.0, g.1, t.1, ← c.in-Some-number.ensures.value, ← c.in-Some-number-2.ensures.value)
    c.add_terms.ensures.does

pub returns-in_default-number-clause-does : goal.returns-in_default-number-clause-does
returns-in_default-number-clause-does c = search rules

pub add_terms-requires-clause-in_range : goal.add_terms-requires-clause-in_range
add_terms-requires-clause-in_range c = search rules
