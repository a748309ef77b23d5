use Rattle.gu_fees.proofs.terms.Terms.put.Goals as goal
use Rattle.std.proofs.Common.{sym, ◌∙◌}

pub put_at-requires : goal.put_at-requires
put_at-requires c =
    let found =
    sym c.place.ensures.value ∙ c.in-Some.is in
    record {
      room = c.requires.room;
      above = c.requires.above;
      pair = rw found at c.requires.pair;
    }

pub returns-in-Some : goal.returns-in-Some
returns-in-Some c = c.put_at.ensures c.args.giver.now c.args.taker.now (cc)
