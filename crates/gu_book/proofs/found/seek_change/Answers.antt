use Rattle.gu_book.proofs.found.seek_change.Goals as goal
use Rattle.gu_book.proofs
use proofs.{OnePlace.one_place, Visited.way_to, Vocabulary.{arith, IsPlace, rises_later, some_with, sym, ◌∙◌}}
use Rattle.gu_tree.specs.Grove.{place_of}

pub returns-clause-undone : goal.returns-clause-undone
returns-clause-undone c =
    let l = c.args.changes.now in
    let are = c.requires.trees in
    let trees = c.args.state.now.trees in
    let path = c.named.new.path.items in
    let m = some_with (λ n. IsPlace trees n c.in-Some.spot.trade path) (place_of trees c.args.number)
    (rw c.in-Some.is at c.named.ensures.found) in
    record {
      name = m.0;
      place = sym (are.filed.places c.args.number) ∙ m.1.0;
      found = c.found_at-found.ensures.found l m.0 trees are m.1.1 (rw c.in-Some.is at c.named.ensures.node);
      there = λ h filed. rw c.found_at-found.ensures.trade (one_place are.filed m.0 _ path m.1.1 h filed);
      deal = rw c.found_at-found.ensures.trade c.traded_under.ensures;
    }

-- what stands there
pub returns-clause-standing : goal.returns-clause-standing
returns-clause-standing c = λ t legal dealt.
    let l = c.args.changes.now in
    let are = c.requires.trees in
    c.first_standing_at-sought.ensures t l c.args.state.now.trees c.named.new.path.items
    (rises_later 0 1 l (omega arith) are.rises) legal are.filed (rw c.in-Some.is at c.named.ensures.found)
    (rw c.in-Some.is at c.named.ensures.node)

-- a change without a place in the trees stands among those of its giver and taker
pub returns-in_default-clause-standing : goal.returns-in_default-clause-standing
returns-in_default-clause-standing c = λ t legal dealt.
    let l = c.args.changes.now in
    let are = c.requires.trees in
    c.standing_beside-count.ensures.first t l (rises_later 0 1 l (omega arith) are.rises) legal dealt
    (sym (are.filed.places c.args.number) ∙ (rw c.in_default.is at c.named.ensures.absent))

pub returns-clause-most : goal.returns-clause-most
returns-clause-most c = λ t dealt.
    let way = way_to c.requires.trees c.args.number c.in-Some.spot.trade c.named.new.path.items
    (rw c.in-Some.is at c.named.ensures.found) in
    let met = c.met_beside.ensures.most t c.args.changes.now dealt in
    omega (arith, way, c.found_at-found.ensures.deep, met)

pub returns-clause-least : goal.returns-clause-least
returns-clause-least c = λ _.
    let way = way_to c.requires.trees c.args.number c.in-Some.spot.trade c.named.new.path.items
    (rw c.in-Some.is at c.named.ensures.found) in
    let met = c.met_beside.ensures.least in
    omega (arith, way, c.found_at-found.ensures.deep, met)
