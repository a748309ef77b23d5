use Rattle.gu_book.proofs.grove.plant.Goals as goal
use Rattle.gu_book.proofs.{FiledChanges.trade_filed, Vocabulary.{ap, arith, head_of, last_place, Rose, ◌<◌}}

pub plant-requires-clause-above : goal.plant-requires-clause-above
plant-requires-clause-above c =
    let due = c.requires.due in
    let above : last_place c.args.trees.now < c.args.made.now.number = due.2.later in
    let entry = ap (λ (t : Rose). (head_of t).name.entry) c.new.ensures.root in
    omega arith

pub returns-clause-follows : goal.returns-clause-follows
returns-clause-follows c = λ t l next.
    let name = ap (λ (t : Rose). (head_of t).name) c.new.ensures.root in
    let entry = ap (λ (t : Rose). (head_of t).name.entry) c.new.ensures.root in
    trade_filed next _ _ c.requires.trade _ _ c.new.ensures.shows
    (rw entry at c.plant.ensures.tree) (rw name at c.plant.ensures.place)
