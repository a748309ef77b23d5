use Rattle.gu_book.proofs.live_state.LiveState.add_split.Goals as goal
use Rattle.gu_book.proofs
use proofs.{ChangesKept.{next_of, split_fits, split_stands, split_takes, whole_is}, Filed.{due_same, follows_same}}
use proofs.{LiveStates.{state_apart, takes_whole, whole_there}, Vocabulary.{ap, named_node, refl, sym}}

pub whole_of-whole-requires-clause-there : goal.whole_of-whole-requires-clause-there
whole_of-whole-requires-clause-there c =
    whole_there c.requires.can c.in-Some.named c.in-Some.is c.requires.split.0 (ap named_node c.requires.split.1)

pub put_all_away-requires : goal.put_all_away-requires
put_all_away-requires c =
    let splits = c.requires.split.1 in
    let of = takes_whole c.requires.can _ c.in-Some.is _ (ap named_node splits) _ c.whole_of-whole.ensures in
    record { home = (whole_is of _ splits).0; room = split_fits of _ splits }

pub split-requires-clause-due : goal.split-requires-clause-due
split-requires-clause-due c =
    due_same _ _ _ c.in_ok-ready.ensures.same (_, _, next_of c.requires.can.follows)

pub take_moved-requires : goal.take_moved-requires
take_moved-requires c =
    let splits = c.requires.split.1 in
    let of = takes_whole c.requires.can _ c.in-Some.is _ (ap named_node splits) _ c.whole_of-whole.ensures in
    rw c.in_ok-moved.ensures.moved (split_takes of _ splits _ c.in_ok-moved.ensures.put)

pub returns-clause-added : goal.returns-clause-added
returns-clause-added c =
    let splits = c.requires.split.1 in
    let of = takes_whole c.requires.can _ c.in-Some.is _ (ap named_node splits) _ c.whole_of-whole.ensures in
    let can = c.requires.can.follows in
    let filed = follows_same _ _ _ _ c.in_ok-ready.ensures.same c.in_default-split.ensures.follows _ _ (next_of can) in
    state_apart can _ refl refl filed c.in_default-split.ensures.last (sym (cc))
    (split_stands of _ splits _ c.in_ok-moved.ensures.put
    _ (rw c.in_ok-moved.ensures.moved at c.take_moved.ensures)) (cc)
