use Rattle.gu_book.proofs.live_state.LiveState.remove_split.Goals as goal
use Rattle.gu_book.proofs
use proofs.AllShown.{found_named, undone_there}
use proofs.{LiveStates.{apart_gone, back_room, back_stands, back_there}, Undoing.few_lots, Vocabulary.refl}

pub parts_back-back-requires : goal.parts_back-back-requires
parts_back-back-requires c =
    let goes = c.requires.can.goes in
    record {
      split = c.requires.split;
      found = found_named goes.free c.requires.found;
      deal = c.requires.found.deal;
      few = few_lots goes.free goes.list.within;
    }

pub unsplit-requires : goal.unsplit-requires
unsplit-requires c =
    let split = c.requires.split in
    let free = c.requires.can.goes.free in
    record {
      may_go = (_, _, free);
      split = (split.0, rw split.1 refl);
      there = undone_there free.filed c.requires.found;
    }

pub move_parts_back-requires : goal.move_parts_back-requires
move_parts_back-requires c =
    let goes = c.requires.can.goes in
    let same = c.in_ok-ready_back.ensures.same in
    record {
      split = c.requires.split;
      there = back_there goes _ c.parts_back-back.ensures _ same;
      ready = c.in_ok-ready_back.ensures.ready;
      room = back_room goes _ c.parts_back-back.ensures _ same;
    }

pub returns-clause-removed : goal.returns-clause-removed
returns-clause-removed c =
    let split = c.requires.split.1 in
    let goes = c.requires.can.goes in
    apart_gone goes _ refl refl (cc) (cc) (c.unsplit.ensures.gone _ _ goes.free) c.unsplit.ensures.last
    (back_stands goes _ c.parts_back-back.ensures _ c.in_ok-ready_back.ensures.same _ c.move_parts_back.ensures)
