-- What the book is asked with a seat.
use Rattle.std.specs.Prelude.{◌≡◌, ◌⊎◌, ℕ, ◌+◌, List, Option, Some, if◌then◌else◌}
use Rattle.gu_base.specs.Answers.{Call, answer_to, after, is_accepted}
use Rattle.gu_base.specs.Runs.{IsRunFrom}
use Rattle.gu_base.specs.declared.command.Command.{Command}
use Rattle.gu_base.specs.declared.entry.Answer.{Answer}
use Rattle.gu_base.specs.declared.entry.Entry.{Entry}
use Rattle.gu_book.specs.Seen.{HouseAndHistory}
use Rattle.gu_desk.specs.Begins.{BeginsWith}
use Rattle.gu_desk.specs.Runs.{HasSeen}
use Rattle.gu_desk.specs.Views.{SeatView}

-- the book is asked with a seat, once: at a history of a run that begins with what the seat had
-- seen, and it answers what the rules say there. The seat has then seen the history behind the
-- call, and its share has grown by one where the call was accepted
pub record Asks (opening : HouseAndHistory) (c : Call) (answer : Answer) (old new : SeatView)
    : Type 0 where
  pub at : List Entry
  pub run : IsRunFrom opening.house opening.history at
  pub begins : BeginsWith at old.seen
  pub answered : answer ≡ answer_to opening.house at c
  pub seen : new.seen ≡ after opening.house at c
  pub share : new.share ≡ old.share + (if is_accepted answer then 1 else 0)

-- the seat has seen a history of a run that begins with what it had seen, and no call was accepted
abbrev pub Looks : HouseAndHistory → SeatView → SeatView → Type 0
Looks opening old new = HasSeen opening old.seen new.seen × (new.share ≡ old.share)

-- the seat is as it was, or has looked so
abbrev pub LooksAtMost : HouseAndHistory → SeatView → SeatView → Type 0
LooksAtMost opening old new = (new ≡ old) ⊎ Looks opening old new

-- the call that a step asks for in the name of the firm is made, and its answer isn't told
pub record AsksOnly (opening : HouseAndHistory) (firm : Option (List ℕ))
    (call : Option (List ℕ × Command)) (old new : SeatView) : Type 0 where
  pub made : Call
  pub by : firm ≡ Some made.firm
  pub is : call ≡ Some (made.id, made.command)
  pub answer : Answer
  pub between : SeatView
  pub asks : Asks opening made answer old between
  pub looks : Looks opening between new

-- no call is accepted, or at the most the one that a step asks for
abbrev pub AsksAtMost : HouseAndHistory → Option (List ℕ) → Option (List ℕ × Command) → SeatView
    → SeatView → Type 0
AsksAtMost opening firm call old new =
    (new ≡ old) ⊎ Looks opening old new ⊎ AsksOnly opening firm call old new
