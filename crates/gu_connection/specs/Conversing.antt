-- What a whole conversation does with the bytes that it reads and those that it writes.
use Rattle.std.specs.Prelude.{◌≡◌, ◌⊎◌, ℕ, zero, suc, List, [], take, Option}
use Rattle.std.specs.Io.KnownBytes.{Appends}
use Rattle.gu_book.specs.Seen.{HouseAndHistory}
use Rattle.gu_desk.specs.Views.{SeatView}
use Rattle.gu_connection.specs.Standing.{Standing, stands}
use Rattle.gu_connection.specs.Talks.{Turns, TurnsAndCloses}
use Rattle.gu_connection.specs.declared.connection.Connection.{Connection}
use Rattle.gu_connection.specs.declared.worker.Left.{Left}

-- a conversation between two rounds: where its connection stands, what is still to be read, what is
-- written, and what the last turn left
pub record Talk : Type 0 where
  pub at : Standing
  pub unread : Option (List ℕ)
  pub written : Option (List ℕ)
  pub left : Left

-- where the conversation of a connection stands
abbrev pub talk_of : SeatView → Connection → Option (List ℕ) → Option (List ℕ) → Left → Talk
talk_of seat c unread written left =
    record { at = stands seat c; unread = unread; written = written; left = left }

-- a round: a turn, and all that it sends is written and gone
pub record Rounds (opening : HouseAndHistory) (before behind : Talk) : Type 0 where
  pub turned : Standing
  pub turns : Turns opening before.left before.unread behind.unread before.at turned behind.left
  pub writes : Appends before.written behind.written turned.out
  pub gone : behind.at ≡ record turned { out = [] }

-- so many rounds, one after the other
abbrev pub Converses : HouseAndHistory → Talk → ℕ → Talk → Type 0
Converses opening before zero behind = behind ≡ before
Converses opening before (suc n) behind =
    (between : Talk) × Converses opening before n between × Rounds opening between behind

-- how a conversation ends: with this seat, with these bytes that nobody reads, and these written
pub record Ending : Type 0 where
  pub seat : SeatView
  pub unread : Option (List ℕ)
  pub written : Option (List ℕ)

-- a round that closes the connection: a front of what the turn sends is written
pub record RoundsAndCloses (house : List ℕ) (opening : HouseAndHistory) (before : Talk)
    (behind : Ending) : Type 0 where
  pub turned : Standing
  pub seat : behind.seat ≡ turned.seat
  pub turns : ((l : Left)
      × Turns opening before.left before.unread behind.unread before.at turned l)
      ⊎ TurnsAndCloses house opening before.unread behind.unread before.at turned
  pub writes : (n : ℕ) × Appends before.written behind.written (take n turned.out)

-- a conversation: rounds, one after the other, until the connection is closed behind one, or the
-- next one closes it
abbrev pub Conversed : List ℕ → HouseAndHistory → Talk → Ending → Type 0
Conversed house opening before behind =
    (n : ℕ) × (last : Talk) × Converses opening before n last
    × ((behind ≡ record { seat = last.at.seat; unread = last.unread; written = last.written })
    ⊎ RoundsAndCloses house opening last behind)
