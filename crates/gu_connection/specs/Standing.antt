-- Where a connection stands, as its turns see it.
use Rattle.std.specs.Prelude.{ℕ, List, ◌++◌, Bool, Option, option_map}
use Rattle.gu_codec.specs.Stream.{Stream}
use Rattle.gu_command.specs.declared.naming.NamedBook.{NamedBook}
use Rattle.gu_desk.specs.Views.{SeatView}
use Rattle.gu_session.specs.Steps.{Seen}
use Rattle.gu_session.specs.declared.event.Actions.{Actions}
use Rattle.gu_connection.specs.declared.connection.Connection.{Connection}

-- the seat that serves it, the book, where its name is read, its session, the bytes held, what the
-- turn sends so far, how far its readings have come, and whether the turn was told of the book
pub record Standing : Type 0 where
  pub seat : SeatView
  pub book : Option NamedBook
  pub session : Seen
  pub feed : Stream
  pub out : List ℕ
  pub told : ℕ
  pub looked : ℕ
  pub behind : Bool
  pub tells : Bool

-- where a connection stands with a seat
abbrev pub stands : SeatView → Connection → Standing
stands seat c = record {
  seat = seat;
  book = option_map (λ b. b.now) c.book;
  session = c.session;
  feed = c.feed;
  out = c.out.items;
  told = c.told;
  looked = c.looked;
  behind = c.behind;
  tells = c.tells;
}

-- these bytes have come
abbrev pub comes : List ℕ → Standing → Standing
comes piece s = record s { feed = record s.feed { held = s.feed.held ++ piece } }

-- what a step sends was put behind what the turn sends
abbrev pub says : Actions → Standing → Standing
says a s = record s { out = s.out ++ a.send.items }
