-- What a turn of a connection does: which messages of the bytes held it takes, what it asks the
-- book for on their behalf, and what it sends of the answers.
use Rattle.std.specs.Prelude.{◌≡◌, ◌⊎◌, ℕ, zero, suc, ◌<◌, List, ◌++◌, length, Bool, true}
use Rattle.std.specs.Prelude.{false, Option, Some, None, IsTrue}
use Rattle.std.specs.Io.KnownBytes.{Keeps, Consumes}
use Rattle.gu_base.specs.declared.command.Command.{Command}
use Rattle.gu_base.specs.declared.entry.Answer.{Answer}
use Rattle.gu_book.specs.Seen.{HouseAndHistory}
use Rattle.gu_codec.specs.Next.{NextAnswers}
use Rattle.gu_codec.specs.declared.fields.Fields.{Fields}
use Rattle.gu_codec.specs.Stream.{Stream}
use Rattle.gu_desk.specs.Views.{SeatView}
use Rattle.gu_session.specs.Steps.{Seen}
use Rattle.gu_session.specs.declared.event.Actions.{Actions}
use Rattle.gu_session.specs.declared.event.Event.TheVariants as event
use Rattle.gu_connection.specs.Asking.{Asks, Looks, LooksAtMost, AsksAtMost}
use Rattle.gu_connection.specs.LoggingOut.{LogsOut}
use Rattle.gu_connection.specs.Standing.{Standing, comes, says}
use Rattle.gu_connection.specs.Beginning.{within}
use Rattle.gu_connection.specs.Turns.{StepsNow, Speaks, Replies, Brings, Learns}
use Rattle.gu_connection.specs.declared.beginning.Beginning.{Beginning}
use Rattle.gu_connection.specs.declared.beginning.Beginning.TheVariants.{Above}
use Rattle.gu_connection.specs.declared.connection.Brought.{Brought}
use Rattle.gu_connection.specs.declared.connection.Brought.TheVariants as brought
use Rattle.gu_connection.specs.declared.worker.Left.{Left}
use Rattle.gu_connection.specs.declared.worker.Left.TheVariants as left

-- ---- a call

-- the firm is told the answer, if there is one, and its reports at the history that the seat has
-- then seen
abbrev pub Tells : HouseAndHistory → List ℕ → Option Answer → Standing → Standing → Type 0
Tells opening firm answer before behind =
    Looks opening before.seat behind.seat × (behind.feed ≡ before.feed)
    × Replies opening.house firm answer before behind

-- a call of the firm that has logged on: the book is asked, and the firm is told its answer
pub record Calls (opening : HouseAndHistory) (id : List ℕ) (command : Command)
    (before behind : Standing) : Type 0 where
  pub firm : List ℕ
  pub logged_on : before.session.link.firm ≡ Some firm
  pub answer : Answer
  pub between : SeatView
  pub asks : Asks opening (record { firm = firm; id = id; command = command }) answer before.seat
      between
  pub tells : Tells opening firm (Some answer) (record before { seat = between }) behind

-- ---- a message

-- what a step asks of the book, if anything, is asked and told
abbrev pub Answered : HouseAndHistory → Option (List ℕ × Command) → Standing → Standing → Type 0
Answered opening None before behind = behind ≡ before
Answered opening (Some c) before behind = Calls opening c.0 c.1 before behind

-- what a message's step asks for is done: it doesn't close, what it sends goes behind what the turn
-- sends, and what it asks of the book is answered
abbrev pub Acts : HouseAndHistory → Actions → Standing → Standing → Type 0
Acts opening a before behind =
    (a.close ≡ false) × Answered opening a.call (says a before) behind

-- the reports of a firm that has just logged on begin above the entry that it asks for, in the
-- history that the seat has then seen
abbrev pub Begins : HouseAndHistory → Beginning → Standing → Standing → Type 0
Begins opening asked before behind =
    (number : ℕ) × (within (length behind.seat.seen) asked ≡ Above number)
    × LooksAtMost opening before.seat behind.seat
    × (behind ≡ record before {
      seat = behind.seat;
      told = number;
      looked = number;
      tells = true;
    })

-- what the step of a Logon asks for that was accepted is done
abbrev pub Enters : HouseAndHistory → Actions → Beginning → Standing → Standing → Type 0
Enters opening a asked before behind =
    (a.close ≡ false) × Begins opening asked (says a before) behind

-- what follows from what the bytes held have brought: a garbled frame is passed over
abbrev pub Follows : HouseAndHistory → Brought → Standing → Standing → Type 0
Follows opening brought.Nothing before behind = ⊥
Follows opening brought.Garbled before behind = behind ≡ before
Follows opening (brought.Message a) before behind = Acts opening a before behind
Follows opening (brought.Logon a asked) before behind = Enters opening a asked before behind

-- the next frame of the bytes held is taken
pub record Takes (opening : HouseAndHistory) (before behind : Standing) : Type 0 where
  pub came : Brought
  pub session : Seen
  pub feed : Stream
  pub brings : Brings before.book before.feed before.session session feed came
  pub follows : Follows opening came (record before { session = session; feed = feed }) behind

-- the next frame is taken, if one has come whole
abbrev pub TakesNext : HouseAndHistory → Bool → Standing → Standing → Type 0
TakesNext opening true before behind = Takes opening before behind
TakesNext opening false before behind = NextAnswers before.feed None × (behind ≡ before)

-- so many frames of the bytes held are taken, one after the other
abbrev pub Talks : HouseAndHistory → Standing → ℕ → Standing → Type 0
Talks opening before zero behind = behind ≡ before
Talks opening before (suc n) behind =
    (between : Standing) × Talks opening before n between × Takes opening between behind

-- ---- a turn

-- one Tick, which the session outlives
abbrev pub Ticks : Standing → Standing → Type 0
Ticks before behind =
    Speaks event.Tick before.session behind.session before.out behind.out
    × (behind ≡ record before { session = behind.session; out = behind.out })

-- how many bytes may wait to be sent for a turn to take a further message
abbrev pub most_waiting : ℕ
most_waiting = 65_536

-- what a turn that has read may leave before it takes a message
abbrev pub IsOfRead : Left → Type 0
IsOfRead left.Nothing = Unit {0}
IsOfRead left.Unread = Unit {0}
IsOfRead _ = ⊥

-- only a turn that has a span leaves messages since that is over
abbrev pub IsSpentBy : Bool → Left → Type 0
IsSpentBy has_span left.Spent = IsTrue has_span
IsSpentBy has_span _ = Unit {0}

-- what a turn does behind the last message that it takes: where all that have come whole are taken,
-- one Tick. Otherwise it does nothing more: too much waits to be sent, the firm is late, or the
-- turn's span is over
abbrev pub Rests : Left → Standing → Standing → Type 0
Rests left.Untaken before behind = (most_waiting < length before.out) × (behind ≡ before)
Rests left.Late before behind = behind ≡ before
Rests left.Spent before behind = behind ≡ before
Rests _ before behind = NextAnswers before.feed None × Ticks before behind

-- the messages that have come whole are taken, or those before the one at which the turn rests
abbrev pub TakesAll : HouseAndHistory → Standing → Standing → Left → Type 0
TakesAll opening before behind l =
    (n : ℕ) × (last : Standing) × Talks opening before n last × Rests l last behind

-- the firm's reports are read and told, where a firm has logged on
abbrev pub Reads : HouseAndHistory → Option (List ℕ) → Standing → Standing → Type 0
Reads opening None before behind = behind ≡ before
Reads opening (Some firm) before behind = Tells opening firm None before behind

-- no message is taken: one Tick, and the firm's reports
abbrev pub Idles : HouseAndHistory → Standing → Standing → Type 0
Idles opening before behind =
    (ticked : Standing) × Ticks before ticked
    × Reads opening ticked.session.link.firm ticked behind

-- a turn whose read has brought nothing: an idle one, or where the read was interrupted nothing
abbrev pub Waits : HouseAndHistory → Standing → Standing → Left → Type 0
Waits opening before behind left.Nothing = Idles opening before behind
Waits opening before behind left.Unread = behind ≡ before
Waits opening before behind _ = ⊥

-- a turn that reads no byte, or some, of which the messages are taken
abbrev pub TurnsRead : HouseAndHistory → Option (List ℕ) → Option (List ℕ) → Standing → Standing
    → Left → Type 0
TurnsRead opening coming left_over before behind l =
    (Keeps coming left_over × Waits opening before behind l)
    ⊎ ((piece : List ℕ) × Consumes coming left_over piece
    × TakesAll opening (comes piece before) behind l)

-- where the firm isn't late any more the messages are taken, and where it is none
abbrev pub TakesOrIdles : HouseAndHistory → Standing → Standing → Left → Type 0
TakesOrIdles opening before behind l =
    TakesAll opening before behind l ⊎ ((l ≡ left.Late) × Idles opening before behind)

-- a turn behind one that left this: behind one that left messages it reads nothing; behind
-- any other it reads
abbrev pub Turns : HouseAndHistory → Left → Option (List ℕ) → Option (List ℕ) → Standing → Standing
    → Left → Type 0
Turns opening left.Untaken coming left_over before behind l =
    (left_over ≡ coming) × TakesAll opening before behind l
Turns opening left.Spent coming left_over before behind l =
    (left_over ≡ coming) × TakesAll opening before behind l
Turns opening left.Late coming left_over before behind l =
    (left_over ≡ coming)
    × TakesOrIdles opening before behind l
Turns opening _ coming left_over before behind l =
    TurnsRead opening coming left_over before behind l

-- ---- a turn that closes the connection

-- the session's step over the next message of the bytes held, or over a Tick
abbrev pub Moves : Standing → Seen → Actions → Type 0
Moves before session a =
    ((feed : Stream) × (fields : Fields) × Learns before.feed before.session session feed fields a)
    ⊎ StepsNow event.Tick before.session session a

-- nothing is sent, or a Logout
abbrev pub IsLoggedOut : List ℕ → Seen → List ℕ → List ℕ → Type 0
IsLoggedOut house session out out_after =
    (text : List ℕ) × LogsOut house text session out out_after

-- what is done of a step in part: what it sends is sent, perhaps with a Logout behind it, and at
-- the most the call that it asks for is made
abbrev pub ActsInPart : List ℕ → HouseAndHistory → Actions → Standing → Standing → Type 0
ActsInPart house opening a before behind =
    AsksAtMost opening before.session.link.firm a.call before.seat behind.seat
    × IsLoggedOut house before.session (before.out ++ a.send.items) behind.out

-- nothing is asked, and nothing is sent
abbrev pub DoesNothing : Standing → Standing → Type 0
DoesNothing before behind = (behind.seat ≡ before.seat) × (behind.out ≡ before.out)

-- what is done of a step that isn't taken to its end: nothing, or a part
abbrev pub Breaks : List ℕ → HouseAndHistory → Standing → Standing → Type 0
Breaks house opening before behind =
    DoesNothing before behind
    ⊎ ((a : Actions) × (session : Seen) × Moves before session a
    × ActsInPart house opening a (record before { session = session }) behind)

-- so many frames are taken, and the step behind them isn't taken to its end
abbrev pub Closes : List ℕ → HouseAndHistory → Standing → Standing → Type 0
Closes house opening before behind =
    (n : ℕ) × (last : Standing) × Talks opening before n last × Breaks house opening last behind

-- the same of a turn: no byte is read, or some bytes
abbrev pub TurnsAndCloses : List ℕ → HouseAndHistory → Option (List ℕ) → Option (List ℕ) → Standing
    → Standing → Type 0
TurnsAndCloses house opening coming left_over before behind =
    (Keeps coming left_over × Closes house opening before behind)
    ⊎ ((piece : List ℕ) × Consumes coming left_over piece
    × Closes house opening (comes piece before) behind)
