-- Where a connection stands after the calls of a turn.
use Rattle.std.proofs.Common.{◌≡◌, ℕ, List, [], ◌++◌, Bool, true, refl, Option, option_map, ap}
use Rattle.gu_codec.specs.Stream.{Stream}
use Rattle.gu_command.specs.declared.naming.NamedBook.{NamedBook}
use Rattle.gu_desk.specs.Views.{SeatView}
use Rattle.gu_session.specs.Steps.{Seen}
use Rattle.gu_session.specs.declared.event.Actions.{Actions}
use Rattle.gu_connection.specs.Standing.{Standing, stands, comes, says}
use Rattle.gu_connection.specs.declared.connection.Connection.{Connection}

-- two that are alike in each part are one
made : (seat s : SeatView) (book k : Option NamedBook) (session t : Seen) (feed f : Stream) (out o : List ℕ)
    (told n looked m : ℕ) (behind b tells d : Bool) → seat ≡ s → book ≡ k → session ≡ t → feed ≡ f → out ≡ o → told ≡ n
    → looked ≡ m → behind ≡ b → tells ≡ d
    → (let x : Standing = record {
      seat = seat;
      book = book;
      session = session;
      feed = feed;
      out = out;
      told = told;
      looked = looked;
      behind = behind;
      tells = tells;
    } in x) ≡ record {
      seat = s;
      book = k;
      session = t;
      feed = f;
      out = o;
      told = n;
      looked = m;
      behind = b;
      tells = d;
    }
made seat s book k session t feed f out o told n looked m behind b tells d p y q r u v w x z = cc

alike : (a b : Standing) → a.seat ≡ b.seat → a.book ≡ b.book → a.session ≡ b.session → a.feed ≡ b.feed → a.out ≡ b.out
    → a.told ≡ b.told → a.looked ≡ b.looked → a.behind ≡ b.behind → a.tells ≡ b.tells → a ≡ b
alike a b seat book session feed out told looked behind tells =
    made a.seat b.seat a.book b.book a.session b.session a.feed b.feed a.out b.out a.told b.told a.looked b.looked
    a.behind b.behind a.tells b.tells seat book session feed out told looked behind tells

-- a connection is to the same book, and its readings have come as far as before
pub record SameReadings (before next : Connection) : Type 0 where
  pub book : next.book ≡ before.book
  pub told : next.told ≡ before.told
  pub looked : next.looked ≡ before.looked
  pub behind : next.behind ≡ before.behind
  pub tells : next.tells ≡ before.tells

same_book : (before next : Connection) → SameReadings before next
    → option_map (λ b. b.now) next.book ≡ option_map (λ b. b.now) before.book
same_book before next same = ap (option_map (λ b. b.now)) same.book

-- nothing has changed
pub unchanged : (seat : SeatView) (before next : Connection) → next.session ≡ before.session
    → next.feed ≡ before.feed → next.out.items ≡ before.out.items → SameReadings before next
    → stands seat next ≡ stands seat before
unchanged seat before next session feed out same =
    alike (stands seat next) (stands seat before) refl (same_book before next same) session feed out
    same.told same.looked same.behind same.tells

-- a frame was taken from the bytes held, and the session has learned of it
pub moved : (seat : SeatView) (before next : Connection) → next.out.items ≡ before.out.items
    → SameReadings before next
    → stands seat next ≡ record (stands seat before) { session = next.session; feed = next.feed }
moved seat before next out same =
    alike (stands seat next) (record (stands seat before) { session = next.session; feed = next.feed }) refl
    (same_book before next same) refl refl out same.told same.looked same.behind same.tells

-- what a step sends was put behind what the turn sends
pub said : (seat : SeatView) (a : Actions) (before next : Connection) → next.session ≡ before.session
    → next.feed ≡ before.feed → next.out.items ≡ before.out.items ++ a.send.items → SameReadings before next
    → stands seat next ≡ says a (stands seat before)
said seat a before next session feed out same =
    alike (stands seat next) (says a (stands seat before)) refl (same_book before next same) session feed out
    same.told same.looked same.behind same.tells

-- the reports begin above an entry
pub begun_above : (old seat : SeatView) (number : ℕ) (before next : Connection) → next.book ≡ before.book
    → next.session ≡ before.session → next.feed ≡ before.feed → next.out.items ≡ before.out.items
    → next.told ≡ number → next.looked ≡ number → next.behind ≡ before.behind → next.tells ≡ true
    → stands seat next ≡ record (stands old before) { seat = seat; told = number; looked = number; tells = true }
begun_above old seat number before next book session feed out told looked behind tells =
    alike (stands seat next)
    (record (stands old before) { seat = seat; told = number; looked = number; tells = true }) refl
    (ap (option_map (λ b. b.now)) book) session feed out told looked behind tells

-- the session took an event that leads to no call
pub spoken : (seat : SeatView) (before next : Connection) → next.feed ≡ before.feed → SameReadings before next
    → stands seat next ≡ record (stands seat before) { session = next.session; out = next.out.items }
spoken seat before next feed same =
    alike (stands seat next) (record (stands seat before) { session = next.session; out = next.out.items }) refl
    (same_book before next same) refl feed refl same.told same.looked same.behind same.tells

-- these bytes have come
pub came : (seat : SeatView) (piece : List ℕ) (before next : Connection) → next.session ≡ before.session
    → next.feed ≡ record before.feed { held = before.feed.held ++ piece } → next.out.items ≡ before.out.items
    → SameReadings before next → stands seat next ≡ comes piece (stands seat before)
came seat piece before next session feed out same =
    alike (stands seat next) (comes piece (stands seat before)) refl (same_book before next same) session feed out
    same.told same.looked same.behind same.tells

-- all that the turn sends is gone
pub written : (seat : SeatView) (before next : Connection) → next.session ≡ before.session
    → next.feed ≡ before.feed → next.out.items ≡ [] → SameReadings before next
    → stands seat next ≡ record (stands seat before) { out = [] }
written seat before next session feed out same =
    alike (stands seat next) (record (stands seat before) { out = [] }) refl (same_book before next same) session feed
    out same.told same.looked same.behind same.tells
