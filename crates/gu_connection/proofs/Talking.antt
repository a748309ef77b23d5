-- What the steps of a turn do together.
use Rattle.std.proofs.Common.{◌≡◌, ℕ, suc, Bool, false, OnOk, Result, Ok}
use Rattle.std.proofs.Common.{Err, Option, Some, None, refl, sym, subst, List}
use Rattle.std.specs.Prelude.{IfOk}
use Rattle.gu_base.specs.declared.command.Command.{Command}
use Rattle.gu_book.specs.Seen.{HouseAndHistory}
use Rattle.gu_codec.specs.Next.{NextAnswers}
use Rattle.gu_session.specs.declared.event.Actions.{Actions}
use Rattle.gu_connection.specs.Standing.{Standing, comes, says}
use Rattle.gu_connection.specs.Talks.{Tells, Calls, Acts, Takes, Talks, Ticks, Rests, TakesAll, IsOfRead, Idles, Reads}
use Rattle.gu_connection.specs.Talks.{TurnsRead, Turns, Begins, Enters, Waits, IsSpentBy}
use Rattle.gu_connection.specs.declared.beginning.Beginning.{Beginning}
use Rattle.gu_connection.specs.Turns.{Brings}
use Rattle.gu_connection.specs.declared.connection.Brought.TheVariants as brought
use Rattle.gu_connection.specs.declared.worker.Left.{Left}
use Rattle.gu_connection.specs.declared.worker.Left.TheVariants as left

-- a message whose step makes a call
pub acted : {A E : Type 0} (r : Result A E) (opening : HouseAndHistory) (a : Actions) (id : List ℕ) (command : Command)
    (before sent behind : Standing) → a.call ≡ Some (id, command) → sent ≡ says a before → a.close ≡ false
    → OnOk r (Calls opening id command sent behind) → OnOk r (Acts opening a before behind)
acted (Ok x) opening a id command before sent behind is same stays calls =
    let at : Standing → Type 0 = λ s. Calls opening id command s behind in
    (stays, rw is (subst at same calls))
acted (Err e) opening a id command before sent behind is same stays calls = tt

-- and one whose step makes none
pub sent_on : (opening : HouseAndHistory) (a : Actions) (before sent : Standing) → a.call ≡ None
    → sent ≡ says a before → a.close ≡ false → Acts opening a before sent
sent_on opening a before sent is same stays = (stays, rw is same)

-- a garbled frame is passed over
pub passed : (opening : HouseAndHistory) (before next : Standing)
    → Brings before.book before.feed before.session next.session next.feed brought.Garbled
    → next ≡ record before { session = next.session; feed = next.feed } → Takes opening before next
passed opening before next brings same = record {
  came = brought.Garbled;
  session = next.session;
  feed = next.feed;
  brings = brings;
  follows = same;
}

-- a message is taken
pub took : (opening : HouseAndHistory) (a : Actions) (before next behind : Standing)
    → Brings before.book before.feed before.session next.session next.feed (brought.Message a)
    → next ≡ record before { session = next.session; feed = next.feed } → Acts opening a next behind
    → Takes opening before behind
took opening a before next behind brings same acts =
    let at : Standing → Type 0 = λ s. Acts opening a s behind in
    record {
      came = brought.Message a;
      session = next.session;
      feed = next.feed;
      brings = brings;
      follows = subst at same acts;
    }

-- a Logon is taken
pub entered : (opening : HouseAndHistory) (a : Actions) (asked : Beginning) (before next behind : Standing)
    → Brings before.book before.feed before.session next.session next.feed (brought.Logon a asked)
    → next ≡ record before { session = next.session; feed = next.feed } → Enters opening a asked next behind
    → Takes opening before behind
entered opening a asked before next behind brings same enters =
    let at : Standing → Type 0 = λ s. Enters opening a asked s behind in
    record {
      came = brought.Logon a asked;
      session = next.session;
      feed = next.feed;
      brings = brings;
      follows = subst at same enters;
    }

-- and its reports begin
pub begun : {A E : Type 0} (r : Result A E) (opening : HouseAndHistory) (a : Actions) (asked : Beginning)
    (before sent behind : Standing) → sent ≡ says a before → a.close ≡ false
    → OnOk r (Begins opening asked sent behind) → OnOk r (Enters opening a asked before behind)
begun (Ok x) opening a asked before sent behind same stays begins =
    let at : Standing → Type 0 = λ s. Begins opening asked s behind in
    (stays, subst at same begins)
begun (Err e) opening a asked before sent behind same stays begins = tt

-- one frame more
pub goes_on : (opening : HouseAndHistory) (before between behind : Standing) →
    ((n : ℕ) × Talks opening before n between)
    → Takes opening between behind → (n : ℕ) × Talks opening before n behind
goes_on opening before between behind t k = (suc t.0, (between, t.1, k))

-- what a turn leaves that ends with a Tick
rests_at : (l : Left) (last behind : Standing) → IsOfRead l → NextAnswers last.feed None × Ticks last behind
    → Rests l last behind
rests_at left.Nothing last behind h end = end
rests_at left.Unread last behind h end = end
rests_at left.Untaken last behind h end = absurd h
rests_at left.Late last behind h end = absurd h
rests_at left.Spent last behind h end = absurd h

-- none of these is left since a span is over
read_unspent : (b : Bool) (l : Left) → IsOfRead l → IsSpentBy b l
read_unspent b left.Nothing h = tt
read_unspent b left.Unread h = tt
read_unspent b left.Untaken h = absurd h
read_unspent b left.Late h = absurd h
read_unspent b left.Spent h = absurd h

-- a turn that leaves this is over by its span only where it has one
pub unspent : {E : Type 0} (r : Result Left E) (b : Bool) (l : Left) (p : Type 0) → IsSpentBy b l
    → IfOk r (λ k. (k ≡ l) × p) → IfOk r (λ k. IsSpentBy b k)
unspent (Ok k) b l p is does = subst (λ (m : Left). IsSpentBy b m) (sym does.0) is
unspent (Err e) b l p is does = tt

pub unspent_read : {E : Type 0} (r : Result Left E) (b : Bool) (l : Left) (p : Type 0) → IsOfRead l
    → IfOk r (λ k. (k ≡ l) × p) → IfOk r (λ k. IsSpentBy b k)
unspent_read r b l p of_read does = unspent r b l p (read_unspent b l of_read) does

wait_unspent : (b : Bool) (l : Left) (opening : HouseAndHistory) (before behind : Standing)
    → Waits opening before behind l → IsSpentBy b l
wait_unspent b left.Nothing opening before behind waits = tt
wait_unspent b left.Unread opening before behind waits = tt
wait_unspent b left.Untaken opening before behind waits = tt
wait_unspent b left.Late opening before behind waits = tt
wait_unspent b left.Spent opening before behind waits = absurd waits

pub unspent_wait : {E : Type 0} (r : Result Left E) (b : Bool) (opening : HouseAndHistory) (before behind : Standing)
    → IfOk r (λ l. Waits opening before behind l) → IfOk r (λ l. IsSpentBy b l)
unspent_wait (Ok l) b opening before behind waits = wait_unspent b l opening before behind waits
unspent_wait (Err e) b opening before behind waits = tt

-- the end of a turn that has taken all messages
pub rested : {E : Type 0} (r : Result Left E) (opening : HouseAndHistory) (before last next behind : Standing)
    (l : Left)
    → IsOfRead l → ((n : ℕ) × Talks opening before n last) → NextAnswers last.feed None × (next ≡ last)
    → IfOk r (λ k. (k ≡ l) × Ticks next behind) → IfOk r (λ k. TakesAll opening before behind k)
rested (Ok k) opening before last next behind l of_read talks none ticks =
    let rests : Left → Type 0 = λ m. Rests m last behind in
    let at : Standing → Type 0 = λ s. Ticks s behind in (
      talks.0,
      last,
      talks.1,
      subst rests (sym ticks.0)
          (rests_at l last behind of_read (none.0, subst at none.1 ticks.1)),
    )
rested (Err e) opening before last next behind l of_read talks none ticks = tt

-- an idle turn of a connection whose firm hasn't logged on
pub idle_unnamed : (opening : HouseAndHistory) (before behind : Standing) → Ticks before behind
    → behind.session.link.firm ≡ None → Idles opening before behind
idle_unnamed opening before behind ticks nobody =
    let at : Option (List ℕ) → Type 0 = λ f. Reads opening f behind behind in
    (behind, ticks, subst at (sym nobody) refl)

-- and of one whose firm has
pub idle_named : (opening : HouseAndHistory) (firm : List ℕ) (before ticked behind : Standing) → Ticks before ticked
    → ticked.session.link.firm ≡ Some firm → Tells opening firm None ticked behind → Idles opening before behind
idle_named opening firm before ticked behind ticks named tells =
    let at : Option (List ℕ) → Type 0 = λ f. Reads opening f ticked behind in
    (ticked, ticks, subst at (sym named) tells)

-- the messages of what has come
pub come : {E : Type 0} (r : Result Left E) (opening : HouseAndHistory) (piece : List ℕ)
    (before given behind : Standing)
    → given ≡ comes piece before → IfOk r (λ l. TakesAll opening given behind l)
    → IfOk r (λ l. TakesAll opening (comes piece before) behind l)
come r opening piece before given behind same takes =
    let at : Standing → Type 0 = λ s. IfOk r (λ l. TakesAll opening s behind l) in
    subst at same takes

-- a turn that reads
pub read_at : (opening : HouseAndHistory) (l : Left) (coming left_over : Option (List ℕ)) (before behind : Standing)
    (k : Left) → IsOfRead l → TurnsRead opening coming left_over before behind k
    → Turns opening l coming left_over before behind k
read_at opening left.Nothing coming left_over before behind k h turns = turns
read_at opening left.Unread coming left_over before behind k h turns = turns
read_at opening left.Untaken coming left_over before behind k h turns = absurd h
read_at opening left.Late coming left_over before behind k h turns = absurd h
read_at opening left.Spent coming left_over before behind k h turns = absurd h
