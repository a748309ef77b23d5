-- What a connection is sent that is to be closed.
use Rattle.std.proofs.Common.{◌≡◌, ◌⊎◌, inl, inr, ℕ, zero, List, [], ◌++◌, Bool, true, false, OnErr, OnOk, Result}
use Rattle.std.proofs.Common.{Ok, Err, Option, Some, None, refl, sym, ◌∙◌, subst, ap, append-nil, take, length}
use Rattle.std.proofs.Math.Seq.{take-length}
use Rattle.std.specs.Prelude.{if◌then◌else◌, IfOk}
use Rattle.std.specs.Io.KnownBytes.{Keeps, Consumes, Appends}
use Rattle.jiff.specs.Types.{Timestamp}
use Rattle.gu_base.specs.Answers.{Call}
use Rattle.gu_base.specs.declared.command.Command.{Command}
use Rattle.gu_base.specs.declared.entry.Answer.{Answer}
use Rattle.gu_base.specs.declared.report.Report.{Report}
use Rattle.gu_book.specs.Seen.{HouseAndHistory}
use Rattle.gu_desk.specs.Views.{SeatView}
use Rattle.gu_session.specs.Going.{Going}
use Rattle.gu_session.specs.Steps.{Seen, Outcome, Reply, End, step_of, where_it_fits, shut_down, replies, idle, fits}
use Rattle.gu_session.specs.Text.{wire, Steps}
use Rattle.gu_session.specs.declared.event.Actions.{Actions}
use Rattle.gu_session.specs.declared.event.Event.{Event as TheEvent}
use Rattle.gu_session.specs.declared.event.Event.TheVariants as event
use Rattle.gu_connection.specs.Conversing.{Talk, RoundsAndCloses}
use Rattle.gu_connection.specs.Standing.{Standing, comes, says}
use Rattle.gu_connection.specs.Turns.{StepsNow, Shuts, Speaks, Brings}
use Rattle.gu_connection.specs.Asking.{Asks, Looks, LooksAtMost, AsksAtMost}
use Rattle.gu_connection.specs.Talks.{DoesNothing, ActsInPart, Breaks, Closes, Talks, Ticks, IsLoggedOut}
use Rattle.gu_connection.specs.Talks.{TurnsAndCloses, Turns}
use Rattle.gu_connection.specs.declared.beginning.Beginning.{Beginning}
use Rattle.gu_connection.specs.declared.connection.Brought.TheVariants as brought
use Rattle.gu_connection.specs.declared.worker.Left.{Left}

-- where the step closes the session, it sends nothing
abbrev IsSilent : Outcome → Type 0
IsSilent o = o.close ≡ true → o.send ≡ []

either : (b : Bool) (x y : Outcome) → IsSilent x → IsSilent y → IsSilent (if b then x else y)
either true x y p q = p
either false x y p q = q

either_silent : (b : Bool) (x y : Outcome) → x.send ≡ [] → y.send ≡ [] → (if b then x else y).send ≡ []
either_silent true x y p q = p
either_silent false x y p q = q

by_firm : (now : Timestamp) (s : Seen) (f : Option (List ℕ)) (answer : Option Answer) (told : List Report)
    → IsSilent (replies now s f answer told)
by_firm now s None answer told = λ e. refl
by_firm now s (Some f) answer told = λ e. absurd (cc e)

of_reply : (now : Timestamp) (s : Seen) (answer : Option Answer) (told : List Report)
    → IsSilent (step_of now s (Reply answer told))
of_reply now s answer told =
    let o : Outcome = replies now s s.link.firm answer told in
    either s.link.closed (idle now s) (where_it_fits now s o) (λ e. refl)
    (either (fits o.after.link) o (shut_down now s) (by_firm now s s.link.firm answer told) (λ e. refl))

wire_none : (house : List ℕ) (f : Option (List ℕ)) (time : List ℕ) → wire house f time [] ≡ []
wire_none house None time = refl
wire_none house (Some f) time = refl

-- so what is to be sent stays
pub reply_shuts : (answer : Option Answer) (reports : _) (before : Seen) (out left : List ℕ)
    → Shuts (event.Reply answer reports) before out left → left ≡ out
reply_shuts answer reports before out left (inl same) = same
reply_shuts answer reports before out left (inr s) =
    let now : Timestamp = s.2.0 in
    let o : Outcome = step_of now before (Reply answer reports.items) in
    let none : o.send ≡ [] = of_reply now before answer reports.items (sym s.2.2.close ∙ s.4) in
    let wired : List Going → List ℕ = λ (ms : List Going). wire o.after.house.house o.after.link.firm o.time ms in
    let sent : s.1.send.items ≡ [] =
    s.2.2.send ∙ ap wired none ∙ wire_none o.after.house.house o.after.link.firm o.time in
    s.3 ∙ ap (λ (l : List ℕ). out ++ l) sent ∙ append-nil out

-- where the session took the event and what it sends was not to be put behind, it closes
pub shuts : {A E : Type 0} (r : Result A E) (e : TheEvent) (before after : Seen) (out left : List ℕ) (a : Actions)
    → StepsNow e before after a → OnErr r ((left ≡ out) ⊎ ((left ≡ out ++ a.send.items) × (a.close ≡ true)))
    → OnErr r (Shuts e before out left)
shuts (Ok x) e before after out left a steps sent = tt
shuts (Err f) e before after out left a steps (inl same) = inl same
shuts (Err f) e before after out left a steps (inr sent) = inr (after, a, steps, sent.0, sent.1)

-- the end of a session sends nothing
no_word : (now : Timestamp) (s : Seen) → (step_of now s End).send ≡ []
no_word now s =
    either_silent s.link.closed (idle now s) (where_it_fits now s (shut_down now s)) refl
    (either_silent (fits (shut_down now s).after.link) (shut_down now s) (shut_down now s) refl refl)

stays : (now : Timestamp) (before after : Seen) (a : Actions) (out left : List ℕ)
    → Steps now event.End before after a → left ≡ out ++ a.send.items → left ≡ out
stays now before after a out left steps sends =
    let o : Outcome = step_of now before End in
    let wired : List Going → List ℕ = λ (ms : List Going). wire o.after.house.house o.after.link.firm o.time ms in
    let sent : a.send.items ≡ [] =
    steps.send ∙ ap wired (no_word now before) ∙ wire_none o.after.house.house o.after.link.firm o.time in
    sends ∙ ap (λ (l : List ℕ). out ++ l) sent ∙ append-nil out

pub ended : {A E : Type 0} (r : Result A E) (before after : Seen) (out left : List ℕ)
    → OnOk r (Speaks event.End before after out left) → OnErr r (Shuts event.End before out left) → left ≡ out
ended (Ok x) before after out left speaks shuts = stays speaks.1.0 before after speaks.0 out left speaks.1.2 speaks.2
ended (Err e) before after out left speaks (inl same) = same
ended (Err e) before after out left speaks (inr s) = stays s.2.0 before s.0 s.1 out left s.2.2 s.3

-- a call that is asked for, and whose answer isn't told
pub asked_only : {A E : Type 0} (r : Result A E) (opening : HouseAndHistory) (firm : Option (List ℕ)) (c : Call)
    (answer : Answer) (old between new : SeatView) → firm ≡ Some c.firm → Asks opening c answer old between
    → Looks opening between new → OnErr r (AsksAtMost opening firm (Some (c.id, c.command)) old new)
asked_only (Ok x) opening firm c answer old between new by asks looks = tt
asked_only (Err e) opening firm c answer old between new by asks looks = inr (inr (record {
  made = c;
  by = by;
  is = refl;
  answer = answer;
  between = between;
  asks = asks;
  looks = looks;
}))

-- what a message's step sends was not put behind, or it closes the session
pub sent_last : (house : List ℕ) (opening : HouseAndHistory) (a : Actions) (before sent : Standing)
    → sent.seat ≡ before.seat
    → (sent.out ≡ before.out) ⊎ ((sent.out ≡ before.out ++ a.send.items) × (a.close ≡ true))
    → DoesNothing before sent ⊎ ActsInPart house opening a before sent
sent_last house opening a before sent seat (inl same) = inl (seat, same)
sent_last house opening a before sent seat (inr out) = inr (inl seat, ([], inl out.0))

-- the call of a message's step is not answered
pub unanswered : {A E : Type 0} (r : Result A E) (house : List ℕ) (opening : HouseAndHistory) (a : Actions)
    (id : List ℕ) (command : Command) (before sent behind : Standing) → a.call ≡ Some (id, command)
    → sent ≡ says a before → OnErr r (IsLoggedOut house sent.session sent.out behind.out)
    → OnErr r (AsksAtMost opening sent.session.link.firm (Some (id, command)) sent.seat behind.seat)
    → OnErr r (DoesNothing before behind ⊎ ActsInPart house opening a before behind)
unanswered (Ok x) house opening a id command before sent behind is same logged asks = tt
unanswered (Err e) house opening a id command before sent behind is same logged asks =
    let of_call : Option (List ℕ × Command) → Type 0 =
    λ c. AsksAtMost opening before.session.link.firm c before.seat behind.seat in
    let of_seat : Standing → Type 0 =
    λ s. AsksAtMost opening s.session.link.firm (Some (id, command)) s.seat behind.seat in
    let of_out : Standing → Type 0 = λ s. IsLoggedOut house s.session s.out behind.out in
    inr (subst of_call (sym is) (subst of_seat same asks), subst of_out same logged)

-- a message that is not done to its end
pub said_last : (house : List ℕ) (opening : HouseAndHistory) (a : Actions) (before next behind : Standing)
    → Brings before.book before.feed before.session next.session next.feed (brought.Message a)
    → next ≡ record before { session = next.session; feed = next.feed }
    → DoesNothing next behind ⊎ ActsInPart house opening a next behind → Breaks house opening before behind
said_last house opening a before next behind brings same (inl nothing) =
    let at : Standing → Type 0 = λ s. DoesNothing s behind in
    inl (subst at same nothing)
said_last house opening a before next behind brings same (inr part) =
    let at : Standing → Type 0 = λ s. ActsInPart house opening a s behind in
    inr (a, next.session, inl (next.feed, brings.0, brings.1), subst at same part)

-- and a Logon
pub entered_last : (house : List ℕ) (opening : HouseAndHistory) (a : Actions) (asked : Beginning)
    (before next behind : Standing)
    → Brings before.book before.feed before.session next.session next.feed (brought.Logon a asked)
    → next ≡ record before { session = next.session; feed = next.feed }
    → DoesNothing next behind ⊎ ActsInPart house opening a next behind → Breaks house opening before behind
entered_last house opening a asked before next behind brings same (inl nothing) =
    let at : Standing → Type 0 = λ s. DoesNothing s behind in
    inl (subst at same nothing)
entered_last house opening a asked before next behind brings same (inr part) =
    let at : Standing → Type 0 = λ s. ActsInPart house opening a s behind in
    inr (a, next.session, inl (next.feed, brings.0, brings.1), subst at same part)

-- a look is no call
looked : (opening : HouseAndHistory) (firm : Option (List ℕ)) (call : Option (List ℕ × Command))
    (old new : SeatView) → LooksAtMost opening old new → AsksAtMost opening firm call old new
looked opening firm call old new (inl same) = inl same
looked opening firm call old new (inr looks) = inr (inl looks)

-- a Logon behind which a Logout says that its reports have nowhere to begin
pub not_begun : {A E : Type 0} (r : Result A E) (house : List ℕ) (opening : HouseAndHistory) (a : Actions)
    (before sent behind : Standing) → sent ≡ says a before
    → OnErr r (IsLoggedOut house sent.session sent.out behind.out) → LooksAtMost opening sent.seat behind.seat
    → OnErr r (DoesNothing before behind ⊎ ActsInPart house opening a before behind)
not_begun (Ok x) house opening a before sent behind same logged looks = tt
not_begun (Err e) house opening a before sent behind same logged looks =
    let of_seat : Standing → Type 0 = λ s. LooksAtMost opening s.seat behind.seat in
    let of_out : Standing → Type 0 = λ s. IsLoggedOut house s.session s.out behind.out in
    inr (
      looked opening before.session.link.firm a.call before.seat behind.seat (subst of_seat same looks),
      subst of_out same logged,
    )

-- a Tick that closes the session
pub ticked_last : (house : List ℕ) (opening : HouseAndHistory) (before behind : Standing) → behind.seat ≡ before.seat
    → Shuts event.Tick before.session before.out behind.out → Breaks house opening before behind
ticked_last house opening before behind seat (inl same) = inl (seat, same)
ticked_last house opening before behind seat (inr s) =
    inr (s.1, s.0, inr s.2, (inl seat, ([], inl s.3)))

-- a Tick behind which a Logout says that the clock was set
pub timed_out : (house : List ℕ) (opening : HouseAndHistory) (before ticked behind : Standing)
    → behind.seat ≡ before.seat
    → Speaks event.Tick before.session ticked.session before.out ticked.out
    → IsLoggedOut house ticked.session ticked.out behind.out → Breaks house opening before behind
timed_out house opening before ticked behind seat speaks logged =
    let at : List ℕ → Type 0 = λ o. IsLoggedOut house ticked.session o behind.out in
    inr (speaks.0, ticked.session, inr speaks.1, (inl seat, subst at speaks.2 logged))

-- a Tick behind which the reports are not told
pub untold : (house : List ℕ) (opening : HouseAndHistory) (before ticked behind : Standing) → Ticks before ticked
    → Looks opening ticked.seat behind.seat → behind.out ≡ ticked.out → Breaks house opening before behind
untold house opening before ticked behind ticks looks same =
    let at : Standing → Type 0 = λ s. Looks opening s.seat behind.seat in
    inr (
      ticks.0.0,
      ticked.session,
      inr ticks.0.1,
      (inr (inl (subst at ticks.1 looks)), ([], inl (same ∙ ticks.0.2))),
    )

-- no frame is taken
pub at_once : {A E : Type 0} (r : Result A E) (house : List ℕ) (opening : HouseAndHistory) (before behind : Standing)
    → OnErr r (Breaks house opening before behind) → OnErr r (Closes house opening before behind)
at_once (Ok x) house opening before behind breaks = tt
at_once (Err e) house opening before behind breaks = (zero, before, refl, breaks)

-- a turn whose Tick closes the session
pub closed : {A E : Type 0} (r : Result A E) (house : List ℕ) (opening : HouseAndHistory)
    (before last next behind : Standing) → ((n : ℕ) × Talks opening before n last) → next ≡ last
    → OnErr r (Breaks house opening next behind) → OnErr r (Closes house opening before behind)
closed (Ok x) house opening before last next behind talks same breaks = tt
closed (Err e) house opening before last next behind talks same breaks =
    let at : Standing → Type 0 = λ s. Breaks house opening s behind in
    (talks.0, last, talks.1, subst at same breaks)

-- a turn behind what has come
pub come_last : {A E : Type 0} (r : Result A E) (house : List ℕ) (opening : HouseAndHistory) (piece : List ℕ)
    (before given behind : Standing) → given ≡ comes piece before → OnErr r (Closes house opening given behind)
    → OnErr r (Closes house opening (comes piece before) behind)
come_last r house opening piece before given behind same closes =
    let at : Standing → Type 0 = λ s. OnErr r (Closes house opening s behind) in
    subst at same closes

-- a turn whose read fails
pub unread_last : {A E : Type 0} (r : Result A E) (house : List ℕ) (opening : HouseAndHistory)
    (coming left : Option (List ℕ)) (before behind : Standing) → Keeps coming left
    → OnErr r (Breaks house opening before behind) → OnErr r (TurnsAndCloses house opening coming left before behind)
unread_last (Ok x) house opening coming left before behind keeps breaks = tt
unread_last (Err e) house opening coming left before behind keeps breaks =
    inl (keeps, (zero, before, refl, breaks))

-- a turn whose read finds the end
pub at_end : {A E : Type 0} (r : Result A E) (house : List ℕ) (opening : HouseAndHistory)
    (coming left : Option (List ℕ))
    (n : ℕ) (buf : List ℕ) (before behind : Standing) → n ≡ 0 → Consumes coming left (take n buf)
    → DoesNothing before behind → OnErr r (TurnsAndCloses house opening coming left before behind)
at_end (Ok x) house opening coming left n buf before behind none reads nothing = tt
at_end (Err e) house opening coming left n buf before behind none reads nothing =
    let at : ℕ → Type 0 = λ k. Consumes coming left (take k buf) in
    inr ([], subst at none reads, (zero, comes [] before, refl, inl nothing))

-- a turn that closes the connection, and whose whole text was written, or a front of it
pub cut_short : {E : Type 0} (r : Result Left E) (house : List ℕ) (opening : HouseAndHistory) (before : Talk)
    (unread holds : Option (List ℕ)) (turned : Standing) → ((n : ℕ) × Appends before.written holds (take n turned.out))
    → IfOk r (λ l. Turns opening before.left before.unread unread before.at turned l)
    → OnErr r (TurnsAndCloses house opening before.unread unread before.at turned)
    → RoundsAndCloses house opening before (record { seat = turned.seat; unread = unread; written = holds })
cut_short (Ok l) house opening before unread holds turned writes turns closes =
    record { turned = turned; seat = refl; turns = inl (l, turns); writes = writes }
cut_short (Err e) house opening before unread holds turned writes turns closes =
    record { turned = turned; seat = refl; turns = inr closes; writes = writes }

pub closed_by : {E : Type 0} (r : Result Left E) (house : List ℕ) (opening : HouseAndHistory) (before : Talk)
    (unread holds : Option (List ℕ)) (turned : Standing) → Appends before.written holds turned.out
    → OnErr r (TurnsAndCloses house opening before.unread unread before.at turned)
    → OnErr r (RoundsAndCloses house opening before (record { seat = turned.seat; unread = unread; written = holds }))
closed_by (Ok l) house opening before unread holds turned written closes = tt
closed_by (Err e) house opening before unread holds turned written closes =
    let at : List ℕ → Type 0 = λ t. Appends before.written holds t in
    record {
      turned = turned;
      seat = refl;
      turns = inr closes;
      writes = (length turned.out, subst at (sym (take-length turned.out)) written);
    }
