-- What a turn does that was told nothing of the book: whatever a seat has seen, it is the same.
use Rattle.std.proofs.Common.{◌≡◌, ◌⊎◌, inl, inr, ℕ, zero, suc, List, Bool, true, false, Option, Some, None, sym, ap}
use Rattle.std.proofs.Common.{◌∙◌}
use Rattle.gu_base.specs.declared.command.Command.{Command}
use Rattle.gu_book.specs.Seen.{HouseAndHistory}
use Rattle.gu_desk.specs.Views.{SeatView}
use Rattle.gu_connection.specs.Standing.{Standing, comes, says}
use Rattle.gu_connection.specs.Talks.{Answered, Follows, Takes, Talks, Ticks, Rests, TakesAll, Reads, Idles, Waits}
use Rattle.gu_connection.specs.Talks.{TurnsRead, TakesOrIdles, Turns}
use Rattle.gu_connection.specs.declared.connection.Brought.{Brought}
use Rattle.gu_connection.specs.declared.connection.Brought.TheVariants as brought
use Rattle.gu_connection.specs.declared.worker.Left.{Left}
use Rattle.gu_connection.specs.declared.worker.Left.TheVariants as left

-- where a connection stands with another seat
abbrev at : SeatView → Standing → Standing
at s x = record x { seat = s }

moved : (s : SeatView) (x y : Standing) → x ≡ y → at s x ≡ at s y
moved s x y same = ap (λ (z : Standing). at s z) same

as_told : (x y : Standing) → x ≡ y → x.tells ≡ y.tells
as_told x y same = ap (λ (z : Standing). z.tells) same

untold_too : (x y : Standing) → x ≡ y → x.tells ≡ false → y.tells ≡ false
untold_too x y same untold = sym (as_told x y same) ∙ untold

clash : (b : Bool) → b ≡ true → b ≡ false → ⊥
clash b told untold = absurd (cc (told, untold))

ticks_at : (s : SeatView) (before behind : Standing) → Ticks before behind → Ticks (at s before) (at s behind)
ticks_at s before behind ticks =
    (ticks.0, moved s behind (record before { session = behind.session; out = behind.out }) ticks.1)

ticks_tell : (before behind : Standing) → Ticks before behind → behind.tells ≡ before.tells
ticks_tell before behind ticks =
    as_told behind (record before { session = behind.session; out = behind.out }) ticks.1

answered_at : (s : SeatView) (opening : HouseAndHistory) (c : Option (List ℕ × Command)) (before behind : Standing)
    → Answered opening c before behind → behind.tells ≡ false
    → Answered opening c (at s before) (at s behind) × (before.tells ≡ false)
answered_at s opening None before behind same untold =
    (moved s behind before same, untold_too behind before same untold)
answered_at s opening (Some c) before behind calls untold =
    absurd (clash behind.tells calls.tells.2.tells untold)

follows_at : (s : SeatView) (opening : HouseAndHistory) (b : Brought) (before behind : Standing)
    → Follows opening b before behind → behind.tells ≡ false
    → Follows opening b (at s before) (at s behind) × (before.tells ≡ false)
follows_at s opening brought.Nothing before behind none untold = absurd none
follows_at s opening brought.Garbled before behind same untold =
    (moved s behind before same, untold_too behind before same untold)
follows_at s opening (brought.Message a) before behind acts untold =
    let answered = answered_at s opening a.call (says a before) behind acts.1 untold in
    ((acts.0, answered.0), answered.1)
follows_at s opening (brought.Logon a asked) before behind enters untold =
    let b = enters.1 in
    let begun : Standing =
    record (says a before) { seat = behind.seat; told = b.0; looked = b.0; tells = true } in
    absurd (clash behind.tells (as_told behind begun b.3) untold)

takes_at : (s : SeatView) (opening : HouseAndHistory) (before behind : Standing) → Takes opening before behind
    → behind.tells ≡ false → Takes opening (at s before) (at s behind) × (before.tells ≡ false)
takes_at s opening before behind t untold =
    let follows =
    follows_at s opening t.came (record before { session = t.session; feed = t.feed }) behind t.follows untold in (
      record {
        came = t.came;
        session = t.session;
        feed = t.feed;
        brings = t.brings;
        follows = follows.0;
      },
      follows.1,
    )

talks_at : (s : SeatView) (opening : HouseAndHistory) (before : Standing) (n : ℕ) (behind : Standing)
    → Talks opening before n behind → behind.tells ≡ false → Talks opening (at s before) n (at s behind)
talks_at s opening before zero behind same untold = moved s behind before same
talks_at s opening before (suc n) behind t untold =
    let takes = takes_at s opening t.0 behind t.2 untold in
    (at s t.0, talks_at s opening before n t.0 t.1 takes.1, takes.0)

rests_at : (s : SeatView) (l : Left) (last behind : Standing) → Rests l last behind
    → Rests l (at s last) (at s behind) × (behind.tells ≡ last.tells)
rests_at s left.Nothing last behind r = ((r.0, ticks_at s last behind r.1), ticks_tell last behind r.1)
rests_at s left.Unread last behind r = ((r.0, ticks_at s last behind r.1), ticks_tell last behind r.1)
rests_at s left.Untaken last behind r = ((r.0, moved s behind last r.1), as_told behind last r.1)
rests_at s left.Late last behind r = (moved s behind last r, as_told behind last r)
rests_at s left.Spent last behind r = (moved s behind last r, as_told behind last r)

all_at : (s : SeatView) (opening : HouseAndHistory) (before behind : Standing) (l : Left)
    → TakesAll opening before behind l → behind.tells ≡ false → TakesAll opening (at s before) (at s behind) l
all_at s opening before behind l t untold =
    let rests = rests_at s l t.1 behind t.3 in
    (t.0, at s t.1, talks_at s opening before t.0 t.1 t.2 (sym rests.1 ∙ untold), rests.0)

reads_at : (s : SeatView) (opening : HouseAndHistory) (firm : Option (List ℕ)) (before behind : Standing)
    → Reads opening firm before behind → behind.tells ≡ false → Reads opening firm (at s before) (at s behind)
reads_at s opening None before behind same untold = moved s behind before same
reads_at s opening (Some f) before behind tells untold = absurd (clash behind.tells tells.2.tells untold)

idles_at : (s : SeatView) (opening : HouseAndHistory) (before behind : Standing) → Idles opening before behind
    → behind.tells ≡ false → Idles opening (at s before) (at s behind)
idles_at s opening before behind i untold =
    (at s i.0, ticks_at s before i.0 i.1, reads_at s opening i.0.session.link.firm i.0 behind i.2 untold)

waits_at : (s : SeatView) (opening : HouseAndHistory) (before behind : Standing) (l : Left)
    → Waits opening before behind l → behind.tells ≡ false → Waits opening (at s before) (at s behind) l
waits_at s opening before behind left.Nothing w untold = idles_at s opening before behind w untold
waits_at s opening before behind left.Unread w untold = moved s behind before w
waits_at s opening before behind left.Untaken w untold = absurd w
waits_at s opening before behind left.Late w untold = absurd w
waits_at s opening before behind left.Spent w untold = absurd w

read_at : (s : SeatView) (opening : HouseAndHistory) (coming left_over : Option (List ℕ)) (before behind : Standing)
    (l : Left) → TurnsRead opening coming left_over before behind l → behind.tells ≡ false
    → TurnsRead opening coming left_over (at s before) (at s behind) l
read_at s opening coming left_over before behind l (inl w) untold =
    inl (w.0, waits_at s opening before behind l w.1 untold)
read_at s opening coming left_over before behind l (inr t) untold =
    inr (t.0, t.1, all_at s opening (comes t.0 before) behind l t.2 untold)

late_at : (s : SeatView) (opening : HouseAndHistory) (before behind : Standing) (l : Left)
    → TakesOrIdles opening before behind l → behind.tells ≡ false
    → TakesOrIdles opening (at s before) (at s behind) l
late_at s opening before behind l (inl t) untold = inl (all_at s opening before behind l t untold)
late_at s opening before behind l (inr i) untold = inr (i.0, idles_at s opening before behind i.1 untold)

-- a turn that wasn't told of the book
pub still : (s : SeatView) (opening : HouseAndHistory) (l : Left) (coming left_over : Option (List ℕ))
    (before behind : Standing) (k : Left) → Turns opening l coming left_over before behind k → behind.tells ≡ false
    → Turns opening l coming left_over (record before { seat = s }) (record behind { seat = s }) k
still s opening left.Nothing coming left_over before behind k t untold =
    read_at s opening coming left_over before behind k t untold
still s opening left.Unread coming left_over before behind k t untold =
    read_at s opening coming left_over before behind k t untold
still s opening left.Untaken coming left_over before behind k t untold =
    (t.0, all_at s opening before behind k t.1 untold)
still s opening left.Spent coming left_over before behind k t untold =
    (t.0, all_at s opening before behind k t.1 untold)
still s opening left.Late coming left_over before behind k t untold =
    (t.0, late_at s opening before behind k t.1 untold)
