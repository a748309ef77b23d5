-- What a step of a connection's session leaves to be sent.
use Rattle.std.proofs.Common.{◌≡◌, ℕ, List, ◌++◌, length, Bool, true, false, OnOk, Result, Ok, Err, Option}
use Rattle.std.proofs.Common.{refl, sym, subst, ap, ◌∙◌}
use Rattle.std.specs.Prelude.{nat_le, not, ◌&&◌, is_some}
use Rattle.gu_codec.specs.Answer.{pairs}
use Rattle.gu_codec.specs.Stream.{Stream}
use Rattle.gu_codec.specs.declared.fields.Fields.{Fields}
use Rattle.gu_command.specs.declared.naming.NamedBook.{NamedBook}
use Rattle.gu_base.specs.House.{House}
use Rattle.gu_base.specs.declared.entry.Answer.{Answer}
use Rattle.gu_base.specs.declared.report.Report.{Report}
use Rattle.gu_session.specs.declared.event.Event.{Event}
use Rattle.gu_session.specs.declared.event.Actions.{Actions}
use Rattle.gu_session.specs.Steps.{Seen}
use Rattle.gu_trace.specs.Between.{last_told, looked_to}
use Rattle.gu_trace.specs.Reports.{most_reports, reports_for}
use Rattle.gu_connection.specs.Standing.{Standing}
use Rattle.gu_connection.specs.Beginning.{asked_by}
use Rattle.gu_connection.specs.Turns.{StepsNow, Speaks, IsReply, Replies, Learns, Brings, logs_on, message_brings}
use Rattle.gu_connection.specs.declared.connection.Brought.{Brought}

-- where the session took an event and its frames were put behind the others, the connection speaks
pub speaks : {A E : Type 0} (r : Result A E) (e : Event) (before after left : Seen) (out sent : List ℕ) (a : Actions)
    → left ≡ after → StepsNow e before after a → OnOk r (sent ≡ out ++ a.send.items) → OnOk r (a.close ≡ false)
    → OnOk r (Speaks e before left out sent)
speaks (Ok x) e before after left out sent a same steps sends open_still = rw same (a, steps, sends, open_still)
speaks (Err f) e before after left out sent a same steps sends open_still = tt

-- the connection took a reply with the reports that a reading told
pub replied : {A E : Type 0} (r : Result A E) (t : House) (f : List ℕ) (answer : Option Answer)
    (reports : List Report) (entries : ℕ) (taken : Event) (before after : Standing)
    → reports ≡ reports_for t.house after.seat.seen f before.looked → entries ≡ length after.seat.seen
    → IsReply answer reports taken
    → OnOk r (Speaks taken before.session after.session before.out after.out)
    → OnOk r (after.told ≡ last_told before.told reports)
    → OnOk r (after.looked ≡ looked_to before.looked entries reports)
    → OnOk r (after.behind ≡ nat_le most_reports (length reports)) → OnOk r (after.tells ≡ true)
    → OnOk r (Replies t f answer before after)
replied (Ok x) t f answer reports entries taken before after read long reply speaks told looked behind tells = record {
  taken = taken;
  reply = rw (← read) reply;
  speaks = speaks;
  told = rw (← read) told;
  looked = rw (← read, ← long) looked;
  behind = rw (← read) behind;
  tells = tells;
}
replied (Err e) t f answer reports entries taken before after read long reply speaks told looked behind tells = tt

-- a message was learned of, by which a firm has logged on or hasn't
learned : (b : Bool) (book : Option NamedBook) (held left : Stream) (before behind : Seen) (fields : Fields)
    (a : Actions) → Learns held before behind left fields a → logs_on before behind ≡ b
    → Brings book held before behind left (message_brings b a (asked_by book (pairs fields)))
learned true book held left before behind fields a learns on = (fields, learns, on, refl)
learned false book held left before behind fields a learns on = (fields, learns, on)

-- what is known of the firm before its step and behind it says which
pub is_brought : (book : Option NamedBook) (held left : Stream) (before behind : Seen) (fields : Fields) (a : Actions)
    (was is : Bool) (b : Brought) → Learns held before behind left fields a → was ≡ is_some before.link.firm
    → is ≡ is_some behind.link.firm → b ≡ message_brings (not was && is) a (asked_by book (pairs fields))
    → Brings book held before behind left b
is_brought book held left before behind fields a was is b learns earlier now same =
    let at : Brought → Type 0 = λ x. Brings book held before behind left x in
    let on : logs_on before behind ≡ (not was && is) =
    ap (λ (x : Bool). not x && is_some behind.link.firm) (sym earlier) ∙ ap (λ (x : Bool). not was && x) (sym now) in
    subst at (sym same) (learned (not was && is) book held left before behind fields a learns on)
