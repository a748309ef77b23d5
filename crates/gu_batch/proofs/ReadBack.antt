-- What is written for a stream is read back.
use Rattle.std.proofs.Common.{◌≡◌, ℕ, ◌+◌, ◌<◌, ◌≤◌, ◌^◌, List, [], ◌∷◌, ◌++◌, length, drop, Option, Some, None, Result}
use Rattle.std.proofs.Common.{Ok, Err, refl, arith, length-drop, IsTrue}
use Rattle.std.specs.Prelude.{nat_lt}
use Rattle.std.specs.List.{All, AllByRecursion}
use Rattle.std.proofs.lemmas.List.Elements.{All-nil}
use Rattle.std.proofs.lemmas.Bool.{ltb-true}
use Rattle.gu_base.specs.Names.{is_firm_text}
use Rattle.gu_base.specs.House.{House}
use Rattle.gu_base.specs.Answers.{answer_to, after}
use Rattle.gu_base.specs.Runs.{after_all, opening_call, opening_from}
use Rattle.gu_base.specs.declared.entry.Entry.{Entry}
use Rattle.gu_base.specs.declared.house.Pair.{Pair}
use Rattle.gu_base.specs.declared.house.Agreement.{Agreement}
use Rattle.gu_book.specs.PartyNames.{EntryNames}
use Rattle.gu_codec.specs.Fields.{IsBody}
use Rattle.gu_codec.specs.Writing.{IsText, IsWritable}
use Rattle.gu_codec.specs.Messages.{Message, Seen, End, Clean, Begins, Splits, messages_in}
use Rattle.gu_codec.proofs.ReadBack.{no_soh, messages_read}
use Rattle.gu_codec.proofs.Streams.{frame_len}
use Rattle.gu_message.specs.declared.fault.Reject.{Reject}
use Rattle.gu_message.specs.declared.inbound.Inbound.{Inbound}
use Rattle.gu_message.specs.declared.inbound.Inbound.TheVariants as inbound
use Rattle.gu_message.specs.Meaning.{meaning_of}
use Rattle.gu_message.specs.Reply.{Reply, IsLawfulReply}
use Rattle.gu_message.proofs.LawfulMeaning.{Passes, IsLawfulMeaning, meaning_passes}
use Rattle.gu_message.proofs.Replies.{answer_lawful as answer_reply_lawful, reject_lawful, sent_writable}
use Rattle.gu_codec.specs.Readings.{messages_of, frames_of, end_of}
use Rattle.gu_batch.specs.Output.{Progress, HasFirmNames, start, batch_time, stamp, call_of, replies_by, sent}
use Rattle.gu_batch.specs.Output.{progress_by, answers_to, progress_after, answers_along, answers_of, output_of}
use Rattle.gu_batch.proofs.Holding.{after_written}
use Rattle.gu_batch.proofs.Lawful.{answer_lawful, after_named}
use Rattle.gu_codec.proofs.Readings.{stream_is}

-- ---- one message

-- a message that came in a frame
abbrev HasBody : Message → Type 0
HasBody message = (bytes : List ℕ) × IsBody bytes message

-- the house and the firms of the history have lawful names
record IsSound (p : Progress) : Type 0 where
  house : IsTrue (is_firm_text p.house.house)
  named : All (EntryNames is_firm_text) p.history

-- its replies are lawful, and the history stays so
replies_lawful : (p : Progress) (message : Message) (meaning : Result Inbound Reject) → IsSound p → HasBody message
    → Passes IsLawfulMeaning meaning → AllByRecursion IsLawfulReply (replies_by p message meaning)
replies_lawful p message (Ok (inbound.Call firm trade id command)) s came h = (
  answer_reply_lawful firm trade id (answer_to p.house p.history (call_of firm id command)) h.named h.known
      (answer_lawful p.house p.history firm id command s.house s.named),
  tt,
)
replies_lawful p message (Ok (inbound.Logon heartbeat reset)) s came h = tt
replies_lawful p message (Ok inbound.Heartbeat) s came h = tt
replies_lawful p message (Ok (inbound.TestRequest id)) s came h = tt
replies_lawful p message (Ok (inbound.ResendRequest from to)) s came h = tt
replies_lawful p message (Ok inbound.Reject) s came h = tt
replies_lawful p message (Ok (inbound.SequenceReset gap_fill next)) s came h = tt
replies_lawful p message (Ok inbound.Logout) s came h = tt
replies_lawful p message (Err fault) s came h = (reject_lawful came.0 message fault came.1, tt)

stays_sound : (p : Progress) (message : Message) (meaning : Result Inbound Reject) → IsSound p
    → Passes IsLawfulMeaning meaning → IsSound (progress_by p message meaning)
stays_sound p message (Ok (inbound.Call firm trade id command)) s h =
    record { house = s.house; named = after_named p.house p.history firm id command h.named h.names s.named }
stays_sound p message (Ok (inbound.Logon heartbeat reset)) s h = record { house = s.house; named = s.named }
stays_sound p message (Ok inbound.Heartbeat) s h = record { house = s.house; named = s.named }
stays_sound p message (Ok (inbound.TestRequest id)) s h = record { house = s.house; named = s.named }
stays_sound p message (Ok (inbound.ResendRequest from to)) s h = record { house = s.house; named = s.named }
stays_sound p message (Ok inbound.Reject) s h = record { house = s.house; named = s.named }
stays_sound p message (Ok (inbound.SequenceReset gap_fill next)) s h = record { house = s.house; named = s.named }
stays_sound p message (Ok inbound.Logout) s h = record { house = s.house; named = s.named }
stays_sound p message (Err fault) s h = record { house = s.house; named = s.named }

-- the time of a batch is a text
time_text : IsText batch_time
time_text = record {
  value = record {
    some = omega arith;
    no_soh = no_soh (nat_lt 1) batch_time (λ b e. let low : 1 < b = ltb-true 1 b e in λ w. absurd (omega arith)) refl;
  };
  short = omega arith;
}

-- replies of a lawful house, as many as there are numbers
sent_lawful : (house : List ℕ) (written : ℕ) (rs : List Reply) → IsTrue (is_firm_text house)
    → written + length rs < 2 ^ 64 → AllByRecursion IsLawfulReply rs → AllByRecursion IsWritable (sent house written rs)
sent_lawful house written [] h few ok = tt
sent_lawful house written (r ∷ rs) h few ok = (
  sent_writable (stamp house (written + 1)) r
      (record { sender = h; number = omega (arith, few); sent = time_text; resent = tt }) ok.0,
  sent_lawful house (written + 1) rs h (omega (arith, few)) ok.1,
)

-- what answers it can be written
answers_lawful : (p : Progress) (message : Message) → IsSound p → p.written + 1 < 2 ^ 64 → HasBody message
    → AllByRecursion IsWritable (answers_to p message)
unfolding answers_to
answers_lawful p message s few came =
    let meaning = meaning_of p.house.house message in
    sent_lawful p.house.house p.written (replies_by p message meaning) s.house
    (omega (arith, few, one_at_most p message meaning))
    (replies_lawful p message meaning s came (meaning_passes p.house.house message))
  where
    one_at_most : (p : Progress) (message : Message) (meaning : Result Inbound Reject)
        → length (replies_by p message meaning) ≤ 1
    one_at_most p message (Ok (inbound.Call firm trade id command)) = omega arith
    one_at_most p message (Ok (inbound.Logon heartbeat reset)) = omega arith
    one_at_most p message (Ok inbound.Heartbeat) = omega arith
    one_at_most p message (Ok (inbound.TestRequest id)) = omega arith
    one_at_most p message (Ok (inbound.ResendRequest from to)) = omega arith
    one_at_most p message (Ok inbound.Reject) = omega arith
    one_at_most p message (Ok (inbound.SequenceReset gap_fill next)) = omega arith
    one_at_most p message (Ok inbound.Logout) = omega arith
    one_at_most p message (Err fault) = omega arith

-- ---- all of them

-- one list of them behind another
joined : (ms ns : List Message) → AllByRecursion IsWritable ms → AllByRecursion IsWritable ns
    → AllByRecursion IsWritable (ms ++ ns)
joined [] ns h k = k
joined (m ∷ ms) ns h k = (h.0, joined ms ns h.1 k)

sound_after : (p : Progress) (message : Message) → IsSound p → IsSound (progress_after p message)
unfolding progress_after
sound_after p message s =
    stays_sound p message (meaning_of p.house.house message) s (meaning_passes p.house.house message)

all_lawful : (p : Progress) (ms : List Message) → IsSound p → p.written + length ms < 2 ^ 64 → AllByRecursion HasBody ms
    → AllByRecursion IsWritable (answers_along p ms)
all_lawful p [] s few came = tt
all_lawful p (m ∷ ms) s few came =
    let q = progress_after p m in
    joined (answers_to p m) (answers_along q ms) (answers_lawful p m s (omega arith) came.0)
    (all_lawful q ms (sound_after p m s) (omega (arith, after_written p m)) came.1)

-- ---- a stream

-- its messages came in frames, and are no more than its bytes
record Came (bytes : List ℕ) (ms : List Message) : Type 0 where
  bodies : AllByRecursion HasBody ms
  few : length ms ≤ length bytes

-- one frame more, and all of a stream
came_next : (d : Option Message) (len : ℕ) (bytes : List ℕ) (fs : List Seen)
    → Begins bytes (record { fields = d; len = len }) → Came (drop len bytes) (messages_in fs)
    → Came bytes (messages_in (record { fields = d; len = len } ∷ fs))
came_next None len bytes fs b c = record { bodies = c.bodies; few = omega (arith, c.few, length-drop len bytes) }
came_next (Some m) len bytes fs b c =
    record {
      bodies = ((_, b.2.1), c.bodies);
      few = omega (arith, c.few, length-drop len bytes, frame_len bytes b.0 len b.1, b.1.within);
    }

came_of : (fs : List Seen) (offset : ℕ) (bytes : List ℕ) (end : Option End) → Splits offset bytes fs end
    → Came bytes (messages_in fs)
came_of [] offset bytes end h = record { bodies = tt; few = omega arith }
came_of (f ∷ fs) offset bytes end h =
    came_next f.fields f.len bytes fs h.0 (came_of fs (offset + f.len) (drop f.len bytes) end h.1)

-- the opening calls name the house, and the firms of the opening
opening_named : (t : House) (i : ℕ) (es : List (Pair × Agreement)) (h : List Entry) → IsTrue (is_firm_text t.house)
    → AllByRecursion (λ e. IsTrue (is_firm_text e.0.giver) × IsTrue (is_firm_text e.0.taker)) es
    → All (EntryNames is_firm_text) h → All (EntryNames is_firm_text) (after_all t h (opening_from t i es))
opening_named t i [] h lawful names named = named
opening_named t i (e ∷ es) h lawful names named =
    let c = opening_call t i e in
    opening_named t (i + 1) es (after t h c) lawful names.1 (after_named t h c.firm c.id c.command lawful names.0 named)

-- a batch begins so
start_sound : (house : House) → HasFirmNames house → IsSound (start house)
start_sound house names = record {
  house = names.house;
  named = opening_named house 1 house.opening [] names.house names.opening (All-nil (EntryNames is_firm_text));
}

-- ---- the whole output

pub output_read : (house : House) (bytes : List ℕ) → HasFirmNames house → length bytes < 2 ^ 64
    → (end_of (output_of house bytes) ≡ Clean) × (messages_of (output_of house bytes) ≡ answers_of house bytes)
output_read house bytes names few =
    let came = came_of (frames_of bytes) 0 bytes (Some (end_of bytes)) (stream_is bytes) in
    messages_read (answers_of house bytes)
    (all_lawful (start house) (messages_of bytes) (start_sound house names) (omega (arith, came.few, few)) came.bodies)
