-- Steps one after the other, and what holds of every list of them.
use Rattle.std.specs.Prelude.{◌≡◌, ℕ, zero, suc, ◌+◌, ◌<◌, ◌≤◌, Bool, true, false, List, [], ◌∷◌}
use Rattle.std.specs.Prelude.{◌++◌, length, map, filter, is_none, is_some, Option, Some, None}
use Rattle.std.specs.Prelude.{option_map, codes}
use Rattle.std.specs.List.{flat_map, filter_map, All, Contains}
use Rattle.jiff.specs.Types.{Timestamp}
use Rattle.gu_base.specs.House.{House}
use Rattle.gu_session.specs.declared.verdict.Span.{Span}
use Rattle.gu_session.specs.Going.{Going}
use Rattle.gu_codec.specs.Messages.{Message}
use Rattle.gu_codec.specs.Tags as tag
use Rattle.gu_codec.specs.Writing.{frame_text, fields_text}
use Rattle.gu_session.specs.Steps.{Seen, Event, Reply, Called, Outcome, filling, step_of, opening}
use Rattle.gu_session.specs.Text.{text_of}

-- what each step leaves and gives out
abbrev pub outcomes : Seen → List (Timestamp × Event) → List Outcome
outcomes s [] = []
outcomes s (e ∷ es) = step_of e.0 s e.1 ∷ outcomes (step_of e.0 s e.1).after es

-- ---- numbers that come

-- each is above the one before it, and the first at least this
abbrev pub Rises : ℕ → List ℕ → Type 0
Rises low [] = Unit {0}
Rises low (n ∷ ns) = (low ≤ n) × Rises (n + 1) ns

-- none is below the one before it, nor the first below this
abbrev pub NeverFalls : ℕ → List ℕ → Type 0
NeverFalls low [] = Unit {0}
NeverFalls low (n ∷ ns) = (low ≤ n) × NeverFalls n ns

-- the numbers of the messages whose calls are handed out
abbrev pub called : List Outcome → List ℕ
called os = filter_map (λ o. option_map (λ c. c.number) o.call) os

-- the calls handed out have rising numbers
abbrev pub CallsRise : Type 0
CallsRise =
    (t : House) (never : Timestamp) (es : List (Timestamp × Event))
    → Rises 1 (called (outcomes (opening t never) es))

-- the expected number never falls
abbrev pub ExpectedNeverFalls : Type 0
ExpectedNeverFalls =
    (t : House) (never : Timestamp) (es : List (Timestamp × Event))
    → NeverFalls 1 (map (λ o. o.after.link.expected) (outcomes (opening t never) es))

-- ---- new messages

-- so many numbers from one on, without a gap
abbrev pub numbers_from : ℕ → ℕ → List ℕ
numbers_from n zero = []
numbers_from n (suc k) = n ∷ numbers_from (n + 1) k

-- the new messages among those that are sent
abbrev pub new_of : List Going → List Going
new_of ms = filter (λ m. is_none m.first) ms

-- the numbers of the new messages that are sent
abbrev pub sent_anew : List Outcome → List ℕ
sent_anew os = flat_map (λ o. map (λ m. m.number) (new_of o.send)) os

-- the new messages sent are numbered 1, 2, .. without a gap
abbrev pub NewAreNumbered : Type 0
NewAreNumbered =
    (t : House) (never : Timestamp) (es : List (Timestamp × Event))
    → sent_anew (outcomes (opening t never) es)
    ≡ numbers_from 1 (length (sent_anew (outcomes (opening t never) es)))

-- ---- before the Logon and after the close

-- whatever is sent, there is a firm whose Logon was accepted
abbrev pub IsToSomebody : Outcome → Type 0
IsToSomebody o = o.after.link.firm ≡ None → o.send ≡ []

-- nothing is done, and the session is closed
pub record IsOver (o : Outcome) : Type 0 where
  pub closed : o.after.link.closed ≡ true
  pub send : o.send ≡ []
  pub call : o.call ≡ None
  pub close : o.close ≡ false

-- behind a step that closes, nothing is done
abbrev pub EndsOnce : List Outcome → Type 0
EndsOnce [] = Unit {0}
EndsOnce (o ∷ os) = (o.close ≡ true → All IsOver os) × EndsOnce os

-- nothing is sent before a Logon is accepted, and nothing is done after the close
abbrev pub SpeaksWithinTheSession : Type 0
SpeaksWithinTheSession = (t : House) (never : Timestamp) (es : List (Timestamp × Event))
    → All IsToSomebody (outcomes (opening t never) es) × EndsOnce (outcomes (opening t never) es)

-- ---- calls and replies

-- The id of the call that is awaited behind a step: that of the call it hands out; none behind a
-- Reply and the close; else as before. The close clears it.
abbrev pub unless_closed : Bool → Option (List ℕ) → Option (List ℕ)
unless_closed true id = None
unless_closed false id = id

-- a Reply clears it
abbrev pub unless_replied : Event → Option (List ℕ) → Option (List ℕ)
unless_replied (Reply answer reports) id = None
unless_replied _ id = id

-- a call that is handed out takes its place
abbrev pub or_called : Option Called → Option (List ℕ) → Option (List ℕ)
or_called (Some c) id = Some c.id
or_called None id = id

-- all three, the close last
abbrev pub awaited_behind : Event → Outcome → Option (List ℕ) → Option (List ℕ)
awaited_behind e o id = unless_closed o.after.link.closed (or_called o.call (unless_replied e id))

-- the id of the call that a session waits for
abbrev pub waits_for : Seen → Option (List ℕ)
waits_for s = option_map (λ w. w.id) s.link.waiting

-- along the steps
abbrev pub IsAwaited : Option (List ℕ) → List (Timestamp × Event) → List Outcome → Type 0
IsAwaited id (e ∷ es) (o ∷ os) =
    (waits_for o.after ≡ awaited_behind e.1 o id) × IsAwaited (awaited_behind e.1 o id) es os
IsAwaited id es os = Unit {0}

-- each call that is handed out is awaited, by its id, until its Reply or the close
abbrev pub CallsAreAwaited : Type 0
CallsAreAwaited =
    (t : House) (never : Timestamp) (es : List (Timestamp × Event))
    → IsAwaited None es (outcomes (opening t never) es)

-- ---- what is sent again

-- the messages that were sent before among those that are sent
abbrev pub again_of : List Going → List Going
again_of ms = filter (λ m. is_some m.first) ms

-- each stands where the one before it ends, from one number up to another
abbrev pub Covers : ℕ → List Going → ℕ → Type 0
Covers from [] next = from ≡ next
Covers from (m ∷ ms) next = (m.number ≡ from) × (m.number < m.next) × Covers m.next ms next

-- nothing is sent again, or each number of the span once
abbrev pub CoversSpan : Option Span → List Going → Type 0
CoversSpan None ms = ms ≡ []
CoversSpan (Some span) ms = Covers span.from ms span.next

-- what is sent again covers each number of its span once, and nothing else
abbrev pub ResendsCoverTheirSpan : Type 0
ResendsCoverTheirSpan =
    (t : House) (never : Timestamp) (es : List (Timestamp × Event))
    → All (λ o. CoversSpan o.again (again_of o.send)) (outcomes (opening t never) es)

-- ---- and as it was sent

-- the frames of messages, each with its number; before the Logon there is nobody to send to
abbrev pub frames_to : List ℕ → Option (List ℕ) → List ℕ → List Going → List (ℕ × List ℕ)
frames_to house None time ms = []
frames_to house (Some firm) time ms = map (λ m. (m.number, text_of house firm time m)) ms

-- the frames of messages that a step sends. All that it sends, one behind the other, are its bytes
-- (`wire`)
abbrev pub frames_of : Outcome → List Going → List (ℕ × List ℕ)
frames_of o ms = frames_to o.after.house.house o.after.link.firm o.time ms

-- the second frame is the first one sent again: byte for byte the same but for PossDupFlag (43),
-- SendingTime (52) and OrigSendingTime (122). The second has 43=Y before its 52, and in 122 behind
-- it the 52 of the first. BodyLength (9) and CheckSum (10) are those of each frame's own body
pub record IsSentAgain (first again : List ℕ) : Type 0 where
  pub before : Message
  pub behind : List ℕ
  pub sent : List ℕ
  pub time : List ℕ
  pub first_is : first
      ≡ frame_text (fields_text (before ++ (tag.sending_time, sent) ∷ []) ++ behind)
  pub again_is : again
      ≡ frame_text (fields_text
      (before ++ (tag.poss_dup_flag, codes "Y") ∷ (tag.sending_time, time)
      ∷ (tag.orig_sending_time, sent) ∷ [])
      ++ behind)

-- against the frames that were sent, each with its number: a frame that fills a gap from its number
-- on, or one that was sent with this number, sent again
pub data IsAgain (sent : List (ℕ × List ℕ)) (f : ℕ × List ℕ) : Type 0 where
  Fills : (house firm time first : List ℕ) → (next : ℕ)
      → f.1 ≡ text_of house firm time (filling first f.0 next) → IsAgain sent f
  Repeats : (frame : List ℕ) → Contains sent (f.0, frame) → IsSentAgain frame f.1 → IsAgain sent f

-- along the steps, where these frames were sent before
abbrev pub IsAsSent : List (ℕ × List ℕ) → List Outcome → Type 0
IsAsSent sent [] = Unit {0}
IsAsSent sent (o ∷ os) =
    All (IsAgain sent) (frames_of o (again_of o.send))
    × IsAsSent (sent ++ frames_of o (new_of o.send)) os

-- the frame that is sent again for a number is the one that was sent with it, but for 43, 52 and
-- 122; and a gap is filled where none is kept
abbrev pub ResendsAreAsSent : Type 0
ResendsAreAsSent =
    (t : House) (never : Timestamp) (es : List (Timestamp × Event))
    → IsAsSent [] (outcomes (opening t never) es)
