-- What the bytes of a journal say, and what a batch answers to them.
use Rattle.gu_base.specs.{Answers.after_by, declared.entry.Answer.Answer}
use Rattle.gu_batch.specs.Output.{answers_along, answers_of, answers_to, history_by, Progress, progress_after}
use Rattle.gu_batch.specs.Output.{progress_along, replies_by, sent, stamp, start}
use Rattle.gu_codec.proofs.{Fronts.opening_broken, ReadBack.{body_stands, fields_read}, Readings.one_stream}
use Rattle.gu_codec.specs.{Grammar.{fits, texts}, Messages.{Begins, Broken, Clean, End, Ends, messages_in, Seen}}
use Rattle.gu_codec.specs.{Messages.Splits, Readings.frames_of, Writing.{frame_text, message_text}}
use Rattle.gu_journal.proofs.Vocabulary.{answer_to, ap, append-nil, append_assoc, arith, begins_stays, call_of, drop}
use Rattle.gu_journal.proofs.Vocabulary.{drop-append-le, Entry, fields_text, group_more, head_alone, history_of, House}
use Rattle.gu_journal.proofs.Vocabulary.{Inbound, IsHead, IsJournal, IsNext, IsOneFrame, IsSeal, IsWritable, length}
use Rattle.gu_journal.proofs.Vocabulary.{length-append, length-drop, List, meaning_of, Message, nat_tests, None}
use Rattle.gu_journal.proofs.Vocabulary.{opening, opening_history, Option, refl, Reject, Result, Says, says_next}
use Rattle.gu_journal.proofs.Vocabulary.{says_none, Some, subst, suc, sym, [], ℕ, ◌++◌, ◌+◌, ◌∙◌, ◌∷◌, ◌≡◌, ◌≢◌}
use Rattle.gu_journal.specs.Accepting.{accepts_next, accepts_none, AcceptsEach}
use Rattle.gu_message.specs.Reply.{answer_reply, message_of, Reply}
use Rattle.std.proofs.lemmas.List.{drop_all}
use Rattle.std.specs.List.{common_prefix_len}

-- ---- frames one after the other, and what stands behind them

-- ---- the end of a stream

pub shut_ends : (offset gate : ℕ) (more : List ℕ) → gate ≢ 56 → Ends offset (gate ∷ more) (Some (Broken offset))
shut_ends offset gate more shut =
    let none : common_prefix_len fits (texts opening) (gate ∷ more) ≡ 0 = grind (arith, nat_tests) in
    (0, omega arith, opening_broken (gate ∷ more) 0 none (omega arith) (λ e. absurd (omega (arith, e))))

-- ---- one frame

-- what is written of a message is one frame
pub one_frame : (m : Message) → IsWritable m → IsOneFrame (message_text m) m
unfolding message_text
one_frame m ok =
    let text = message_text m in
    let w = body_stands (fields_text m) [] m (fields_read m ok.fields, ok.typed) ok.short in
    let here : Begins (text ++ []) (record { fields = Some m; len = length text }) = (w.count, w.has, w.good) in
    rw append-nil at here

-- and begins with `8`
pub first_eight : (m : Message) → (rest : List ℕ) × (message_text m ≡ 56 ∷ rest)
unfolding message_text frame_text
first_eight m = (drop 1 (frame_text (fields_text m)), refl)

-- ---- frames one after the other

-- one frame more
pub splits_push : (fs : List Seen) (offset : ℕ) (front piece : List ℕ) (f : Seen) → Splits offset front fs (Some Clean)
    → Begins piece f → f.len ≡ length piece
    → Splits offset (front ++ piece) (fs ++ f ∷ []) (Some Clean)
splits_push [] offset front piece f none here all = rw none (here, drop_all f.len piece (omega (arith, all)))
splits_push (g ∷ gs) offset front piece f h here all =
    let later = splits_push gs (offset + g.len) (drop g.len front) piece f h.1 here all in
    (begins_stays front piece g h.0, rw (drop-append-le g.len front piece h.0.1.within) later)

-- frames that are all of some bytes, with whatever ends them behind these
pub splits_then : (fs : List Seen) (offset : ℕ) (front rest : List ℕ) (end : End) → Splits offset front fs (Some Clean)
    → Ends (offset + length front) rest (Some end)
    → Splits offset (front ++ rest) fs (Some end)
splits_then [] offset front rest end none ends =
    let none_len : offset + length front ≡ offset = omega (arith, ap length none) in
    subst (λ (s : List ℕ). Splits offset (s ++ rest) [] (Some end)) (sym none)
    (subst (λ (o : ℕ). Ends o rest (Some end)) none_len ends)
splits_then (g ∷ gs) offset front rest end h ends =
    let place : offset + length front ≡ offset + g.len + length (drop g.len front) =
    omega (arith, length-drop g.len front, h.0.1.within) in
    let later = splits_then gs (offset + g.len) (drop g.len front) rest end h.1
    (subst (λ (o : ℕ). Ends o rest (Some end)) place ends) in
    (begins_stays front rest g h.0, rw (drop-append-le g.len front rest h.0.1.within) later)

-- the messages of one frame more
pub messages_push : (fs : List Seen) (f : Seen) (m : Message) → f.fields ≡ Some m
    → messages_in (fs ++ f ∷ []) ≡ messages_in fs ++ m ∷ []
messages_push [] f m is =
    ap (λ (p : Option Message). messages_in (record { fields = p; len = f.len } ∷ [])) is
messages_push (g ∷ gs) f m is = go g.fields (messages_push gs f m is)
  where
    go : (o : Option Message) → messages_in (gs ++ f ∷ []) ≡ messages_in gs ++ m ∷ []
        → messages_in (record { fields = o; len = g.len } ∷ (gs ++ f ∷ [])) ≡ messages_in
        (record { fields = o; len = g.len } ∷ gs) ++ m ∷ []
    go None later = later
    go (Some n) later = ap (λ (ms : List Message). n ∷ ms) later

-- a batch that has this house, this history, and has written that each of its entries is accepted
record HasRead (t : House) (h : List Entry) (ms : List Message) (p : Progress) : Type 0 where
  house : p.house ≡ t
  history : p.history ≡ h
  written : p.written ≡ length ms
  accepts : AcceptsEach t h ms

-- the message continues one history to another
abbrev Continues : House → List Entry → Message → List Entry → Type 0
Continues t h m new = (p : Progress) (ms : List Message) → HasRead t h ms p
    → HasRead t new (ms ++ answers_to p m) (progress_after p m)

-- the bytes are frames, and a batch that reads them has this history
record Plays (t : House) (bytes : List ℕ) (h : List Entry) : Type 0 where
  frames : List Seen
  split : Splits 0 bytes frames (Some Clean)
  is : HasRead t h (answers_along (start t) (messages_in frames)) (progress_along (start t) (messages_in frames))

along_push : (p : Progress) (ms : List Message) (m : Message)
    → progress_along p (ms ++ m ∷ []) ≡ progress_after (progress_along p ms) m
along_push p [] m = refl
along_push p (n ∷ ms) m = along_push (progress_after p n) ms m

answers_push : (p : Progress) (ms : List Message) (m : Message)
    → answers_along p (ms ++ m ∷ []) ≡ answers_along p ms ++ answers_to (progress_along p ms) m
answers_push p [] m = append-nil (answers_to p m)
answers_push p (n ∷ ms) m =
    ap (λ (l : List Message). answers_to p n ++ l) (answers_push (progress_after p n) ms m)
    ∙ sym (append_assoc (answers_to p n) (answers_along (progress_after p n) ms)
    (answers_to (progress_along (progress_after p n) ms) m))

-- one frame more
push : (t : House) (bytes frame : List ℕ) (h new : List Entry) (m : Message) → Plays t bytes h → IsOneFrame frame m
    → Continues t h m new → Plays t (bytes ++ frame) new
push t bytes frame h new m plays one continues =
    let f : Seen = record { fields = Some m; len = length frame } in
    let was = messages_in plays.frames in
    let more : messages_in (plays.frames ++ f ∷ []) ≡ was ++ m ∷ [] = messages_push plays.frames f m refl in
    record {
      frames = plays.frames ++ f ∷ [];
      split = splits_push plays.frames 0 bytes frame f plays.split one refl;
      is = rw (more, along_push (start t) was m, answers_push (start t) was m)
          (continues (progress_along (start t) was) (answers_along (start t) was) plays.is);
    }

-- ---- how a message continues a history

sent_len : (house : List ℕ) (w : ℕ) (rs : List Reply) → length (sent house w rs) ≡ length rs
sent_len house w [] = refl
sent_len house w (r ∷ rs) = ap suc (sent_len house (w + 1) rs)

-- as many messages are written as answer it
written_on : (p : Progress) (ms : List Message) (m : Message) → p.written ≡ length ms
    → (progress_after p m).written ≡ length (ms ++ answers_to p m)
unfolding progress_after answers_to
written_on p ms m is =
    let rs = replies_by p m (meaning_of p.house.house m) in
    omega (arith, is, sent_len p.house.house p.written rs, length-append ms (sent p.house.house p.written rs))

-- a batch with this house and this history, which has written so many messages
abbrev at : House → List Entry → ℕ → Progress
at t h w = record { house = t; history = h; written = w }

continues_by : (t : House) (h new : List Entry) (m : Message) (r : Result Inbound Reject) → meaning_of t.house m ≡ r
    → ((w : ℕ) → history_by (at t h w) r ≡ new)
    → ((ms : List Message) → AcceptsEach t h ms
    → AcceptsEach t new (ms ++ sent t.house (length ms) (replies_by (at t h (length ms)) m r)))
    → Continues t h m new
unfolding progress_after answers_to
continues_by t h new m r means goes told p ms is =
    let here : p ≡ at t h (length ms) =
    λ i. record { house = is.house i; history = is.history i; written = is.written i } in
    record {
      house = is.house;
      history = ap (λ (q : Progress). (progress_after q m).history) here
          ∙ ap (history_by (at t h (length ms))) means ∙ goes (length ms);
      written = written_on p ms m is.written;
      accepts = subst (λ (l : List Message). AcceptsEach t new (ms ++ l))
          (sym (ap (λ (q : Progress). answers_to q m) here
          ∙ ap (λ (x : Result Inbound Reject). sent t.house (length ms) (replies_by (at t h (length ms)) m x)) means))
          (told ms is.accepts);
    }

-- a message of the session says nothing, and isn't answered
silent : (t : House) (h : List Entry) (ms : List Message) → AcceptsEach t h ms → AcceptsEach t h (ms ++ [])
silent t h ms is = rw append-nil is

head_continues : (t : House) (pin : List ℕ) (h : List Entry) (m : Message) → IsHead t pin m → Continues t h m h
head_continues t pin h m is = continues_by t h h m _ is.meaning (λ w. refl) (silent t h)

seal_continues : (t : House) (bytes : List ℕ) (h : List Entry) (m : Message) → IsSeal t bytes h m → Continues t h m h
seal_continues t bytes h m is = continues_by t h h m _ is.meaning (λ w. refl) (silent t h)

next_continues : (t : House) (h : List Entry) (e : Entry) (m : Message) → IsNext t h e m → Continues t h m (h ++ e ∷ [])
next_continues t h e m is =
    continues_by t h (h ++ e ∷ []) m _ is.meaning (λ w. ap (after_by h (call_of e)) is.accepted) (λ ms accepts.
    let answer : Answer → Message = λ a. message_of (stamp t.house (length ms + 1))
    (answer_reply e.firm is.trade e.id a) in
    accepts_next h ms e (answer (answer_to t h (call_of e))) accepts (is.trade, ap answer is.accepted))

-- ---- a journal

says_plays : (t : House) (h : List Entry) (before bytes : List ℕ) (new : List Entry) → Plays t before h
    → Says t h bytes new → Plays t (before ++ bytes) new
says_plays t h before _ _ plays says_none = rw append-nil plays
says_plays t h before _ _ plays (says_next bytes frame new e m says one next) =
    rw append_assoc
    at (push t (before ++ bytes) frame new (new ++ e ∷ []) m (says_plays t h before bytes new plays says) one
    (next_continues t new e m next))

nothing_plays : (t : House) → Plays t [] (opening_history t)
nothing_plays t =
    let is : HasRead t (opening_history t) [] (start t) =
    record { house = refl; history = refl; written = refl; accepts = accepts_none } in
    record { frames = []; split = refl; is = is }

journal_plays : (t : House) (pin bytes : List ℕ) (h : List Entry) → IsJournal t pin bytes h → Plays t bytes h
journal_plays t pin _ _ (head_alone frame m one head) =
    push t [] frame (opening_history t) (opening_history t) m (nothing_plays t) one
    (head_continues t pin (opening_history t) m head)
journal_plays t pin _ _ (group_more bytes entries frame h new m journal says one seal) =
    push t (bytes ++ entries) frame new new m (says_plays t h bytes entries new
    (journal_plays t pin bytes h journal) says) one (seal_continues t (bytes ++ entries) new m seal)

module _ (t : House) (pin bytes rest : List ℕ) (h : List Entry) (end : End) (journal : IsJournal t pin bytes h)
    (ends : Ends (length bytes) rest (Some end)) where
  read : (frames : List Seen) → Splits 0 bytes frames (Some Clean) → frames ≡ frames_of (bytes ++ rest)
  read frames split =
      let size : 0 + length bytes ≡ length bytes = omega arith in
      let all = splits_then frames 0 bytes rest end split (subst (λ (o : ℕ). Ends o rest (Some end)) (sym size) ends) in
      (one_stream (bytes ++ rest) frames end all).0

  -- a batch reads its history from it, whatever ends the stream behind it
  pub history_is : history_of t (bytes ++ rest) ≡ h
  history_is =
      let plays = journal_plays t pin bytes h journal in
      ap (λ (fs : List Seen). (progress_along (start t) (messages_in fs)).history) (sym (read plays.frames plays.split))
      ∙ plays.is.history

  -- and accepts each entry
  pub answers_are : AcceptsEach t h (answers_of t (bytes ++ rest))
  answers_are =
      let plays = journal_plays t pin bytes h journal in
      subst (λ (fs : List Seen). AcceptsEach t h (answers_along (start t) (messages_in fs)))
      (read plays.frames plays.split) plays.is.accepts

pub one_history : (t : House) (pin other bytes : List ℕ) (h k : List Entry) → IsJournal t pin bytes h
    → IsJournal t other bytes k → h ≡ k
one_history t pin other bytes h k one two = sym (history_is t pin bytes [] h Clean one refl)
    ∙ history_is t other bytes [] k Clean two refl
