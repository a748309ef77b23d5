-- What is answered by the grammar is the output of the stream.
use Rattle.std.proofs.Common.{◌≡◌, ℕ, zero, suc, ◌+◌, List, [], ◌∷◌, ◌++◌, length, take, drop, Option, Some, None, refl}
use Rattle.std.proofs.Common.{sym, ap, ◌∙◌, append_assoc}
use Rattle.std.proofs.lemmas.List.{take_at}
use Rattle.gu_base.specs.House.{House}
use Rattle.gu_codec.specs.Messages.{Message, Seen, End, Broken, Begins, messages_in}
use Rattle.gu_codec.specs.Writing.{stream_text}
use Rattle.gu_codec.proofs.ReadBack.{stream_join}
use Rattle.gu_codec.proofs.Streams.{any_end}
use Rattle.gu_codec.specs.Readings.{messages_of, end_of}
use Rattle.gu_batch.specs.Output.{Progress, start, answers_to, progress_after, answers_along, texts, output_of}
use Rattle.gu_batch.specs.Output.{progress_along, progress_of, Answers, Plays}
use Rattle.gu_codec.proofs.Readings.{one_stream, first_frames, broken_stays}

-- ---- one frame more

-- the texts of the answers to one message, and then of those to the others
one_more : (p : Progress) (m : Message) (ms : List Message)
    → texts p (m ∷ ms) ≡ stream_text (answers_to p m) ++ texts (progress_after p m) ms
one_more p m ms = stream_join (answers_to p m) (answers_along (progress_after p m) ms)

pub step_good : (p : Progress) (offset : ℕ) (rest : List ℕ) (fields : Message) (len : ℕ) (end : Option End)
    (more : List ℕ) → Begins rest (record { fields = Some fields; len = len })
    → Answers (progress_after p fields) (offset + len) (drop len rest) end more
    → Answers p offset rest end (stream_text (answers_to p fields) ++ more)
step_good p offset rest fields len end more b h = (
  record { fields = Some fields; len = len } ∷ h.0,
  (b, h.1),
  ap (λ (t : List ℕ). stream_text (answers_to p fields) ++ t) h.2 ∙ sym (one_more p fields (messages_in h.0)),
)

pub step_garbled : (p : Progress) (offset : ℕ) (rest : List ℕ) (len : ℕ) (end : Option End) (more : List ℕ)
    → Begins rest (record { fields = None; len = len }) → Answers p (offset + len) (drop len rest) end more
    → Answers p offset rest end more
step_garbled p offset rest len end more b h =
    (record { fields = None; len = len } ∷ h.0, (b, h.1), h.2)

pub play_good : (p behind : Progress) (offset : ℕ) (rest : List ℕ) (fields : Message) (len : ℕ) (end : Option End)
    → Begins rest (record { fields = Some fields; len = len })
    → Plays (progress_after p fields) (offset + len) (drop len rest) end behind → Plays p offset rest end behind
play_good p behind offset rest fields len end b h = (record { fields = Some fields; len = len } ∷ h.0, (b, h.1), h.2)

pub play_garbled : (p behind : Progress) (offset : ℕ) (rest : List ℕ) (len : ℕ) (end : Option End)
    → Begins rest (record { fields = None; len = len }) → Plays p (offset + len) (drop len rest) end behind
    → Plays p offset rest end behind
play_garbled p behind offset rest len end b h = (record { fields = None; len = len } ∷ h.0, (b, h.1), h.2)

pub begun : (p : Progress) (offset : ℕ) (bytes out : List ℕ) (end : Option End) → Answers p offset bytes end out
    → Answers p offset bytes None out
begun p offset bytes out end h = (h.0, any_end h.0 offset bytes end h.1, h.2)

-- ---- all of it

-- with its end: the output
pub output_so : (house : House) (bytes out : List ℕ) (end : End) → Answers (start house) 0 bytes (Some end) out
    → (end_of bytes ≡ end) × (out ≡ output_of house bytes)
output_so house bytes out end h =
    let same = one_stream bytes h.0 end h.1 in
    (sym same.1, h.2 ∙ ap (λ (fs : List Seen). texts (start house) (messages_in fs)) same.0)

-- with its end: the progress behind the stream
pub behind_so : (house : House) (bytes : List ℕ) (behind : Progress) (end : End)
    → Plays (start house) 0 bytes (Some end) behind → behind ≡ progress_of house bytes
behind_so house bytes behind end h =
    let same = one_stream bytes h.0 end h.1 in
    h.2 ∙ ap (λ (fs : List Seen). progress_along (start house) (messages_in fs)) same.0

messages_more : (d : Option Message) (n : ℕ) (fs hs : List Seen)
    → (ns : List Message) × (messages_in (fs ++ hs) ≡ messages_in fs ++ ns)
    → (ns : List Message)
    × (messages_in (record { fields = d; len = n } ∷ (fs ++ hs))
    ≡ messages_in (record { fields = d; len = n } ∷ fs) ++ ns)
messages_more None n fs hs rest = rest
messages_more (Some m) n fs hs rest = (rest.0, ap (λ (ms : List Message). m ∷ ms) rest.1)

messages_front : (fs hs : List Seen) → (ns : List Message) × (messages_in (fs ++ hs) ≡ messages_in fs ++ ns)
messages_front [] hs = (messages_in hs, refl)
messages_front (f ∷ fs) hs = messages_more f.fields f.len fs hs (messages_front fs hs)

-- with any end: the answers to some prefix of the messages
pub begun_so : (house : House) (bytes out : List ℕ) → Answers (start house) 0 bytes None out
    → (n : ℕ) × (out ≡ texts (start house) (take n (messages_of bytes)))
begun_so house bytes out h =
    let all = first_frames bytes h.0 h.1 in
    let more = messages_front h.0 all.0 in
    let whole : messages_of bytes ≡ messages_in h.0 ++ more.0 = ap messages_in all.1 ∙ more.1 in
    let front : take (length (messages_in h.0)) (messages_of bytes) ≡ messages_in h.0 =
    ap (take (length (messages_in h.0))) whole ∙ take_at (messages_in h.0) more.0 (length (messages_in h.0)) refl in
    (length (messages_in h.0), h.2 ∙ ap (texts (start house)) (sym front))

texts_front : (p : Progress) (ms : List Message) (n : ℕ) → (rest : List ℕ) × (texts p ms ≡ texts p (take n ms) ++ rest)
texts_front p [] zero = ([], refl)
texts_front p [] (suc n) = ([], refl)
texts_front p (m ∷ ms) zero = (texts p (m ∷ ms), refl)
texts_front p (m ∷ ms) (suc n) =
    let more = texts_front (progress_after p m) ms n in
    let one = stream_text (answers_to p m) in (
      more.0,
      one_more p m ms ∙ ap (λ (t : List ℕ). one ++ t) more.1
          ∙ sym (append_assoc one (texts (progress_after p m) (take n ms)) more.0)
          ∙ ap (λ (t : List ℕ). t ++ more.0) (sym (one_more p m (take n ms))),
    )

-- and a prefix of the output
pub prefix_so : (house : House) (bytes out : List ℕ) → Answers (start house) 0 bytes None out
    → (rest : List ℕ) × (output_of house bytes ≡ out ++ rest)
prefix_so house bytes out h =
    let some = begun_so house bytes out h in
    let more = texts_front (start house) (messages_of bytes) some.0 in
    (more.0, more.1 ∙ ap (λ (t : List ℕ). t ++ more.0) (sym some.1))

-- a broken stream has the same output whatever follows
pub broken_output : (house : House) (bytes later : List ℕ) (at : ℕ) → end_of bytes ≡ Broken at
    → (end_of (bytes ++ later) ≡ Broken at) × (output_of house (bytes ++ later) ≡ output_of house bytes)
broken_output house bytes later at e =
    let stays = broken_stays bytes later at e in
    (stays.1, ap (λ (fs : List Seen). texts (start house) (messages_in fs)) stays.0)
