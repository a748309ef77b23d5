-- What is sent, as the answers of the definitions.
use Rattle.std.proofs.Common.{◌≡◌, ℕ, ◌+◌, Bool, true, false, List, [], ◌∷◌, ◌++◌, length, take, Result, Ok, Err, sym}
use Rattle.std.proofs.Common.{ap, subst, ◌∙◌, append-nil, append_assoc}
use Rattle.gu_base.specs.declared.entry.Answer.{Answer}
use Rattle.gu_codec.specs.Messages.{Message}
use Rattle.gu_codec.specs.Writing.{HeaderText, fields_text, header_pairs, front_text, frame_text, message_text}
use Rattle.gu_codec.specs.Writing.{stream_text}
use Rattle.gu_codec.proofs.ReadBack.{text_of_message}
use Rattle.gu_message.specs.Meaning.{meaning_of}
use Rattle.gu_message.specs.Reply.{Reply, Stamp, answer_reply, header_of, message_of}
use Rattle.gu_message.specs.Outcome.{GivesBy, IsSplit}
use Rattle.gu_message.specs.declared.fault.Reject.{Reject}
use Rattle.gu_message.specs.declared.fault.MeaningError.{MeaningError}
use Rattle.gu_message.specs.declared.fault.MeaningError.TheVariants as errors
use Rattle.gu_message.specs.declared.inbound.Inbound.{Inbound}
use Rattle.gu_batch.specs.Output.{Progress, stamp, sent, replies_by, answers_by, answers_to, progress_by}
use Rattle.gu_batch.specs.Output.{progress_after}

-- the header's fields and a body
pub sent_text : (h : HeaderText) (fs : Message) (body old new : List ℕ) → body ≡ fields_text fs
    → new ≡ old ++ frame_text (fields_text (header_pairs h) ++ body) → new ≡ old ++ message_text (header_pairs h ++ fs)
sent_text h fs body old new b e =
    e ∙ ap (λ (t : List ℕ). old ++ frame_text (fields_text (header_pairs h) ++ t)) b
    ∙ ap (λ (t : List ℕ). old ++ t) (sym (text_of_message h fs))

-- what stands before a body, and the body that is put behind it
pub answer_put : (h : HeaderText) (fs : Message) (old opened put : List ℕ) (at end n : ℕ)
    → take at opened ≡ old ++ front_text h n → n ≡ length (fields_text fs)
    → take end put ≡ take at opened ++ fields_text fs
    → take end put ≡ old ++ (front_text h (length (fields_text fs)) ++ fields_text fs)
answer_put h fs old opened put at end n front len e =
    e ∙ ap (λ (t : List ℕ). t ++ fields_text fs) (front ∙ ap (λ (k : ℕ). old ++ front_text h k) len)
    ∙ append_assoc old (front_text h (length (fields_text fs))) (fields_text fs)

-- the header of the message that answers a call
pub answer_header : (s : Stamp) (firm : List ℕ) (trade : Bool) (id : List ℕ) (answer : Answer) (kind : List ℕ)
    → kind ≡ (answer_reply firm trade id answer).kind
    → header_of s (record { target = firm; kind = kind; fields = [] }) ≡ header_of s (answer_reply firm trade id answer)
answer_header s firm true id answer kind e =
    ap (λ (k : List ℕ). header_of s (record { target = firm; kind = k; fields = [] })) e
answer_header s firm false id answer kind e =
    ap (λ (k : List ℕ). header_of s (record { target = firm; kind = k; fields = [] })) e

-- ---- a message that means this is answered by one reply

pub one_text : (p : Progress) (message : Message) (r : Result Inbound Reject) (reply : Reply)
    → meaning_of p.house.house message ≡ r → replies_by p message r ≡ reply ∷ []
    → message_text (message_of (stamp p.house.house (p.written + 1)) reply) ≡ stream_text (answers_to p message)
unfolding answers_to
one_text p message r reply m e =
    let text = message_text (message_of (stamp p.house.house (p.written + 1)) reply) in
    let all : answers_by p message (meaning_of p.house.house message)
    ≡ message_of (stamp p.house.house (p.written + 1)) reply ∷ [] =
    ap (answers_by p message) m ∙ ap (sent p.house.house p.written) e in
    sym (append-nil text) ∙ ap stream_text (sym all)

pub one_after : (p : Progress) (message : Message) (r : Result Inbound Reject) → meaning_of p.house.house message ≡ r
    → progress_by p message r ≡ progress_after p message
unfolding progress_after
one_after p message r m = ap (progress_by p message) (sym m)

-- the meaning that was put into this place
pub put_call : (p : Progress) (message : Message) (read : Result (Unit {0}) MeaningError) (done : Unit {0})
    (place call : Inbound) → GivesBy IsSplit (λ _. place) read (meaning_of p.house.house message) → read ≡ Ok done
    → place ≡ call → meaning_of p.house.house message ≡ Ok call
put_call p message read done place call gives ok is =
    let put : meaning_of p.house.house message ≡ Ok place =
    subst (λ (r : Result (Unit {0}) MeaningError).
    GivesBy IsSplit (λ (_ : Unit {0}). place) r (meaning_of p.house.house message))
    ok gives in
    put ∙ ap (λ (m : Inbound). Ok m) is

pub put_fault : (p : Progress) (message : Message) (read : Result (Unit {0}) MeaningError) (place : Inbound)
    (fault : Reject) → GivesBy IsSplit (λ _. place) read (meaning_of p.house.house message)
    → read ≡ Err (errors.Reject fault) → meaning_of p.house.house message ≡ Err fault
put_fault p message read place fault gives err =
    subst (λ (r : Result (Unit {0}) MeaningError).
    GivesBy IsSplit (λ (_ : Unit {0}). place) r (meaning_of p.house.house message))
    err gives
