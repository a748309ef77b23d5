-- Frames taken from bytes that are held while more may come.
use Rattle.std.proofs.Common.{◌≡◌, ℕ, ◌+◌, ◌<◌, ◌≤◌, ◌^◌, inl, inr, List, [], ◌++◌, length, drop, Option, Some, None}
use Rattle.std.proofs.Common.{Result, Ok, Err, refl, sym, subst, append_assoc, append-nil, arith, length-drop}
use Rattle.std.specs.Prelude.{option_map}
use Rattle.std.proofs.lemmas.Bool.{cases_Bool}
use Rattle.std.proofs.lemmas.List.{drop-append-le}
use Rattle.gu_codec.specs.Answer.{pairs, settled}
use Rattle.gu_codec.specs.Fields.{are_fields}
use Rattle.gu_codec.specs.Stream.{Stream}
use Rattle.gu_codec.specs.Next.{NextOf, NextAnswers, after as next_after}
use Rattle.gu_codec.specs.declared.fields.Fields.{Fields}
use Rattle.gu_codec.specs.declared.frame.Frame.{Frame}
use Rattle.gu_codec.specs.declared.frame.Frame.TheVariants.{Whole, Garbled, Broken}
use Rattle.gu_codec.specs.Messages.{Message, Begins, End, Broken as BrokenAt, Ends}
use Rattle.gu_codec.specs.Writing.{stream_text}
use Rattle.gu_codec.proofs.Streams.{frame_len, begins_stays, broken_stays}
use Rattle.gu_message.specs.Meaning.{meaning_of}
use Rattle.gu_message.specs.declared.fault.Reject.{Reject}
use Rattle.gu_message.specs.declared.inbound.Inbound.{Inbound}
use Rattle.gu_message.specs.declared.inbound.Inbound.TheVariants as inbound
use Rattle.gu_batch.specs.Output.{Progress, progress_by, answers_to, answers_to_body, progress_after, progress_behind}
use Rattle.gu_batch.specs.Output.{Answers, Plays}
use Rattle.gu_batch.specs.Held.{LeadsTo}
use Rattle.gu_batch.proofs.Outputs.{step_good, step_garbled, play_good, play_garbled}

-- a message is answered by one message at most
pub after_written : (p : Progress) (m : Message) → (progress_after p m).written ≤ p.written + 1
unfolding progress_after
after_written p m = by_meaning (meaning_of p.house.house m)
  where
    by_meaning : (r : Result Inbound Reject) → (progress_by p m r).written ≤ p.written + 1
    by_meaning (Ok (inbound.Call firm trade id command)) = omega arith
    by_meaning (Ok (inbound.Logon heartbeat reset)) = omega arith
    by_meaning (Ok inbound.Heartbeat) = omega arith
    by_meaning (Ok (inbound.TestRequest id)) = omega arith
    by_meaning (Ok (inbound.ResendRequest from to)) = omega arith
    by_meaning (Ok inbound.Reject) = omega arith
    by_meaning (Ok (inbound.SequenceReset gap_fill next)) = omega arith
    by_meaning (Ok inbound.Logout) = omega arith
    by_meaning (Err fault) = omega arith

-- the answer of an unbroken feed, and what it leaves
pub answer_of : (f h : Stream) (r q : Option Frame) → f.broken ≡ None → NextAnswers f (option_map settled r)
    → h ≡ next_after f r → r ≡ q → NextOf None f (option_map settled q) × (h ≡ next_after f q)
answer_of f h r q e a k w = (
  subst (λ (o : Option Frame). NextOf None f (option_map settled o)) w
      (subst (λ (b : Option ℕ). NextOf b f (option_map settled r)) e a),
  subst (λ (o : Option Frame). h ≡ next_after f o) w k,
)

-- a frame with a good checksum
pub leads_good : (p q : Progress) (f g h : Stream) (out : List ℕ) (fields : Fields) (len : ℕ)
    → LeadsTo p f q g out → NextOf None g (Some (Whole fields len)) → h ≡ next_after g (Some (Whole fields len))
    → LeadsTo p f (progress_after q (pairs fields)) h (out ++ stream_text (answers_to q (pairs fields)))
leads_good p q f g h out fields len l a e =
    let new = next_after g (Some (Whole fields len)) in
    let seen : Begins g.held (record { fields = Some (pairs fields); len = len }) = a in
    rw e (record {
      unbroken = l.unbroken;
      same = omega (arith, l.same, a.1.within, length-drop len g.held);
      counted = λ k. omega (arith, l.counted k, after_written q (pairs fields), frame_len g.held a.0 len a.1);
      goes = λ later end more k.
          let on : Answers (progress_after q (pairs fields)) (g.passed + len) (drop len (g.held ++ later)) end more =
          subst (λ (b : List ℕ). Answers (progress_after q (pairs fields)) (g.passed + len) b end more)
          (sym (drop-append-le len g.held later a.1.within)) k in
          let one = l.goes later end (stream_text (answers_to q (pairs fields)) ++ more)
          (step_good q g.passed (g.held ++ later) (pairs fields) len end more
          (begins_stays g.held later (record { fields = Some (pairs fields); len = len }) seen) on) in
          subst (Answers p f.passed (f.held ++ later) end)
          (sym (append_assoc out (stream_text (answers_to q (pairs fields))) more)) one;
      plays = λ later end behind k.
          l.plays later end behind
          (play_good q behind g.passed (g.held ++ later) (pairs fields) len end
          (begins_stays g.held later (record { fields = Some (pairs fields); len = len }) seen)
          (subst (λ (b : List ℕ). Plays (progress_after q (pairs fields)) (g.passed + len) b end behind)
          (sym (drop-append-le len g.held later a.1.within)) k));
    })

-- a garbled one
pub leads_garbled : (p q : Progress) (f g h : Stream) (out : List ℕ) (len : ℕ) → LeadsTo p f q g out
    → NextOf None g (Some (Garbled len)) → h ≡ next_after g (Some (Garbled len)) → LeadsTo p f q h out
leads_garbled p q f g h out len l a e =
    let seen : Begins g.held (record { fields = None; len = len }) = a in
    rw e (record {
      unbroken = l.unbroken;
      same = omega (arith, l.same, a.1.within, length-drop len g.held);
      counted = λ k. omega (arith, l.counted k);
      goes = λ later end more k.
          l.goes later end more
          (step_garbled q g.passed (g.held ++ later) len end more
          (begins_stays g.held later (record { fields = None; len = len }) seen)
          (subst (λ (b : List ℕ). Answers q (g.passed + len) b end more)
          (sym (drop-append-le len g.held later a.1.within)) k));
      plays = λ later end behind k.
          l.plays later end behind
          (play_garbled q behind g.passed (g.held ++ later) len end
          (begins_stays g.held later (record { fields = None; len = len }) seen)
          (subst (λ (b : List ℕ). Plays q (g.passed + len) b end behind)
          (sym (drop-append-le len g.held later a.1.within)) k));
    })

-- a frame whose body wasn't looked at
pub leads_sealed : (p q : Progress) (f g h : Stream) (out : List ℕ) (fields : Fields) (len : ℕ) → LeadsTo p f q g out
    → NextOf None g (Some (settled (Whole fields len))) → h ≡ next_after g (Some (Whole fields len))
    → LeadsTo p f (progress_behind q fields) h (out ++ stream_text (answers_to_body q fields))
leads_sealed p q f g h out fields len l a e = elim (cases_Bool (are_fields fields.rest.now)) [
  | inl y ↦
      let good : NextOf None g (Some (Whole fields len)) = rw y at a in
      rw y (leads_good p q f g h out fields len l good e)
  | inr n ↦
      let garbled : NextOf None g (Some (Garbled len)) = rw n at a in
      rw n (subst (LeadsTo p f q h) (sym (append-nil out)) (leads_garbled p q f g h out len l garbled e))
]

-- and how long it is
pub sealed_len : (g : Stream) (fields : Fields) (len : ℕ) → NextOf None g (Some (settled (Whole fields len)))
    → (0 < len) × (len ≤ length g.held)
sealed_len g fields len a = elim (cases_Bool (are_fields fields.rest.now)) [
  | inl y ↦
      let good : NextOf None g (Some (Whole fields len)) = rw y at a in
      let l = frame_len g.held good.0 len good.1 in
      (omega (arith, l), good.1.within)
  | inr n ↦
      let garbled : NextOf None g (Some (Garbled len)) = rw n at a in
      let l = frame_len g.held garbled.0 len garbled.1 in
      (omega (arith, l), garbled.1.within)
]

-- ---- where no frame more is held

pub leads_to : (p q : Progress) (f g : Stream) (out later : List ℕ) (end : Option End) → LeadsTo p f q g out
    → Ends g.passed (g.held ++ later) end → Answers p f.passed (f.held ++ later) end out
leads_to p q f g out later end l h =
    subst (Answers p f.passed (f.held ++ later) end) (append-nil out) (l.goes later end [] ([], h, refl))

pub leads_broken : (p q : Progress) (f g : Stream) (out : List ℕ) (at : ℕ) → LeadsTo p f q g out
    → NextOf None g (Some (Broken at)) → (later : List ℕ)
    → Answers p f.passed (f.held ++ later) (Some (BrokenAt at)) out
leads_broken p q f g out at l a later =
    leads_to p q f g out later (Some (BrokenAt at)) l (a.0, a.1, broken_stays g.held later a.0 a.2)

pub leads_begun : (p q : Progress) (f g : Stream) (out : List ℕ) → LeadsTo p f q g out → (later : List ℕ)
    → Answers p f.passed (f.held ++ later) None out
leads_begun p q f g out l later = leads_to p q f g out later None l tt

-- there is a number for one message more
pub may_count : (p q : Progress) (f g : Stream) (out : List ℕ) → LeadsTo p f q g out → p.written ≤ f.passed
    → f.passed + length f.held < 2 ^ 63 → q.written + 1 < 2 ^ 64
may_count p q f g out l counted short = let c = l.counted counted in let e = l.same in omega (arith, c, e, short)
