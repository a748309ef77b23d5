-- A batch, piece by piece.
use Rattle.std.proofs.Common.{◌≡◌, ℕ, ◌+◌, ◌*◌, ◌^◌, ◌<◌, ◌≤◌, inl, inr, List, [], ◌∷◌, ◌++◌, length, take, drop}
use Rattle.std.proofs.Common.{Option, Some, None, Result, Ok, Err, refl, sym, ap, subst, ◌∙◌, append_assoc, append-nil}
use Rattle.std.proofs.Common.{arith, length-append, take-append-drop}
use Rattle.std.specs.Io.KnownBytes.{Consumes, Appends, IsAtEnd}
use Rattle.std.proofs.KnownBytes.{Consumes-nil, Consumes-trans, Appends-nil, Appends-trans}
use Rattle.gu_codec.specs.Grammar.{IsFront}
use Rattle.gu_codec.specs.Stream.{Stream}
use Rattle.gu_base.specs.House.{House}
use Rattle.gu_codec.specs.Messages.{End, Clean, Truncated, Broken, Ends}
use Rattle.gu_codec.proofs.Streams.{front_nil}
use Rattle.gu_batch.specs.Output.{Progress, start, output_of, progress_of, Answers, Plays}
use Rattle.gu_batch.specs.Limits.{longest_read}
use Rattle.gu_batch.specs.Counts.{CountsOne, Fails}
use Rattle.gu_batch.specs.Held.{LeadsTo, AnswersHeld}
use Rattle.gu_batch.specs.declared.batch.RunError.{RunError}
use Rattle.gu_batch.specs.declared.batch.RunError.TheVariants as error
use Rattle.gu_batch.specs.declared.batch.Came.TheVariants as came
use Rattle.gu_batch.specs.Runs.{Told, IsRightFor, IsRight, RunsTo, and_progress, Fills, PieceFails, PieceRight, EndsAs}
use Rattle.gu_batch.proofs.Outputs.{begun, output_so, behind_so, begun_so, prefix_so}
use Rattle.gu_batch.proofs.Holding.{leads_begun}

-- what was read and written in so many turns, and how whatever comes later completes it
pub record ReadSoFar (house : House) (old new : Told) (p : Progress) (f : Stream) (total turns : ℕ) : Type 0 where
  pub bytes : List ℕ
  pub out : List ℕ
  pub consumed : Consumes old.left new.left bytes
  pub appended : Appends old.contents new.contents out
  pub unbroken : f.broken ≡ None
  pub counted : total ≡ f.passed + length f.held
  pub few : total ≤ turns * longest_read
  pub numbered : p.written ≤ f.passed
  pub front : IsFront f.held
  pub goes : (later : List ℕ) (end : Option End) (more : List ℕ) → Answers p f.passed (f.held ++ later) end more
      → Answers (start house) 0 (bytes ++ later) end (out ++ more)
  pub plays : (later : List ℕ) (end : Option End) (behind : Progress) → Plays p f.passed (f.held ++ later) end behind
      → Plays (start house) 0 (bytes ++ later) end behind
  pub made : old.made + turns < 2 ^ 64 → new.made ≡ old.made + turns
  pub reads : old.reads_failed ≤ new.reads_failed
  pub writes : old.writes_failed ≤ new.writes_failed

-- ---- one piece

-- whatever the answer, the text is the answers to a front of the messages
pub held_begun : (p q : Progress) (f g : Stream) (out : List ℕ) (r : Result (Unit {0}) RunError)
    → AnswersHeld p f q g out r → (later : List ℕ) → Answers p f.passed (f.held ++ later) None out
held_begun p q f g out (Ok x) h later = leads_begun p q f g out h.0 later
held_begun p q f g out (Err (error.Broken at)) h later =
    begun p f.passed (f.held ++ later) out (Some (Broken at)) (h later)
held_begun p q f g out (Err error.Memory) h later = h later
held_begun p q f g out (Err (error.Truncated at)) h later = absurd h
held_begun p q f g out (Err error.Read) h later = absurd h
held_begun p q f g out (Err error.Write) h later = absurd h
held_begun p q f g out (Err (error.NoLiveTrade trade)) h later = absurd h

-- a piece is right where the writer took all
pub held_right : (p q : Progress) (f g : Stream) (out : List ℕ) (r : Result (Unit {0}) RunError) (old new : ℕ)
    → AnswersHeld p f q g out r → PieceRight p f q g out old new r
held_right p q f g out (Ok x) old new h = h
held_right p q f g out (Err (error.Broken at)) old new h = h
held_right p q f g out (Err error.Memory) old new h = h
held_right p q f g out (Err (error.Truncated at)) old new h = h
held_right p q f g out (Err error.Read) old new h = h
held_right p q f g out (Err error.Write) old new h = absurd h
held_right p q f g out (Err (error.NoLiveTrade trade)) old new h = absurd h

-- the writer failed
pub write_fails : (p q : Progress) (f g : Stream) (out : List ℕ) (n : ℕ) (r : Result (Unit {0}) RunError) (old new : ℕ)
    → AnswersHeld p f q g out r → Fails old new → PieceFails p f (take n out) old new error.Write
write_fails p q f g out n r old new h k = (
  k,
  drop n out,
  λ later.
      subst (Answers p f.passed (f.held ++ later) None) (sym (take-append-drop n out))
      (held_begun p q f g out r h later),
)

-- ---- the loop

pub none_read : (house : House) (old : Told) (f : Stream) → f.held ≡ [] → f.passed ≡ 0 → f.broken ≡ None
    → ReadSoFar house old old (start house) f 0 0
none_read house old f e z b = record {
  bytes = [];
  out = [];
  consumed = Consumes-nil old.left;
  appended = Appends-nil old.contents;
  unbroken = b;
  counted = omega (arith, z, ap length e);
  few = omega arith;
  numbered = omega arith;
  front = subst IsFront (sym e) front_nil;
  goes = λ later end more h.
      subst (λ (n : ℕ). Answers (start house) n later end more) z
      (subst (λ (t : List ℕ). Answers (start house) f.passed (t ++ later) end more) e h);
  plays = λ later end behind h.
      subst (λ (n : ℕ). Plays (start house) n later end behind) z
      (subst (λ (t : List ℕ). Plays (start house) f.passed (t ++ later) end behind) e h);
  made = λ _. omega arith;
  reads = omega arith;
  writes = omega arith;
}

-- what the bytes of a piece are answered by
carries : (house : House) (old new : Told) (p : Progress) (f : Stream) (total turns : ℕ)
    (now : ReadSoFar house old new p f total turns) (piece later : List ℕ) (end : Option End) (more : List ℕ)
    → Answers p f.passed ((f.held ++ piece) ++ later) end more
    → Answers (start house) 0 ((now.bytes ++ piece) ++ later) end (now.out ++ more)
carries house old new p f total turns now piece later end more h =
    subst (λ (t : List ℕ). Answers (start house) 0 t end (now.out ++ more)) (sym (append_assoc now.bytes piece later))
    (now.goes (piece ++ later) end more
    (subst (λ (t : List ℕ). Answers p f.passed t end more) (append_assoc f.held piece later) h))

-- the stream goes no further
carries_all : (house : House) (old new : Told) (p : Progress) (f : Stream) (total turns : ℕ)
    (now : ReadSoFar house old new p f total turns) (piece : List ℕ) (end : Option End) (more : List ℕ)
    → ((later : List ℕ) → Answers p f.passed ((f.held ++ piece) ++ later) end more)
    → Answers (start house) 0 (now.bytes ++ piece) end (now.out ++ more)
carries_all house old new p f total turns now piece end more h =
    subst (λ (t : List ℕ). Answers (start house) 0 t end (now.out ++ more)) (append-nil (now.bytes ++ piece))
    (carries house old new p f total turns now piece [] end more (h []))

-- no frame more, and this end
ends_so : (house : House) (old new : Told) (p : Progress) (f : Stream) (total turns : ℕ)
    (now : ReadSoFar house old new p f total turns) (end : Option End) → Ends f.passed f.held end
    → Answers (start house) 0 now.bytes end now.out
ends_so house old new p f total turns now end h =
    let all = now.goes [] end [] ([], subst (λ (t : List ℕ). Ends f.passed t end) (sym (append-nil f.held)) h, refl) in
    subst (λ (t : List ℕ). Answers (start house) 0 t end now.out) (append-nil now.bytes)
    (subst (λ (t : List ℕ). Answers (start house) 0 (now.bytes ++ []) end t) (append-nil now.out) all)

-- what was written is the output of what was read
written_so : (house : House) (old new : Told) (p : Progress) (f : Stream) (total turns : ℕ)
    (now : ReadSoFar house old new p f total turns) → now.out ≡ output_of house now.bytes
written_so house old new p f total turns now = choose f.held refl
  where
    choose : (t : List ℕ) → f.held ≡ t → now.out ≡ output_of house now.bytes
    choose [] e = (output_so house now.bytes now.out Clean (ends_so house old new p f total turns now (Some Clean) e)).1
    choose (x ∷ t) e =
        (output_so house now.bytes now.out (Truncated f.passed)
        (ends_so house old new p f total turns now (Some (Truncated f.passed))
        (refl, λ n. absurd (omega (arith, ap length (sym e ∙ n))), now.front))).1

-- where no byte is held any more, the progress is that behind what was read
pub behind_all : (house : House) (old new : Told) (p : Progress) (f : Stream) (total turns : ℕ)
    (now : ReadSoFar house old new p f total turns) → f.held ≡ [] → p ≡ progress_of house now.bytes
behind_all house old new p f total turns now e =
    let all = now.plays [] (Some Clean) p ([], append-nil f.held ∙ e, refl) in
    behind_so house now.bytes p Clean
    (subst (λ (t : List ℕ). Plays (start house) 0 t (Some Clean) p) (append-nil now.bytes) all)

-- ---- what each turn gives

-- want of memory before the first read
pub memory_first : (house : House) (old : Told) → RunsTo house old old (Err error.Memory)
memory_first house old = record {
  bytes = [];
  out = [];
  consumed = Consumes-nil old.left;
  appended = Appends-nil old.contents;
  right = (0, refl);
  behind = tt;
}

same_feed : (f g : Stream) (piece : List ℕ) → g ≡ record f { held = f.held ++ piece } → piece ≡ [] → g ≡ f
same_feed f g piece e p =
    e ∙ ap (λ (t : List ℕ). record f { held = f.held ++ t }) p
    ∙ ap (λ (t : List ℕ). record f { held = t }) (append-nil f.held)

no_more : (a b c : Option (List ℕ)) (bytes piece : List ℕ) → Consumes a b bytes → Consumes b c piece → piece ≡ []
    → Consumes a c bytes
no_more a b c bytes piece p q e =
    subst (Consumes a c) (ap (λ (t : List ℕ). bytes ++ t) e ∙ append-nil bytes) (Consumes-trans a b c bytes piece p q)

-- a read that brought nothing
pub after_nothing : (house : House) (old now : Told) (p : Progress) (f g : Stream) (total turns : ℕ)
    (left : Option (List ℕ)) (made failed : ℕ) → ReadSoFar house old now p f total turns
    → Fills now.left left now.reads_failed failed f g came.Nothing → CountsOne now.made made
    → ReadSoFar house old
    (record {
      left = left;
      made = made;
      reads_failed = failed;
      contents = now.contents;
      writes_failed = now.writes_failed;
    })
    p g total (turns + 1)
after_nothing house old now p f g total turns left made failed k r one =
    rw (same_feed f g r.piece r.pushed r.came.0) (record {
      bytes = k.bytes;
      out = k.out;
      consumed = no_more old.left now.left left k.bytes r.piece k.consumed r.consumed r.came.0;
      appended = k.appended;
      unbroken = k.unbroken;
      counted = k.counted;
      few = omega (arith, k.few);
      numbered = k.numbered;
      front = k.front;
      goes = k.goes;
      plays = k.plays;
      made = λ small.
          let was = k.made (omega (arith, small)) in
          let new = one (omega (arith, was, small)) in
          omega (arith, was, new);
      reads = omega (arith, k.reads, r.grows);
      writes = k.writes;
    })

-- a piece that was answered
pub after_bytes : (house : House) (old now : Told) (p q : Progress) (f g h : Stream) (total turns count : ℕ)
    (left contents : Option (List ℕ)) (made failed writes_failed : ℕ) (out : List ℕ)
    → ReadSoFar house old now p f total turns → Fills now.left left now.reads_failed failed f g (came.Bytes count)
    → CountsOne now.made made → LeadsTo p g q h out × IsFront h.held → Appends now.contents contents out
    → now.writes_failed ≤ writes_failed
    → ReadSoFar house old
    (record { left = left; made = made; reads_failed = failed; contents = contents; writes_failed = writes_failed }) q h
    (total + count) (turns + 1)
after_bytes house old now p q f g h total turns count left contents made failed writes_failed out k r one l a w =
    let led : LeadsTo p (record f { held = f.held ++ r.piece }) q h out =
    subst (λ (x : Stream). LeadsTo p x q h out) r.pushed l.0 in
    record {
      bytes = k.bytes ++ r.piece;
      out = k.out ++ out;
      consumed = Consumes-trans old.left now.left left k.bytes r.piece k.consumed r.consumed;
      appended = Appends-trans old.contents now.contents contents k.out out k.appended a;
      unbroken = led.unbroken;
      counted = omega (arith, k.counted, led.same, r.came.0, length-append f.held r.piece);
      few = omega (arith, k.few, r.few, r.came.0);
      numbered = led.counted k.numbered;
      front = l.1;
      goes = λ later end more x.
          subst (λ (y : List ℕ). Answers (start house) 0 ((k.bytes ++ r.piece) ++ later) end y)
          (sym (append_assoc k.out out more))
          (carries house old now p f total turns k r.piece later end (out ++ more) (led.goes later end more x));
      plays = λ later end behind x.
          subst (λ (t : List ℕ). Plays (start house) 0 t end behind) (sym (append_assoc k.bytes r.piece later))
          (k.plays (r.piece ++ later) end behind
          (subst (λ (t : List ℕ). Plays p f.passed t end behind) (append_assoc f.held r.piece later)
          (led.plays later end behind x)));
      made = λ small.
          let was = k.made (omega (arith, small)) in
          let new = one (omega (arith, was, small)) in
          omega (arith, was, new);
      reads = omega (arith, k.reads, r.grows);
      writes = omega (arith, k.writes, w);
    }

more_fails : (a b c : ℕ) → a ≤ b → Fails b c → Fails a c
more_fails a b c le k = record {
  grows = omega (arith, le, k.grows);
  counts = λ small. let on = k.counts in let up = k.grows in grind (arith, le, on, up, small);
}

-- a read that failed
pub fault_right : (house : House) (old now : Told) (p : Progress) (f g : Stream) (total turns : ℕ)
    (left : Option (List ℕ)) (made failed : ℕ) → ReadSoFar house old now p f total turns
    → Fills now.left left now.reads_failed failed f g came.Fault
    → RunsTo house old
    (record {
      left = left;
      made = made;
      reads_failed = failed;
      contents = now.contents;
      writes_failed = now.writes_failed;
    })
    (Err error.Read)
fault_right house old now p f g total turns left made failed k r = record {
  bytes = k.bytes;
  out = k.out;
  consumed = no_more old.left now.left left k.bytes r.piece k.consumed r.consumed r.came.0;
  appended = k.appended;
  right = (
    inl (more_fails old.reads_failed now.reads_failed failed k.reads r.came.1),
    written_so house old now p f total turns k,
  );
  behind = tt;
}

-- too many reads
pub limit_right : (house : House) (old now : Told) (p : Progress) (f : Stream) (total turns : ℕ)
    → turns ≡ 16777216 → ReadSoFar house old now p f total turns → RunsTo house old now (Err error.Read)
limit_right house old now p f total turns e k = record {
  bytes = k.bytes;
  out = k.out;
  consumed = k.consumed;
  appended = k.appended;
  right = (
    inr (λ small. let was = k.made (omega (arith, small, e)) in omega (arith, was, e)),
    written_so house old now p f total turns k,
  );
  behind = tt;
}

-- the end of the stream
ending : (house : House) (old now : Told) (p : Progress) (f : Stream) (total turns : ℕ) (left : Option (List ℕ))
    (made failed : ℕ) (k : ReadSoFar house old now p f total turns) (r : Result (Unit {0}) RunError) → IsAtEnd left
    → EndsAs f r
    → IsRight {A = Unit {0}} house old
    (record {
      left = left;
      made = made;
      reads_failed = failed;
      contents = now.contents;
      writes_failed = now.writes_failed;
    })
    k.bytes k.out r
ending house old now p f total turns left made failed k (Ok x) at h =
    let so = output_so house k.bytes k.out Clean (ends_so house old now p f total turns k (Some Clean) h) in
    (at, so.0, so.1)
ending house old now p f total turns left made failed k (Err (error.Truncated n)) at h =
    let so = output_so house k.bytes k.out (Truncated n)
    (ends_so house old now p f total turns k (Some (Truncated n)) (h.0, h.1, k.front)) in
    (at, so.0, so.1)
ending house old now p f total turns left made failed k (Err (error.Broken n)) at h = absurd h
ending house old now p f total turns left made failed k (Err error.Read) at h = absurd h
ending house old now p f total turns left made failed k (Err error.Write) at h = absurd h
ending house old now p f total turns left made failed k (Err error.Memory) at h = absurd h
ending house old now p f total turns left made failed k (Err (error.NoLiveTrade trade)) at h = absurd h

-- of which feed and which error the end speaks
ended : (f g : Stream) (piece : List ℕ) (r : Result (Unit {0}) RunError) → g ≡ record f { held = f.held ++ piece }
    → piece ≡ [] → EndsAs g r → EndsAs f r
ended f g piece r e p h = subst (λ (x : Stream). EndsAs x r) (same_feed f g piece e p) h

-- the stream ended well
pub end_right : (house : House) (old now : Told) (p : Progress) (f g : Stream) (total turns : ℕ)
    (left : Option (List ℕ)) (made failed : ℕ) (x : Unit {0}) → ReadSoFar house old now p f total turns
    → Fills now.left left now.reads_failed failed f g came.End → EndsAs {A = Unit {0}} g (Ok x)
    → RunsTo house old
    (record {
      left = left;
      made = made;
      reads_failed = failed;
      contents = now.contents;
      writes_failed = now.writes_failed;
    })
    (Ok p)
end_right house old now p f g total turns left made failed x k r h =
    let h = ended f g r.piece (Ok x) r.pushed r.came.0 h in
    record {
      bytes = k.bytes;
      out = k.out;
      consumed = no_more old.left now.left left k.bytes r.piece k.consumed r.consumed r.came.0;
      appended = k.appended;
      right = ending house old now p f total turns left made failed k (Ok x) r.came.1 h;
      behind = behind_all house old now p f total turns k h;
    }

-- and not so well
pub end_wrong : (house : House) (old now : Told) (p : Progress) (f g : Stream) (total turns : ℕ)
    (left : Option (List ℕ)) (made failed : ℕ) (e : RunError) → ReadSoFar house old now p f total turns
    → Fills now.left left now.reads_failed failed f g came.End → EndsAs {A = Unit {0}} g (Err e)
    → RunsTo house old
    (record {
      left = left;
      made = made;
      reads_failed = failed;
      contents = now.contents;
      writes_failed = now.writes_failed;
    })
    (Err e)
end_wrong house old now p f g total turns left made failed e k r h = record {
  bytes = k.bytes;
  out = k.out;
  consumed = no_more old.left now.left left k.bytes r.piece k.consumed r.consumed r.came.0;
  appended = k.appended;
  right = ending house old now p f total turns left made failed k (Err e) r.came.1
      (ended f g r.piece (Err e) r.pushed r.came.0 h);
  behind = tt;
}

-- where answering the last piece failed
failing : (house : House) (old now new : Told) (p : Progress) (f : Stream) (total turns : ℕ)
    (k : ReadSoFar house old now p f total turns) (piece out : List ℕ) (e : RunError)
    → PieceFails p (record f { held = f.held ++ piece }) out now.writes_failed new.writes_failed e
    → IsRightFor house old new (k.bytes ++ piece) (k.out ++ out) e
failing house old now new p f total turns k piece out (error.Broken n) h =
    output_so house (k.bytes ++ piece) (k.out ++ out) (Broken n)
    (carries_all house old now p f total turns k piece (Some (Broken n)) out h)
failing house old now new p f total turns k piece out (error.Truncated n) h = absurd h
failing house old now new p f total turns k piece out error.Read h = absurd h
failing house old now new p f total turns k piece out (error.NoLiveTrade trade) h = absurd h
failing house old now new p f total turns k piece out error.Write h =
    let all = prefix_so house (k.bytes ++ piece) (k.out ++ (out ++ h.1))
    (carries_all house old now p f total turns k piece None (out ++ h.1) h.2) in (
      more_fails old.writes_failed now.writes_failed new.writes_failed k.writes h.0,
      h.1 ++ all.0,
      all.1 ∙ ap (λ (t : List ℕ). t ++ all.0) (sym (append_assoc k.out out h.1))
          ∙ append_assoc (k.out ++ out) h.1 all.0,
    )
failing house old now new p f total turns k piece out error.Memory h =
    begun_so house (k.bytes ++ piece) (k.out ++ out) (carries_all house old now p f total turns k piece None out h)

-- however the stream ends
pub end_as : (house : House) (old now : Told) (p : Progress) (f g : Stream) (total turns : ℕ) (left : Option (List ℕ))
    (made failed : ℕ) (x : Result (Unit {0}) RunError) → ReadSoFar house old now p f total turns
    → Fills now.left left now.reads_failed failed f g came.End → EndsAs g x
    → RunsTo house old
    (record {
      left = left;
      made = made;
      reads_failed = failed;
      contents = now.contents;
      writes_failed = now.writes_failed;
    })
    (and_progress x p)
end_as house old now p f g total turns left made failed (Ok x) k r h =
    end_right house old now p f g total turns left made failed x k r h
end_as house old now p f g total turns left made failed (Err e) k r h =
    end_wrong house old now p f g total turns left made failed e k r h

-- nothing was read: what is to be answered is answered from here on
pub none_read_yet : (old : Told) (p : Progress) (f : Stream) → p ≡ start p.house → f.held ≡ [] → f.passed ≡ 0
    → f.broken ≡ None → ReadSoFar p.house old old p f 0 0
none_read_yet old p f fresh e z b =
    subst (λ (x : Progress). ReadSoFar p.house old old x f 0 0) (sym fresh) (none_read p.house old f e z b)

pub piece_right : (house : House) (old now : Told) (p : Progress) (f g : Stream) (total turns count : ℕ)
    (left contents : Option (List ℕ)) (made failed writes_failed : ℕ) (out : List ℕ) (e : RunError)
    → ReadSoFar house old now p f total turns → Fills now.left left now.reads_failed failed f g (came.Bytes count)
    → PieceFails p g out now.writes_failed writes_failed e → Appends now.contents contents out
    → RunsTo house old
    (record { left = left; made = made; reads_failed = failed; contents = contents; writes_failed = writes_failed })
    (Err e)
piece_right house old now p f g total turns count left contents made failed writes_failed out e k r x a = record {
  bytes = k.bytes ++ r.piece;
  out = k.out ++ out;
  consumed = Consumes-trans old.left now.left left k.bytes r.piece k.consumed r.consumed;
  appended = Appends-trans old.contents now.contents contents k.out out k.appended a;
  right = failing house old now
      (record { left = left; made = made; reads_failed = failed; contents = contents; writes_failed = writes_failed }) p
      f total turns k r.piece out e
      (subst (λ (y : Stream). PieceFails p y out now.writes_failed writes_failed e) r.pushed x);
  behind = tt;
}

-- what a piece needs: as many numbers as bytes, and few of them
pub numbered_with : (house : House) (old now : Told) (p : Progress) (f g : Stream) (total turns : ℕ)
    (left : Option (List ℕ)) (failed count : ℕ) → ReadSoFar house old now p f total turns
    → Fills now.left left now.reads_failed failed f g (came.Bytes count) → p.written ≤ g.passed
numbered_with house old now p f g total turns left failed count k r = rw (r.pushed) k.numbered

pub short_with : (house : House) (old now : Told) (p : Progress) (f g : Stream) (total turns : ℕ)
    (left : Option (List ℕ)) (failed count : ℕ) → ReadSoFar house old now p f total turns
    → Fills now.left left now.reads_failed failed f g (came.Bytes count) → turns ≤ 16777216
    → g.passed + length g.held < 2 ^ 63
short_with house old now p f g total turns left failed count k r le =
    rw (r.pushed) (omega (arith, k.counted, k.few, r.few, le, length-append f.held r.piece))
