-- What is told of a stream that was read along.
use Rattle.std.proofs.Common.{◌≡◌, ℕ, ◌<◌, List, [], ◌∷◌, take, drop, Option, None, Result, Ok, Err, refl, sym, ap}
use Rattle.std.proofs.Common.{subst, ◌∙◌, arith, take-append-drop}
use Rattle.std.specs.Io.KnownBytes.{Appends}
use Rattle.std.proofs.KnownBytes.{Appends-nil}
use Rattle.gu_base.specs.House.{House}
use Rattle.gu_base.specs.declared.entry.Entry.{Entry}
use Rattle.gu_codec.specs.Messages.{Message}
use Rattle.gu_codec.specs.Readings.{messages_of}
use Rattle.gu_batch.specs.Counts.{Fails}
use Rattle.gu_batch.specs.Output.{Progress, start, progress_after, progress_along, progress_of, history_of}
use Rattle.gu_batch.specs.Runs.{Told, IsRightFor, RunsTo}
use Rattle.gu_batch.specs.Traces.{IsUntold, IsReadThrough, IsTracedFor, Tells, Traces}
use Rattle.gu_batch.specs.declared.batch.RunError.{RunError}
use Rattle.gu_batch.specs.declared.batch.RunError.TheVariants as error

-- ---- the house table stays

same_house : (p : Progress) (m : Message) → (progress_after p m).house ≡ p.house
unfolding progress_after
same_house p m = refl

house_along : (p : Progress) (ms : List Message) → (progress_along p ms).house ≡ p.house
house_along p [] = refl
house_along p (m ∷ ms) = house_along (progress_after p m) ms ∙ same_house p m

-- ---- of the book behind a stream

-- what is told of the book is told of the history of the messages
of_stream : (house t : House) (h : List Entry) (p : Progress) (bytes : List ℕ) (trade : Option ℕ)
    (r : Result (List ℕ) RunError) → p ≡ progress_of house bytes → t ≡ p.house → h ≡ p.history → Tells t h trade r
    → Tells house (history_of house bytes) trade r
of_stream house t h p bytes trade r e same_t same_h k =
    let house_is : t ≡ house =
    same_t ∙ ap (λ (x : Progress). x.house) e ∙ house_along (start house) (messages_of bytes) in
    let history_is : h ≡ history_of house bytes = same_h ∙ ap (λ (x : Progress). x.history) e in
    subst (λ (x : List Entry). Tells house x trade r) history_is (subst (λ (x : House). Tells x h trade r) house_is k)

-- what a reader and a writer tell
abbrev pub tells : Option (List ℕ) → ℕ → ℕ → Option (List ℕ) → ℕ → Told
tells left made failed contents writes_failed =
    record { left = left; made = made; reads_failed = failed; contents = contents; writes_failed = writes_failed }

never_failed : Fails 0 0 → ⊥
never_failed k = let bad : 0 < 0 = k.counts (omega arith) in omega (arith, bad)

-- an error of the stream, over which nothing was written: the writer that keeps nothing never fails
unread : (house : House) (trade : Option ℕ) (l m : Option (List ℕ)) (x y f g : ℕ) (c : Option (List ℕ)) (w : ℕ)
    (bytes out : List ℕ) (e : RunError) → IsRightFor house (tells l x f None 0) (tells m y g None 0) bytes out e
    → IsTracedFor house trade (tells l x f c w) (tells m y g c w) bytes [] e
unread house trade l m x y f g c w bytes out (error.Broken at) h = (h.0, refl)
unread house trade l m x y f g c w bytes out (error.Truncated at) h = (h.0, h.1, refl)
unread house trade l m x y f g c w bytes out error.Read h = (h.0, refl)
unread house trade l m x y f g c w bytes out error.Write h = absurd (never_failed h.0)
unread house trade l m x y f g c w bytes out error.Memory h = refl
unread house trade l m x y f g c w bytes out (error.NoLiveTrade number) h = absurd h

pub stream_wrong : (house : House) (trade : Option ℕ) (l m : Option (List ℕ)) (x y f g : ℕ) (c : Option (List ℕ))
    (w : ℕ) (e : RunError) → RunsTo house (tells l x f None 0) (tells m y g None 0) (Err e)
    → Traces {A = Unit {0}} house trade (tells l x f c w) (tells m y g c w) (Err e)
stream_wrong house trade l m x y f g c w e r = record {
  bytes = r.bytes;
  out = [];
  consumed = r.consumed;
  appended = Appends-nil c;
  right = unread house trade l m x y f g c w r.bytes r.out e r.right;
}

untold_at : (house : House) (trade : Option ℕ) (old new : Told) (bytes : List ℕ) (e : RunError)
    → IsReadThrough new bytes → IsUntold (history_of house bytes) trade e → IsTracedFor house trade old new bytes [] e
untold_at house trade old new bytes (error.NoLiveTrade number) r h = (r, h, refl)
untold_at house trade old new bytes error.Memory r h = refl
untold_at house trade old new bytes (error.Broken at) r h = absurd h
untold_at house trade old new bytes (error.Truncated at) r h = absurd h
untold_at house trade old new bytes error.Read r h = absurd h
untold_at house trade old new bytes error.Write r h = absurd h

-- the book tells nothing
pub told_wrong : (house t : House) (h : List Entry) (p : Progress) (trade : Option ℕ) (l m : Option (List ℕ))
    (x y f g : ℕ) (c : Option (List ℕ)) (w : ℕ) (e : RunError)
    → RunsTo house (tells l x f None 0) (tells m y g None 0) (Ok p) → t ≡ p.house → h ≡ p.history → IsUntold h trade e
    → Traces {A = Unit {0}} house trade (tells l x f c w) (tells m y g c w) (Err e)
told_wrong house t h p trade l m x y f g c w e r same_t same_h k = record {
  bytes = r.bytes;
  out = [];
  consumed = r.consumed;
  appended = Appends-nil c;
  right = untold_at house trade (tells l x f c w) (tells m y g c w) r.bytes e (r.right.0, r.right.1)
      (of_stream house t h p r.bytes trade (Err e) r.behind same_t same_h k);
}

-- its text was written
pub told_right : (house t : House) (h : List Entry) (p : Progress) (trade : Option ℕ) (l m : Option (List ℕ))
    (x y f g : ℕ) (b c : Option (List ℕ)) (v w : ℕ) (text : List ℕ)
    → RunsTo house (tells l x f None 0) (tells m y g None 0) (Ok p) → t ≡ p.house → h ≡ p.history
    → Tells t h trade (Ok text) → Appends b c text
    → Traces {A = Unit {0}} house trade (tells l x f b v) (tells m y g c w) (Ok (tt {0}))
told_right house t h p trade l m x y f g b c v w text r same_t same_h k a = record {
  bytes = r.bytes;
  out = text;
  consumed = r.consumed;
  appended = a;
  right = ((r.right.0, r.right.1), of_stream house t h p r.bytes trade (Ok text) r.behind same_t same_h k);
}

-- or a front of it
pub front_told : (house t : House) (h : List Entry) (p : Progress) (trade : Option ℕ) (l m : Option (List ℕ))
    (x y f g : ℕ) (b c : Option (List ℕ)) (v w n : ℕ) (text : List ℕ)
    → RunsTo house (tells l x f None 0) (tells m y g None 0) (Ok p) → t ≡ p.house → h ≡ p.history
    → Tells t h trade (Ok text) → Appends b c (take n text) → Fails v w
    → Traces {A = Unit {0}} house trade (tells l x f b v) (tells m y g c w) (Err error.Write)
front_told house t h p trade l m x y f g b c v w n text r same_t same_h k a bad = record {
  bytes = r.bytes;
  out = take n text;
  consumed = r.consumed;
  appended = a;
  right = (
    bad,
    (r.right.0, r.right.1),
    drop n text,
    subst (λ (x : List ℕ). Tells house (history_of house r.bytes) trade (Ok x)) (sym (take-append-drop n text))
        (of_stream house t h p r.bytes trade (Ok text) r.behind same_t same_h k),
  );
}
