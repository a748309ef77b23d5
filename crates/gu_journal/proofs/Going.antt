-- The frames at the front of a file are taken, a piece at a time.
use Rattle.gu_message.specs.declared.inbound.Inbound.TheVariants as inbound
use Rattle.gu_journal.specs.declared.damage.RecoverError.TheVariants as error
use Rattle.gu_codec.specs.{Fronts.IsGood, Grammar.{frame as classes_of, IsWord}}
use Rattle.gu_journal.proofs
use proofs.Vocabulary.{AddsNext, ap, append-nil, append_assoc, arith, BookView, Entry, Err, false, frame_len, Fresh}
use proofs.Vocabulary.{Garbled, group_more, head_alone, Holds512, House, IfErr, Inbound, IsFault, IsFrontOf, IsHead}
use proofs.Vocabulary.{IsJournal, IsNumbered, IsOneFrame, IsSeal, IsSealedAt, IsTaken, length, length-append}
use proofs.Vocabulary.{length-take, List, meaning_of, Message, Ok, opening_history, RecoverError, refl, Replay, Replays}
use proofs.Vocabulary.{Result, Says, says_next, says_none, SaysNext, Sealed, slice_index, Stand, subst, sym, take}
use proofs.Vocabulary.{take_all, Takes, Unsealed, Whole, [], ℕ, ◌++◌, ◌+◌, ◌<◌, ◌∙◌, ◌∷◌, ◌≡◌, ◌≢◌, ◌≤◌}
use Rattle.gu_journal.specs.Taking.{IsOpenAt, IsTold}
use Rattle.std.proofs.Common.{IsErr, IsErrAnd}

-- ---- one message more

-- a journal, and behind it what says further entries, or nothing
record Reaches (t : House) (pin taken : List ℕ) (new : List Entry) : Type 0 where
  bytes : List ℕ
  entries : List ℕ
  h : List Entry
  journal : IsJournal t pin bytes h
  says : Says t h entries new
  parts : taken ≡ bytes ++ entries

-- what is taken at a seal, and behind one, reaches so far
sealed : (t : House) (pin taken : List ℕ) (h : List Entry) → IsJournal t pin taken h → Reaches t pin taken h
sealed t pin taken h is =
    record { bytes = taken; entries = []; h = h; journal = is; says = says_none; parts = sym (append-nil taken) }

unsealed : (t : House) (pin taken : List ℕ) (h : List Entry) → IsOpenAt t pin taken h → Reaches t pin taken h
unsealed t pin taken h is =
    record { bytes = is.bytes; entries = is.entries; h = is.h; journal = is.journal; says = is.says; parts = is.parts }

-- an entry more, and a seal
entry_on : (t : House) (pin taken frame : List ℕ) (h new : List Entry) (m : Message) → Reaches t pin taken h
    → SaysNext t h new m
    → IsOneFrame frame m → IsOpenAt t pin (taken ++ frame) new
entry_on t pin taken frame h new m is next one = record {
  bytes = is.bytes;
  entries = is.entries ++ frame;
  h = is.h;
  journal = is.journal;
  says = subst (λ (k : List Entry). Says t is.h (is.entries ++ frame) k) (sym next.2)
      (says_next is.entries frame h next.0 m is.says one next.1);
  some = omega (arith, frame_len frame one.0 (length frame) one.1, length-append is.entries frame);
  parts = ap (λ (b : List ℕ). b ++ frame) is.parts ∙ append_assoc is.bytes is.entries frame;
}

seal_on : (t : House) (pin taken frame : List ℕ) (h : List Entry) (m : Message) → Reaches t pin taken h
    → IsSeal t taken h m
    → IsOneFrame frame m → IsJournal t pin (taken ++ frame) h
seal_on t pin taken frame h m is seal one =
    subst (λ (b : List ℕ). IsJournal t pin (b ++ frame) h) (sym is.parts)
    (group_more is.bytes is.entries frame is.h h m is.journal is.says one
    (subst (λ (b : List ℕ). IsSeal t b h m) is.parts seal))

-- what was taken, with one message more
pub takes_on : (t : House) (pin taken frame : List ℕ) (old new : Stand) (h more : List Entry) (m : Message)
    → Takes t pin taken old h m new more
    → IsTaken t pin taken old h → IsOneFrame frame m → IsTaken t pin (taken ++ frame) new more
takes_on t pin taken frame Fresh Sealed h more m takes is one =
    rw (is.0, takes.1, is.1) (head_alone frame m one (takes.0 is.1))
takes_on t pin taken frame Sealed Sealed h more m takes is one =
    rw takes.1 (seal_on t pin taken frame h m (sealed t pin taken h is) takes.0 one)
takes_on t pin taken frame Sealed Unsealed h more m takes is one =
    entry_on t pin taken frame h more m (sealed t pin taken h is) takes one
takes_on t pin taken frame Unsealed Sealed h more m takes is one =
    rw takes.1 (seal_on t pin taken frame h m (unsealed t pin taken h is) takes.0 one)
takes_on t pin taken frame Unsealed Unsealed h more m takes is one =
    entry_on t pin taken frame h more m (unsealed t pin taken h is) takes one
takes_on t pin taken frame _ _ h more m takes is one = absurd takes

-- and where the sealed part of it ends, with the number of the first entry behind that
pub sealed_on : (t : House) (pin taken frame : List ℕ) (old new : Stand) (h more : List Entry) (m : Message)
    (takes : Takes t pin taken old h m new more) (is : IsTaken t pin taken old h) (one : IsOneFrame frame m)
    (at first end next : ℕ) → IsSealedAt t pin taken old h at first
    → (new ≡ Sealed → (end ≡ length (taken ++ frame)) × (next ≡ length h + 1))
    → (new ≢ Sealed → (end ≡ at) × (next ≡ first))
    → IsSealedAt t pin (taken ++ frame) new more end next
unfolding entry_on sealed unsealed
sealed_on t pin taken frame Sealed Unsealed h more m takes is one at first end next was at_seal open_still =
    let now = open_still (λ e. cc) in
    (entry_on t pin taken frame h more m (sealed t pin taken h is) takes one, now.0 ∙ was.0, now.1 ∙ was.1)
sealed_on t pin taken frame Unsealed Unsealed h more m takes is one at first end next was at_seal open_still =
    let now = open_still (λ e. cc) in
    (entry_on t pin taken frame h more m (unsealed t pin taken h was.0) takes one, now.0 ∙ was.1, now.1 ∙ was.2)
sealed_on t pin taken frame _ Sealed h more m takes is one at first end next was at_seal open_still =
    let now = at_seal refl in (now.0, now.1 ∙ ap (λ (k : List Entry). length k + 1) (sym takes.1))
sealed_on t pin taken frame _ _ h more m takes is one at first end next was at_seal open_still = absurd takes

-- ---- errors

pub on_err : {A E : Type 0} {P Q : E → Type 0} (r : Result A E) → IfErr r P → ((e : E) → P e → Q e) → IfErr r Q
on_err (Ok x) is f = tt
on_err (Err e) is f = f e is

-- what stands at the front is what the file says
pub fault_told : (e : RecoverError) → IsFault e → IsTold e
fault_told (error.OtherHouse file journal) is = tt
fault_told error.OtherForm is = tt
fault_told (error.Damaged d) is = tt
fault_told _ is = absurd is

-- an error that is passed on as it is
pub passed_on : {A E : Type 0} {Q : E → Type 0} (r : Result A E) {e : E} → IsErr r × IsErrAnd r (λ x. x ≡ e)
    → ((x : E) → x ≡ e → Q x) → IfErr r Q
passed_on (Ok x) same is = tt
passed_on (Err x) same is = is x same.1

-- ---- what is taken

-- what says the next entry means a call that is accepted
pub adds_of : (t : House) (h new : List Entry) (m : Message) (means : Inbound) → meaning_of t.house m ≡ Ok means
    → SaysNext t h new m → AddsNext t h new means
adds_of t h new m means is next =
    let call = inbound.Call next.0.firm next.1.trade next.0.id next.0.command in
    let same : means ≡ call = one call next.1.meaning in
    rw same (next.0.status, next.1.accepted, next.2)
  where
    one : (other : Inbound) → meaning_of t.house m ≡ Ok other → means ≡ other
    one other e = cc

-- what is taken at the front is the head
pub takes_head : (t : House) (pin taken : List ℕ) (h new : List Entry) (m : Message) (next : Stand)
    → Takes t pin taken Fresh h m next new
    → h ≡ opening_history t → IsHead t pin m
takes_head t pin taken h new m Sealed takes is = takes.0 is
takes_head t pin taken h new m _ takes is = absurd takes

-- what is taken has the number of the next entry, and is understood
pub takes_known : (t : House) (pin taken : List ℕ) (s next : Stand) (h new : List Entry) (m : Message)
    → Takes t pin taken s h m next new
    → (s ≡ Fresh → h ≡ opening_history t) → IsNumbered (length h + 1) m × (means : Inbound)
    × (meaning_of t.house m ≡ Ok means)
takes_known t pin taken Fresh next h new m takes fresh =
    let head = takes_head t pin taken h new m next takes (fresh refl) in
    (rw (fresh refl) head.number, inbound.Logon 0 false, head.meaning)
takes_known t pin taken _ Sealed h new m takes fresh = (takes.0.number, inbound.Heartbeat, takes.0.meaning)
takes_known t pin taken _ Unsealed h new m takes fresh =
    (takes.1.number, inbound.Call takes.0.firm takes.1.trade takes.0.id takes.0.command, takes.1.meaning)
takes_known t pin taken _ Fresh h new m takes fresh = absurd takes

-- ---- one frame

-- a frame at the front of bytes is one
pub front_frame : (s : List ℕ) (m : Message) (len : ℕ) → IsFrontOf s (Whole m len) → (0 < len) × (len ≤ length s)
    × IsOneFrame (take len s) m
front_frame s m len is =
    let some : 21 ≤ len = frame_len s is.0 len is.1 in
    let within : len ≤ length s = is.1.within in
    let size : length (take len s) ≡ len = omega (arith, length-take len s, within) in
    let all : take (length (take len s)) (take len s) ≡ take len s = take_all _ (take len s) (omega arith) in
    let word = subst (IsWord (classes_of is.0)) (sym all) is.1.word in
    let one : IsOneFrame (take len s) m = (
      is.0,
      record { admitted = is.1.admitted; within = omega arith; word = word },
      subst (λ (f : List ℕ). IsGood is.0 f m) (sym all) is.2,
    ) in
    (omega (arith, some), within, one)

pub garbled_len : (s : List ℕ) (len : ℕ) → IsFrontOf s (Garbled len) → (0 < len) × (len ≤ length s)
garbled_len s len is = let some : 21 ≤ len = frame_len s is.0 len is.1 in (omega (arith, some), is.1.within)

-- bytes that begin with this one
pub first_is : (s : List ℕ) (b : ℕ) → 0 < length s → slice_index s 0 ≡ b → (more : List ℕ) × (s ≡ b ∷ more)
first_is [] b some is = absurd (omega (arith, some))
first_is (a ∷ s) b some is = (s, ap (λ (x : ℕ). x ∷ s) is)

pub fresh_opening : (t : House) (pin taken : List ℕ) (s : Stand) (h : List Entry) → IsTaken t pin taken s h → s ≡ Fresh
    → h ≡ opening_history t
fresh_opening t pin taken Fresh h is fresh = is.1
fresh_opening t pin taken _ h is fresh = cc

-- a frame was taken, whose message was looked at by a replay that stands so
pub replays_on : {t : House} {pin taken : List ℕ} (frame : List ℕ) {m fields : Message} {old new : Replay} {s : Stand}
    {before after : BookView} → Replays t pin taken old before → m ≡ fields → s ≡ old.stand
    → Takes before.house pin taken s before.history m new.stand after.history → after.house ≡ before.house
    → IsOneFrame frame fields
    → (new.stand ≡ Sealed → (new.sealed ≡ length (taken ++ frame)) × (new.first ≡ length before.history + 1))
    → (new.stand ≢ Sealed → (new.sealed ≡ old.sealed) × (new.first ≡ old.first))
    → Holds512 new.hasher (taken ++ frame)
    → Replays t pin (taken ++ frame) new after
replays_on {t} {pin} {taken} frame {fields = fields} {old = old} {new = new} {before = before} {after = after} is
    same_fields same takes house one at_seal open_still hashed =
    let step : Takes t pin taken old.stand before.history fields new.stand after.history =
    rw (← is.house, ← same_fields, ← same) takes in
    record {
      house = house ∙ is.house;
      stands = takes_on t pin taken frame old.stand new.stand before.history after.history fields step is.stands one;
      sealed = sealed_on t pin taken frame old.stand new.stand before.history after.history fields step is.stands one
          old.sealed old.first new.sealed new.first is.sealed at_seal open_still;
      hashed = hashed;
    }
