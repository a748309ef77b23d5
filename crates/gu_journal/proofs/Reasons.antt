-- Why a file is told to be damaged, or another's.
use Rattle.gu_message.specs.declared.inbound.Inbound.TheVariants as inbound
use Rattle.gu_journal.specs.declared.damage.Cause.TheVariants as cause
use Rattle.gu_journal.specs.declared.damage.RecoverError.TheVariants as error
use Rattle.gu_journal.proofs.{Going.adds_of, Looping.finds_counted, Reading.behind_counted, Vocabulary.{AddsNext, ap}}
use Rattle.gu_journal.proofs.Vocabulary.{append_assoc, arith, begins_stays, BookView, Bool, Cause, counted}
use Rattle.gu_journal.proofs.Vocabulary.{counted_behind, drop, drop_at, end_of, Entry, false, Finds, Fresh, Goes}
use Rattle.gu_journal.proofs.Vocabulary.{HasCause, HasLaterSeal, HasMessage, Held, House, Inbound, inl, inr, IsFront}
use Rattle.gu_journal.proofs.Vocabulary.{IsFrontOf, IsNoLogon, IsNumbered, IsPinned, IsReason, IsSealedAt, IsTaken}
use Rattle.gu_journal.proofs.Vocabulary.{IsTrue, IsUntaken, length, length-append, List, longest_beginning, meaning_of}
use Rattle.gu_journal.proofs.Vocabulary.{Message, nil_from_length, Ok, RecoverError, refl, Replay, Replays, Some, Stand}
use Rattle.gu_journal.proofs.Vocabulary.{subst, sym, Whole, [], ℕ, ◌++◌, ◌+◌, ◌<◌, ◌∙◌, ◌≡◌, ◌≢◌, ◌≤◌, ◌⊎◌}
use Rattle.gu_journal.specs.{Damages.{Blames, IsBadRest, IsRefused, IsUnpinned, lack_of}, Places.{IsAt, NamesCause}}
use Rattle.gu_journal.specs.Recovered.{MeetsReason}

-- ---- why a message isn't taken

module _ (t : House) (pin taken : List ℕ) (h : List Entry) (m : Message) where
  -- the first message has another form, or is pinned to another house file, or to none
  pub unpinned_refused : (s : Stand) (e : RecoverError) → s ≡ Fresh → IsUnpinned pin m e → IsRefused t pin taken s h m e
  unpinned_refused s (error.OtherHouse this other) fresh is = (fresh, is)
  unpinned_refused s error.OtherForm fresh is = (fresh, is)
  unpinned_refused s (error.Damaged d) fresh is =
      rw is.0 (fresh, elim is.1 [ inl none ↦ inl none | inr none ↦ inr (inl none) ])
  unpinned_refused s _ fresh is = tt

  -- it means nothing
  pub meaningless_refused : (s : Stand) (e : RecoverError) → (s ≡ Fresh → IsPinned pin m)
      → IsNumbered (length h + 1) m
      → Blames (lack_of s) ((means : Inbound) → meaning_of t.house m ≡ Ok means → ⊥) e
      → IsRefused t pin taken s h m e
  meaningless_refused Fresh (error.Damaged d) pinned number is =
      let none : IsNoLogon t pin h m =
      record { pinned = pinned refl; number = number; meaning = is.1 (inbound.Logon 0 false) } in
      rw is.0 (refl, inr (inr none))
  meaningless_refused s (error.Damaged d) pinned number is = rw is.0 (record {
    behind = λ e. cc;
    number = number;
    meaning = is.1 inbound.Heartbeat;
    none = λ new says. is.1 (inbound.Call says.0.firm says.1.trade says.0.id says.0.command) says.1.meaning;
  })
  meaningless_refused s (error.OtherHouse this other) pinned number is = absurd is
  meaningless_refused s error.OtherForm pinned number is = absurd is
  meaningless_refused s _ pinned number is = tt

  -- behind the head it is no seal and adds nothing
  pub unadded_refused : (s : Stand) (means : Inbound) (e : RecoverError) → meaning_of t.house m ≡ Ok means → s ≢ Fresh
      → means ≢ inbound.Heartbeat → IsNumbered (length h + 1) m
      → Blames cause.NoEntry ((new : List Entry) → AddsNext t h new means → ⊥) e
      → IsRefused t pin taken s h m e
  unadded_refused s means (error.Damaged d) is behind no_seal number blames = rw blames.0 (record {
    behind = behind;
    number = number;
    meaning = λ seal. no_seal (cc (is, seal));
    none = λ new says. blames.1 new (adds_of t h new m means is says);
  })
  unadded_refused s means (error.OtherHouse this other) is behind no_seal number blames = absurd blames
  unadded_refused s means error.OtherForm is behind no_seal number blames = absurd blames
  unadded_refused s means _ is behind no_seal number blames = tt

-- told of a replay that stands so
pub refused_on : {t : House} {pin taken : List ℕ} {m fields : Message} {old : Replay} {s : Stand} {before : BookView}
    (e : RecoverError) → Replays t pin taken old before → m ≡ fields → s ≡ old.stand
    → IsRefused before.house pin taken s before.history m e → IsRefused t pin taken old.stand before.history fields e
refused_on e is same_fields same refused = rw (← is.house, ← same_fields, ← same) refused

-- ---- what stands at the front, whatever stands behind it

module _ (t : House) (pin taken : List ℕ) (s : Stand) (h : List Entry) (behind : List ℕ) where
  cause_of : (m : Message) (rest : List ℕ) → HasMessage rest m → (c : Cause) → IsUntaken t pin taken s h m c
      → HasCause t pin taken s h rest behind c
  cause_of m rest has cause.NoHead is = (m, has, is)
  cause_of m rest has cause.OtherNumber is = (m, has, is)
  cause_of m rest has cause.NoEntry is = (m, has, is)
  cause_of m rest has cause.OtherDigest is = (m, has, is)
  cause_of m rest has _ is = absurd is

  -- a message that isn't taken
  pub refused_reason : (bytes later : List ℕ) (m : Message) (len : ℕ) → IsFrontOf bytes (Whole m len)
      → (e : RecoverError) → IsRefused t pin taken s h m e → IsReason t pin taken s h (bytes ++ later) behind e
  refused_reason bytes later m len front e is = go e is
    where
      has : HasMessage (bytes ++ later) m
      has = (len, begins_stays bytes later (record { fields = Some m; len = len }) front)

      go : (e : RecoverError) → IsRefused t pin taken s h m e → IsReason t pin taken s h (bytes ++ later) behind e
      go (error.OtherHouse this other) is = (m, has, is.0, is.1)
      go error.OtherForm is = (m, has, is.0, is.1)
      go (error.Damaged d) is = cause_of m (bytes ++ later) has d.cause is
      go _ is = tt

-- ---- what is told of a file

-- while frames are taken
pub goes_told : {is_clean : Bool} {file pin : List ℕ} {start size at entry : ℕ} {t : House} {w : Held} {r : Replay}
    {b : BookView} → Goes is_clean file start size t pin w r b → at ≡ w.at → entry ≡ length b.history + 1
    → (e : RecoverError) → IsAt at entry e → MeetsReason pin w.bytes r b e → NamesCause is_clean file t pin e
goes_told {file = file} {at = at} {t = t} {w = w} {r = r} {b = b} goes place next e is reason told = record {
  taken = goes.taken;
  stand = r.stand;
  h = b.history;
  stands = goes.replays.stands;
  place = rw (next, place, goes.at) at is;
  reason = λ c.
      let read = goes.read c in
      let behind = behind_counted file in (
        w.bytes ++ counted read.0,
        behind.0,
        ap counted read.1 ∙ counted_behind (goes.taken ++ w.bytes) read.0 goes.no_zero
            ∙ append_assoc goes.taken w.bytes (counted read.0),
        behind.1,
        reason t goes.taken (counted read.0) behind.0 goes.replays,
      );
}

-- at the first zero, or where the file ends without one
module _ (t : House) (pin taken rest behind : List ℕ) (s : Stand) (h : List Entry) (at first from size : ℕ)
    (stands : IsTaken t pin taken s h) (sealed : IsSealedAt t pin taken s h at first) (begun : IsFront rest)
    (place : from ≡ length taken + length rest) (all : size ≡ from + length behind) where
  rest_cause : (c : Cause) → ((c ≡ cause.Cut) × (size ≤ from))
      ⊎ (((c ≡ cause.NoBeginning) × (from < size) × (s ≡ Fresh) × (longest_beginning < size))
      ⊎ ((c ≡ cause.LaterGroup) × (from < size) × (s ≡ Fresh → size ≤ longest_beginning)
      × HasLaterSeal s first (rest ++ behind)))
      → HasCause t pin taken s h rest behind c
  rest_cause c (inl is) = rw is.0 (begun, nil_from_length behind (omega (arith, is.1, all)))
  rest_cause c (inr (inl is)) =
      let none : taken ≡ [] = (subst (λ (x : Stand). IsTaken t pin taken x h) is.2 stands).0 in
      rw is.0 (begun, omega (arith, is.1, all), is.2, omega (arith, is.3, all, place, ap length none))
  rest_cause c (inr (inr is)) =
      let short : s ≡ Fresh → length rest + length behind ≤ longest_beginning =
      λ fresh. omega (arith, is.2 fresh, all, place) in
      rw is.0 (begun, omega (arith, is.1, all), short, (first, (at, sealed), is.3))

  rest_reason : (e : RecoverError) → IsBadRest s first from size (rest ++ behind) e
      → IsReason t pin taken s h rest behind e
  rest_reason (error.Damaged d) bad = rest_cause d.cause bad
  rest_reason (error.OtherHouse this other) bad = absurd bad
  rest_reason error.OtherForm bad = absurd bad
  rest_reason _ bad = tt

pub finds_told : {was is : Bool} {file seen pin : List ℕ} {start size : ℕ} {t : House} {w : Held} {r : Replay}
    {b : BookView} {at entry : ℕ} (f : Finds was file start size t pin w r b) → (IsTrue is → IsTrue was)
    → (IsTrue was → start ≡ length file) → at ≡ w.at → entry ≡ length b.history + 1 → seen ≡ file
    → (e : RecoverError) → IsAt at entry e
    → (IsTrue is → IsBadRest r.stand r.first (end_of w) start (drop at seen) e) → NamesCause is file t pin e
finds_told {file = file} {seen = seen} {pin = pin} {start = start} {t = t} {w = w} {r = r} {b = b} {at = at}
    f falls all place next same e there bad told =
    let goes = f.goes in
    record {
      taken = goes.taken;
      stand = r.stand;
      h = b.history;
      stands = goes.replays.stands;
      place = rw (next, place, goes.at) at there;
      reason = λ c.
          let counts = finds_counted f all (falls c) in
          let behind = behind_counted file in
          let from : end_of w ≡ length (counted file) =
          omega (arith, ap length counts, goes.at, length-append {A = ℕ}) in
          let left : drop at seen ≡ w.bytes ++ behind.0 =
          ap (drop at) (same ∙ behind.1 ∙ rw (counts, append_assoc) refl)
          ∙ drop_at goes.taken (w.bytes ++ behind.0) at (sym (place ∙ goes.at)) in (
            w.bytes,
            behind.0,
            counts,
            behind.1,
            rest_reason t pin goes.taken w.bytes behind.0 r.stand b.history r.sealed r.first (end_of w) start
                goes.replays.stands goes.replays.sealed f.begun
                (omega (arith, from, ap length counts, length-append goes.taken w.bytes))
                (omega (arith, all (falls c), from, ap length behind.1, length-append (counted file) behind.0))
                e (rw left at (bad c)),
          );
    }
