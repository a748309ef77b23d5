-- Of what is told of a file that isn't what a crash leaves of a journal.
use Rattle.gu_message.specs.declared.inbound.Inbound.TheVariants as inbound
use Rattle.gu_journal.specs.declared.damage.Cause.TheVariants as cause
use Rattle.gu_journal.specs.declared.damage.RecoverError.TheVariants as error
use Rattle.gu_journal.proofs.{Going.{fresh_opening, takes_head, takes_known}, Leading.{left_taken, LeftOf, longest}}
use Rattle.gu_journal.proofs.{Leading.{NestsIn, no_broken, no_garbled, step_on}, Vocabulary.{ap, append-nil, arith}}
use Rattle.gu_journal.proofs.Vocabulary.{Bool, Cause, counted, Entry, Fresh, HasCause, HasMessage, House, inl, inr}
use Rattle.gu_journal.proofs.Vocabulary.{IsFault, IsFront, IsHead, IsNoLogon, IsPart, IsReason, IsTaken, IsTrue}
use Rattle.gu_journal.proofs.Vocabulary.{LacksDigest, LacksForm, length, length-append, List, meaning_of, Message, Ok}
use Rattle.gu_journal.proofs.Vocabulary.{opening_history, RecoverError, refl, SaysNext, Sealed, Stand, subst, sym}
use Rattle.gu_journal.proofs.Vocabulary.{Takes, Unsealed, [], ℕ, ◌++◌, ◌∙◌, ◌≡◌, ◌≢◌, ◌⊎◌}
use Rattle.gu_journal.specs.{Damages.{HasOtherForm, IsNoEntry, IsOtherSeal}, Leading.HasNoFront, Places.IsToldOf}

no_head : (t : House) (pin : List ℕ) (h : List Entry) (m : Message)
    → (LacksForm m ⊎ (LacksDigest pin m ⊎ IsNoLogon t pin h m)) → IsHead t pin m → ⊥
no_head t pin h m (inl none) head = cc (none, head.version)
no_head t pin h m (inr (inl none)) head = none.this head.digest
no_head t pin h m (inr (inr none)) head = none.meaning head.meaning

no_other_form : (t : House) (pin : List ℕ) (m : Message) → HasOtherForm m → IsHead t pin m → ⊥
no_other_form t pin m other head = other.2 (cc (other.1, head.version))

no_entry : (t : House) (pin taken : List ℕ) (s next : Stand) (h new : List Entry) (m : Message) → IsNoEntry t s h m
    → Takes t pin taken s h m next new → ⊥
no_entry t pin taken Fresh next h new m none takes = none.behind refl
no_entry t pin taken _ Sealed h new m none takes = none.meaning takes.0.meaning
no_entry t pin taken _ Unsealed h new m none takes = none.none new takes
no_entry t pin taken _ _ h new m none takes = takes

no_call : (t : House) (h new : List Entry) (m : Message) → meaning_of t.house m ≡ Ok inbound.Heartbeat
    → SaysNext t h new m → ⊥
no_call t h new m seal next = cc (seal, next.1.meaning)

no_seal : (t : House) (pin taken : List ℕ) (s next : Stand) (h new : List Entry) (m : Message)
    → IsOtherSeal t taken s h m → Takes t pin taken s h m next new → ⊥
no_seal t pin taken Fresh next h new m none takes = none.behind refl
no_seal t pin taken _ Sealed h new m none takes = none.digest takes.0.digest
no_seal t pin taken _ Unsealed h new m none takes = no_call t h new m none.meaning takes
no_seal t pin taken _ _ h new m none takes = takes

-- a journal that goes on to the first zero, or further
module _ (t : House) (pin : List ℕ) (all : List Entry) (journal taken : List ℕ) (s : Stand) (h : List Entry)
    (rest later behind : List ℕ) (l : LeftOf t pin all journal taken s h rest [] later)
    (opening : s ≡ Fresh → h ≡ opening_history t) (some : behind ≡ [] → ⊥) (begun : s ≡ Fresh → IsFront rest → ⊥) where
  -- a message that stands there is taken
  message_taken : (m : Message) → HasMessage rest m → (next : Stand) × (new : List Entry)
      × Takes t pin taken s h m next new
  message_taken m has =
      let one = step_on t pin all taken s h l.left rest later l.leads l.parts m has.0 has.1 in
      (one.next, one.new, one.takes)

  head_taken : (m : Message) → HasMessage rest m → s ≡ Fresh → IsHead t pin m
  head_taken m has fresh =
      let one = message_taken m has in
      takes_head t pin taken h one.1 m one.0
      (subst (λ (x : Stand). Takes t pin taken x h m one.0 one.1) fresh one.2) (opening fresh)

  no_cause : (c : Cause) → HasCause t pin taken s h rest behind c → c ≢ cause.LaterGroup → ⊥
  no_cause cause.Garbled has is = no_garbled t pin all taken s h l.left rest later l.leads l.parts has.0 has.1
  no_cause cause.NoFrame has is = no_broken t pin all taken s h l.left rest later l.leads l.parts has.0 has.1
  no_cause cause.Cut has is = some has.1
  no_cause cause.NoHead has is = no_head t pin h has.0 has.2.1 (head_taken has.0 has.1 has.2.0)
  no_cause cause.OtherNumber has is =
      let one = message_taken has.0 has.1 in
      has.2.1 (takes_known t pin taken s one.0 h one.1 has.0 one.2 opening).0
  no_cause cause.NoEntry has is =
      let one = message_taken has.0 has.1 in no_entry t pin taken s one.0 h one.1 has.0 has.2 one.2
  no_cause cause.OtherDigest has is =
      let one = message_taken has.0 has.1 in no_seal t pin taken s one.0 h one.1 has.0 has.2 one.2
  no_cause cause.LaterGroup has is = is refl
  no_cause cause.NoBeginning has is = begun has.2 has.0

  no_reason : (e : RecoverError) → IsReason t pin taken s h rest behind e → IsFault e → ⊥
  no_reason (error.OtherHouse this other) is fault =
      let head = head_taken is.0 is.1 is.2 in
      is.3.apart (record { version = head.version; digest = head.digest })
  no_reason error.OtherForm is fault = no_other_form t pin is.0 is.3 (head_taken is.0 is.1 is.2)
  no_reason (error.Damaged d) is fault = no_cause d.cause is fault
  no_reason _ is fault = fault

-- the journal isn't shorter than what was taken
goes_on : (t : House) (pin : List ℕ) (all : List Entry) (journal taken rest later : List ℕ) (s : Stand)
    (h : List Entry) (stands : IsTaken t pin taken s h) → journal ++ [] ≡ (taken ++ rest) ++ later
    → NestsIn t pin all journal taken s h stands → ⊥
goes_on t pin all journal taken rest later Fresh h stands is n = n
goes_on t pin all journal taken rest later _ h stands is n =
    absurd (omega (arith, n.1, ap length is, length-append {A = ℕ}))

-- where a journal stands in the file, its head was taken, or its frame is there
no_beginning : (t : House) (pin file taken rest : List ℕ) (h : List Entry) (s : Stand) → IsTaken t pin taken s h
    → IsPart t pin file → counted file ≡ taken ++ rest → s ≡ Fresh → IsFront rest → ⊥
no_beginning t pin file taken rest h s stands part is fresh front =
    let other = part.stands.1 in
    elim (longest t pin other.0 part.stands.0 taken h other.1 rest other.2.0 front (sym other.2.1 ∙ is) Fresh
    (rw fresh at stands)) [
      | inl n ↦ n
      | inr e ↦ cc e.stands
    ]

pub none_in_front : (is_clean : Bool) (file : List ℕ) (t : House) (pin : List ℕ) (e : RecoverError)
    → IsToldOf is_clean file t pin e → IsFault e → IsTrue is_clean → HasNoFront t pin file
none_in_front is_clean file t pin e told fault c part =
    let r = told.reason c in
    let journal = part.bytes in
    let later = part.begins.0 in
    let parts : journal ++ [] ≡ (told.taken ++ r.0) ++ later =
    append-nil journal ∙ part.begins.1 ∙ ap (λ (b : List ℕ). b ++ later) r.2 in
    let none : r.1 ≡ [] → ⊥ = λ none.
    absurd (omega (arith, part.zero, ap length r.3, ap length none, length-append {A = ℕ})) in
    elim (left_taken t pin journal part.h told.taken told.stand told.h told.stands part.journal r.0 [] later parts) [
      | inl n ↦ goes_on t pin part.h journal told.taken r.0 later told.stand told.h told.stands parts n
      | inr l ↦ no_reason t pin part.h journal told.taken told.stand told.h r.0 later r.1 l
          (fresh_opening t pin told.taken told.stand told.h told.stands) none
          (no_beginning t pin file told.taken r.0 told.h told.stand told.stands part r.2) e r.4 fault
    ]
