-- What is left of a journal behind the frames that were taken.
use Rattle.gu_message.specs.declared.inbound.Inbound.TheVariants as inbound
use Rattle.gu_codec.specs.Tags as tag
use Rattle.gu_codec.proofs.FrontOf.{front_alone}
use Rattle.gu_journal.proofs
use proofs.{Going.{adds_of, front_frame, garbled_len}, Vocabulary.{AddsNext, ap, append-nil, append_assoc, arith}}
use proofs.Vocabulary.{begins_stays, BeginsBy, Broken, broken_stays, drop, drop-append-le, drop_at, encode_lower, Entry}
use proofs.Vocabulary.{frame_len, Fresh, Front, Garbled, group_more, head_alone, House, Inbound, inl, inr, IsFront}
use proofs.Vocabulary.{IsFrontOf, IsGroupBehind, IsHead, IsJournal, IsOneFrame, IsSeal, IsTaken, length, length-append}
use proofs.Vocabulary.{List, Message, None, opening_history, Partial, refl, Says, says_next, says_none, SaysNext}
use proofs.Vocabulary.{Sealed, Some, Stand, StillHas, subst, sym, take, take_at, Takes, Unsealed, Whole, [], ℕ, ◌++◌}
use proofs.Vocabulary.{◌<◌, ◌∙◌, ◌∷◌, ◌≡◌, ◌≢◌, ◌≤◌, ◌⊎◌}
use Rattle.gu_message.specs.Finding.{value_of}
use Rattle.std.proofs.lemmas.List.{take-append-le}

-- Behind the bytes that were taken, the others are frames whose messages are taken in turn, up to the
-- head or a seal, behind which all is said.
pub data Leads (t : House) (pin : List ℕ) (all : List Entry) : List ℕ → Stand → List Entry → List ℕ → Type 0 where
  leads_end : (taken : List ℕ) → Leads t pin all taken Sealed all []
  leads_on : (taken frame rest : List ℕ) (s next : Stand) (h new : List Entry) (m : Message)
      → IsOneFrame frame m → Takes t pin taken s h m next new
      → Leads t pin all (taken ++ frame) next new rest → Leads t pin all taken s h (frame ++ rest)

-- ---- histories

-- what begins with a history
pub begins_on : {A : Type 0} (a b c : List A) → ((r : List A) × (b ≡ a ++ r)) → ((r : List A) × (c ≡ b ++ r))
    → (r : List A) × (c ≡ a ++ r)
begins_on {A} a b c one two =
    (one.0 ++ two.0, two.1 ∙ ap (λ (l : List A). l ++ two.0) one.1 ∙ append_assoc a one.0 two.0)

pub says_begins : (t : House) (h : List Entry) (bytes : List ℕ) (new : List Entry) → Says t h bytes new
    → BeginsBy new h
says_begins t h _ _ says_none = ([], sym (append-nil h))
says_begins t h _ _ (says_next bytes frame new e m says one next) =
    begins_on h new (new ++ e ∷ []) (says_begins t h bytes new says) (e ∷ [], refl)

pub frame_some : (frame : List ℕ) (m : Message) → IsOneFrame frame m → 0 < length frame
frame_some frame m one = let some : 21 ≤ length frame = frame_len frame one.0 (length frame) one.1 in omega
    (arith, some)

-- ---- a journal, from its front

-- an entry or a seal behind the head
takes_next : (t : House) (pin taken : List ℕ) (s : Stand) (h new : List Entry) (m : Message) → s ≢ Fresh
    → SaysNext t h new m → Takes t pin taken s h m Unsealed new
takes_next t pin taken Fresh h new m behind next = absurd (behind refl)
takes_next t pin taken _ h new m behind next = next

takes_seal : (t : House) (pin taken : List ℕ) (s : Stand) (h : List Entry) (m : Message) → s ≢ Fresh
    → IsSeal t taken h m → Takes t pin taken s h m Sealed h
takes_seal t pin taken Fresh h m behind seal = absurd (behind refl)
takes_seal t pin taken _ h m behind seal = (seal, refl)

-- what says entries, and a whole journal
says_leads : (t : House) (pin : List ℕ) (all : List Entry) (bytes : List ℕ) (h : List Entry) (entries : List ℕ)
    (new : List Entry)
    → Says t h entries new → (rest : List ℕ)
    → ((s : Stand) → s ≢ Fresh → Leads t pin all (bytes ++ entries) s new rest)
    → Leads t pin all bytes Sealed h (entries ++ rest)
says_leads t pin all bytes h _ _ says_none rest behind = rw append-nil at (behind Sealed (λ e. cc))
says_leads t pin all bytes h _ _ (says_next entries frame new e m says one next) rest behind =
    let more = new ++ e ∷ [] in
    let on : (s : Stand) → s ≢ Fresh → Leads t pin all (bytes ++ entries) s new (frame ++ rest) = λ s some.
    leads_on (bytes ++ entries) frame rest s Unsealed new more m one
    (takes_next t pin (bytes ++ entries) s new more m some (e, next, refl))
    (rw append_assoc (behind Unsealed (λ e. cc))) in
    rw append_assoc (says_leads t pin all bytes h entries new says (frame ++ rest) on)

journal_leads : (t : House) (pin : List ℕ) (all : List Entry) (bytes : List ℕ) (h : List Entry)
    → IsJournal t pin bytes h → (rest : List ℕ)
    → Leads t pin all bytes Sealed h rest
    → Leads t pin all [] Fresh (opening_history t) (bytes ++ rest)
journal_leads t pin all _ _ (head_alone frame m one head) rest behind =
    leads_on [] frame rest Fresh Sealed (opening_history t) (opening_history t) m one ((λ is. head), refl) behind
journal_leads t pin all _ _ (group_more bytes entries frame h new m journal says one seal) rest behind =
    let on : (s : Stand) → s ≢ Fresh → Leads t pin all (bytes ++ entries) s new (frame ++ rest) = λ s some.
    leads_on (bytes ++ entries) frame rest s Sealed new new m one
    (takes_seal t pin (bytes ++ entries) s new m some seal) behind in
    simp append_assoc (journal_leads t pin all bytes h journal (entries ++ (frame ++ rest))
    (says_leads t pin all bytes h entries new says (frame ++ rest) on))

pub from_front : (t : House) (pin bytes : List ℕ) (h : List Entry) → IsJournal t pin bytes h
    → Leads t pin h [] Fresh (opening_history t) bytes
from_front t pin bytes h journal = rw append-nil at (journal_leads t pin h bytes h journal [] (leads_end bytes))

-- ---- what is taken is determined

-- the next entry is determined
same_next : (t : House) (h new other : List Entry) (means : Inbound) → AddsNext t h new means → AddsNext t h other means
    → new ≡ other
same_next t h new other (inbound.Call firm trade id command) a b = cc
same_next t h new other _ a b = absurd a

next_one : (t : House) (h new other : List Entry) (m : Message) → SaysNext t h new m → SaysNext t h other m
    → new ≡ other
next_one t h new other m a b =
    let means = inbound.Call a.0.firm a.1.trade a.0.id a.0.command in
    same_next t h new other means (adds_of t h new m means a.1.meaning a) (adds_of t h other m means a.1.meaning b)

-- a seal is no entry
no_seal_next : (t : House) (taken : List ℕ) (h new : List Entry) (m : Message) → IsSeal t taken h m → SaysNext t h new m
    → ⊥
no_seal_next t taken h new m seal next = cc (seal.meaning, next.1.meaning)

pub takes_one : (t : House) (pin taken : List ℕ) (s next other : Stand) (h new more : List Entry) (m : Message)
    → Takes t pin taken s h m next new
    → Takes t pin taken s h m other more → (next ≡ other) × (new ≡ more)
takes_one t pin taken Fresh Sealed Sealed h new more m a b = (refl, a.1 ∙ sym b.1)
takes_one t pin taken s Sealed Sealed h new more m a b = (refl, a.1 ∙ sym b.1)
takes_one t pin taken Fresh _ _ h new more m a b = absurd search
takes_one t pin taken s Sealed Unsealed h new more m a b = absurd (no_seal_next t taken h more m a.0 b)
takes_one t pin taken s Unsealed Sealed h new more m a b = absurd (no_seal_next t taken h new m b.0 a)
takes_one t pin taken s Unsealed Unsealed h new more m a b = (refl, next_one t h new more m a b)
takes_one t pin taken s _ _ h new more m a b = absurd search

-- ---- one step

-- what stands at the front
frame_front : (frame later : List ℕ) (m : Message) → IsOneFrame frame m
    → IsFrontOf (frame ++ later) (Whole m (length frame))
frame_front frame later m one = begins_stays frame later (record { fields = Some m; len = length frame }) one

pub fronts : (s : List ℕ) (a b : Front) → IsFrontOf s a → IsFrontOf s b → a ≡ b
fronts s a b x y = front_alone s a x ∙ sym (front_alone s b y)

-- ---- the house file of a journal

-- the head stands at the front
headed : (t : House) (pin bytes : List ℕ) (h : List Entry) → IsJournal t pin bytes h → (more : List ℕ)
    → (m : Message) × (len : ℕ) × IsHead t pin m × IsFrontOf (bytes ++ more) (Whole m len)
headed t pin _ _ (head_alone frame m one head) more = (m, length frame, head, frame_front frame more m one)
headed t pin _ _ (group_more bytes entries frame h new m journal says one seal) more =
    let on = headed t pin bytes h journal (entries ++ (frame ++ more)) in
    (on.0, on.1, on.2, simp append_assoc on.3)

-- which says all that a journal has of the house file
repinned : (t : House) (other pin bytes : List ℕ) (h : List Entry) → encode_lower other ≡ encode_lower pin
    → IsJournal t other bytes h → IsJournal t pin bytes h
repinned t other pin _ _ same (head_alone frame m one head) =
    head_alone frame m one (assumption (head.digest ∙ ap Some same))
repinned t other pin _ _ same (group_more bytes entries frame h new m journal says one seal) =
    group_more bytes entries frame h new m (repinned t other pin bytes h same journal) says one seal

-- so of two journals at the front of the same bytes both are of one house file
pub one_pin : (t : House) (other pin journal bytes : List ℕ) (k h : List Entry) → IsJournal t other journal k
    → IsJournal t pin bytes h → (more rest : List ℕ) → journal ++ more ≡ bytes ++ rest → IsJournal t pin journal k
one_pin t other pin journal bytes k h is here more rest whole =
    let one = headed t other journal k is more in
    let two = headed t pin bytes h here rest in
    let same = fronts (bytes ++ rest) (Whole one.0 one.1) (Whole two.0 two.1)
    (subst (λ (b : List ℕ). IsFrontOf b (Whole one.0 one.1)) whole one.3) two.3 in
    let message : one.0 ≡ two.0 = cc in
    let digest : value_of tag.text two.0 ≡ Some (encode_lower other) =
    subst (λ (m : Message). value_of tag.text m ≡ Some (encode_lower other)) message one.2.digest in
    let text : encode_lower other ≡ encode_lower pin = cc (digest, two.2.digest) in
    repinned t other pin journal k text is

-- a frame that is taken next
record Next (t : House) (pin : List ℕ) (all : List Entry) (taken : List ℕ) (s : Stand) (h : List Entry)
    (rest : List ℕ) : Type 0 where
  frame : List ℕ
  later : List ℕ
  m : Message
  next : Stand
  new : List Entry
  parts : rest ≡ frame ++ later
  one : IsOneFrame frame m
  takes : Takes t pin taken s h m next new
  leads : Leads t pin all (taken ++ frame) next new later

-- nothing is left
pub record Ends (all : List Entry) (s : Stand) (h : List Entry) (rest : List ℕ) : Type 0 where
  pub none : rest ≡ []
  pub stands : s ≡ Sealed
  pub said : h ≡ all

-- nothing is left, or a frame
opened : (t : House) (pin : List ℕ) (all : List Entry) (taken : List ℕ) (s : Stand) (h : List Entry) (rest : List ℕ)
    → Leads t pin all taken s h rest → Ends all s h rest ⊎ Next t pin all taken s h rest
opened t pin all _ _ _ _ (leads_end taken) = inl (record { none = refl; stands = refl; said = refl })
opened t pin all _ _ _ _ (leads_on taken frame rest s next h new m one takes leads) =
    inr (record {
      frame = frame;
      later = rest;
      m = m;
      next = next;
      new = new;
      parts = refl;
      one = one;
      takes = takes;
      leads = leads;
    })

-- a frame of so many bytes, which has this message, was taken from the front of these bytes
pub record Stepped (t : House) (pin : List ℕ) (all : List Entry) (taken : List ℕ) (s : Stand) (h : List Entry)
    (m : Message) (len : ℕ) (old bytes later more : List ℕ) : Type 0 where
  pub next : Stand
  pub new : List Entry
  pub rest : List ℕ
  pub takes : Takes t pin taken s h m next new
  pub leads : Leads t pin all (taken ++ take len bytes) next new rest
  pub cut : old ≡ take len bytes ++ rest
  pub left : rest ++ more ≡ drop len bytes ++ later

module _ (t : House) (pin : List ℕ) (all : List Entry) (taken : List ℕ) (s : Stand) (h : List Entry)
    (rest bytes more later : List ℕ) (leads : Leads t pin all taken s h rest) (is : rest ++ more ≡ bytes ++ later) where
  parted : (n : Next t pin all taken s h rest) → n.frame ++ (n.later ++ more) ≡ bytes ++ later
  parted n = rw (n.parts, append_assoc) at is

  -- the frame that is taken next stands there
  frame_there : (n : Next t pin all taken s h rest) → IsFrontOf (bytes ++ later) (Whole n.m (length n.frame))
  frame_there n = rw (parted n) at (frame_front n.frame (n.later ++ more) n.m n.one)

  -- a frame that stands there is the one that is taken next, where anything is left
  pub step : (m : Message) (len : ℕ) → IsFrontOf bytes (Whole m len)
      → Ends all s h rest ⊎ Stepped t pin all taken s h m len rest bytes later more
  step m len front = elim (opened t pin all taken s h rest leads) [
    | inl none ↦ inl none
    | inr n ↦
        let there : IsFrontOf (bytes ++ later) (Whole m len) =
        begins_stays bytes later (record { fields = Some m; len = len }) front in
        let same = fronts (bytes ++ later) (Whole m len) (Whole n.m (length n.frame)) there (frame_there n) in
        let message : m ≡ n.m = cc in
        let size : length n.frame ≡ len = cc in
        let here : n.frame ≡ take len bytes =
        sym (take_at n.frame (n.later ++ more) len size) ∙ ap (take len) (parted n)
        ∙ take-append-le len bytes later front.1.within in
        inr (record {
          next = n.next;
          new = n.new;
          rest = n.later;
          takes = rw message n.takes;
          leads = rw here at n.leads;
          cut = rw here at n.parts;
          left = sym (drop_at n.frame (n.later ++ more) len size) ∙ ap (drop len) (parted n)
              ∙ drop-append-le len bytes later front.1.within;
        })
  ]

-- of a journal that goes on to the end of what is there, or further
module _ (t : House) (pin : List ℕ) (all : List Entry) (taken : List ℕ) (s : Stand) (h : List Entry)
    (rest bytes later : List ℕ) (leads : Leads t pin all taken s h rest) (is : rest ++ [] ≡ bytes ++ later) where
  some_left : rest ≡ [] → 0 < length bytes → ⊥
  some_left none some = absurd (omega (arith, ap length is, ap length none, length-append {A = ℕ}))

  no_other : (x : Front) → IsFrontOf (bytes ++ later) x → 0 < length bytes
      → ((m : Message) (len : ℕ) → x ≡ Whole m len → ⊥) → ⊥
  no_other x there some no_frame = elim (opened t pin all taken s h rest leads) [
    | inl none ↦ some_left none.none some
    | inr n ↦ no_frame n.m (length n.frame) (fronts (bytes ++ later) x (Whole n.m (length n.frame)) there
        (frame_there t pin all taken s h rest bytes [] later leads is n))
  ]

  pub no_garbled : (len : ℕ) → IsFrontOf bytes (Garbled len) → ⊥
  no_garbled len front =
      let size = garbled_len bytes len front in
      no_other (Garbled len) (begins_stays bytes later (record { fields = None; len = len }) front)
      (omega (arith, size.0, size.1)) (λ m n e. cc)

  pub no_broken : (at : ℕ) → IsFrontOf bytes (Broken at) → ⊥
  no_broken at front = no_other (Broken at) (broken_stays bytes later at front) (omega (arith, front.within))
      (λ m n e. cc)

  pub step_on : (m : Message) (len : ℕ) → IsFrontOf bytes (Whole m len)
      → Stepped t pin all taken s h m len rest bytes later []
  step_on m len front = elim (step t pin all taken s h rest bytes [] later leads is m len front) [
    | inl none ↦
        let size = front_frame bytes m len front in absurd (some_left none.none (omega (arith, size.0, size.1)))
    | inr one ↦ one
  ]

-- ---- what is left of a journal behind the bytes that were taken

-- what is left, and these bytes, are what is there, and these
pub record LeftOf (t : House) (pin : List ℕ) (all : List Entry) (journal taken : List ℕ) (s : Stand) (h : List Entry)
    (rest more later : List ℕ) : Type 0 where
  pub left : List ℕ
  pub leads : Leads t pin all taken s h left
  pub whole : journal ≡ taken ++ left
  pub parts : left ++ more ≡ rest ++ later

-- the journal ends there
pub record EndsAt (all : List Entry) (journal taken : List ℕ) (s : Stand) (h : List Entry) : Type 0 where
  pub stands : s ≡ Sealed
  pub whole : journal ≡ taken
  pub said : h ≡ all

-- the journal ends within these bytes, and what they say begins with it
pub record Nested (all : List Entry) (journal bytes : List ℕ) (h : List Entry) : Type 0 where
  pub within : StillHas journal bytes
  pub begins : BeginsBy h all

module _ (t : House) (pin : List ℕ) (all : List Entry) (journal more later : List ℕ) where
  -- where a frame is taken
  left_step : (taken frame rest : List ℕ) (s next : Stand) (h new : List Entry) (m : Message)
      → IsOneFrame frame m → Takes t pin taken s h m next new
      → LeftOf t pin all journal taken s h (frame ++ rest) more later
      → EndsAt all journal taken s h ⊎ LeftOf t pin all journal (taken ++ frame) next new rest more later
  left_step taken frame rest s next h new m one takes l =
      elim (step t pin all taken s h l.left (frame ++ rest) more later l.leads l.parts m (length frame)
      (frame_front frame rest m one)) [
        | inl e ↦ inl (record { stands = e.stands; whole = rw (e.none, append-nil) at l.whole; said = e.said })
        | inr st ↦
            let same = takes_one t pin taken s st.next next h st.new new m st.takes takes in
            let here : take (length frame) (frame ++ rest) ≡ frame = take_at frame rest (length frame) refl in
            let cut : l.left ≡ frame ++ st.rest = rw here at st.cut in
            inr (record {
              left = st.rest;
              leads = rw (here, same.0, same.1) at st.leads;
              whole = rw (append_assoc, ← cut) l.whole;
              parts = rw (drop_at frame rest (length frame) refl) at st.left;
            })
      ]

  -- entry by entry
  record LeftOn (bytes entries : List ℕ) (h : List Entry) (rest : List ℕ) : Type 0 where
    stand : Stand
    behind : stand ≢ Fresh
    unsealed : 0 < length entries → stand ≡ Unsealed
    left_of : LeftOf t pin all journal (bytes ++ entries) stand h rest more later

  -- where it ends behind entries there are none
  no_entries : (bytes entries rest : List ℕ) (h new : List Entry) → Says t h entries new
      → (on : LeftOn bytes entries new rest) → EndsAt all journal (bytes ++ entries) on.stand new
      → EndsAt all journal bytes Sealed h
  no_entries bytes _ rest h _ says_none on e =
      record { stands = refl; whole = rw append-nil at e.whole; said = e.said }
  no_entries bytes _ rest h _ (says_next entries frame new x m says one next) on e =
      let stands = on.unsealed (omega (arith, frame_some frame m one, length-append entries frame)) in
      cc (stands, e.stands)

  left_says : (bytes : List ℕ) (h : List Entry) (entries : List ℕ) (new : List Entry) → Says t h entries new
      → (rest : List ℕ) → LeftOf t pin all journal bytes Sealed h (entries ++ rest) more later
      → EndsAt all journal bytes Sealed h ⊎ LeftOn bytes entries new rest
  left_says bytes h _ _ says_none rest l = inr (record {
    stand = Sealed;
    behind = λ e. cc;
    unsealed = λ some. absurd (omega (arith, some));
    left_of = rw append-nil l;
  })
  left_says bytes h _ _ (says_next entries frame new e m says one next) rest l =
      elim (left_says bytes h entries new says (frame ++ rest) (rw append_assoc at l)) [
        | inl ends ↦ inl ends
        | inr before ↦
            let takes = takes_next t pin (bytes ++ entries) before.stand new (new ++ e ∷ []) m before.behind
            (e, next, refl) in
            elim (left_step (bytes ++ entries) frame rest before.stand Unsealed new (new ++ e ∷ []) m one takes
            before.left_of) [
              | inl ends ↦ inl (no_entries bytes entries (frame ++ rest) h new says before ends)
              | inr on ↦ inr (record {
                stand = Unsealed;
                behind = λ e. cc;
                unsealed = λ some. refl;
                left_of = rw append_assoc at on;
              })
            ]
      ]

  -- a group behind a journal
  left_group : (bytes entries frame : List ℕ) (h new : List Entry) (m : Message) → Says t h entries new
      → IsOneFrame frame m → IsSeal t (bytes ++ entries) new m → (rest : List ℕ)
      → LeftOf t pin all journal bytes Sealed h (entries ++ (frame ++ rest)) more later
      → EndsAt all journal bytes Sealed h
      ⊎ LeftOf t pin all journal ((bytes ++ entries) ++ frame) Sealed new rest more later
  left_group bytes entries frame h new m says one seal rest l =
      elim (left_says bytes h entries new says (frame ++ rest) l) [
        | inl ends ↦ inl ends
        | inr on ↦
            elim (left_step (bytes ++ entries) frame rest on.stand Sealed new new m one
            (takes_seal t pin (bytes ++ entries) on.stand new m on.behind seal) on.left_of) [
              | inl ends ↦ inl (no_entries bytes entries (frame ++ rest) h new says on ends)
              | inr behind ↦ inr behind
            ]
      ]

  -- a journal that ends where bytes do that say a history
  nested_at : (bytes : List ℕ) (h : List Entry) → EndsAt all journal bytes Sealed h → Nested all journal bytes h
  nested_at bytes h e = record {
    within = ([], sym e.whole ∙ sym (append-nil journal));
    begins = ([], e.said ∙ sym (append-nil all));
  }

  -- and a group more
  nested_on : (bytes entries frame : List ℕ) (h new : List Entry) → Says t h entries new
      → Nested all journal bytes h → Nested all journal ((bytes ++ entries) ++ frame) new
  nested_on bytes entries frame h new says n = record {
    within = (n.within.0 ++ (entries ++ frame), rw (append_assoc, n.within.1, append_assoc) refl);
    begins = begins_on all h new n.begins (says_begins t h entries new says);
  }

  -- the whole journal: the other one ends before it does, or goes on
  pub left_journal : (bytes : List ℕ) (h : List Entry) → IsJournal t pin bytes h → (rest : List ℕ)
      → LeftOf t pin all journal [] Fresh (opening_history t) (bytes ++ rest) more later
      → (Nested all journal bytes h × (length journal < length bytes))
      ⊎ LeftOf t pin all journal bytes Sealed h rest more later
  left_journal _ _ (head_alone frame m one head) rest l =
      elim (left_step [] frame rest Fresh Sealed (opening_history t) (opening_history t) m one
      ((λ is. head), refl) l) [
        | inl ends ↦ cc ends.stands
        | inr on ↦ inr on
      ]
  left_journal _ _ (group_more bytes entries frame h new m is says one seal) rest l =
      let size : length bytes < length ((bytes ++ entries) ++ frame) =
      omega (arith, frame_some frame m one, length-append {A = ℕ}) in
      elim (left_journal bytes h is (entries ++ (frame ++ rest)) (simp append_assoc at l)) [
        | inl n ↦ inl (nested_on bytes entries frame h new says n.0, omega (arith, n.1, size))
        | inr before ↦ elim (left_group bytes entries frame h new m says one seal rest before) [
          | inl ends ↦
              let within = nested_on bytes entries frame h new says (nested_at bytes h ends) in
              inl (within, omega (arith, ap length ends.whole))
          | inr on ↦ inr on
        ]
      ]

-- of a journal that stands there from the front on
first_left : (t : House) (pin journal : List ℕ) (all : List Entry) (there more later : List ℕ)
    → IsJournal t pin journal all → journal ++ more ≡ there ++ later
    → LeftOf t pin all journal [] Fresh (opening_history t) there more later
first_left t pin journal all there more later is parts =
    record { left = journal; leads = from_front t pin journal all is; whole = refl; parts = parts }

-- the sealed part of the bytes that were taken has the other journal, which is shorter than they are
abbrev pub NestsIn : (t : House) (pin : List ℕ) (all : List Entry) (journal taken : List ℕ) (s : Stand)
    (h : List Entry) → IsTaken t pin taken s h → Type 0
NestsIn t pin all journal taken Fresh h stands = ⊥
NestsIn t pin all journal taken Sealed h stands =
    Nested all journal taken h × (length journal < length taken)
NestsIn t pin all journal taken Unsealed h stands =
    Nested all journal stands.bytes stands.h × (length journal < length taken)

pub left_taken : (t : House) (pin journal : List ℕ) (all : List Entry) (taken : List ℕ) (s : Stand) (h : List Entry)
    → (stands : IsTaken t pin taken s h) → IsJournal t pin journal all → (rest more later : List ℕ)
    → journal ++ more ≡ (taken ++ rest) ++ later
    → NestsIn t pin all journal taken s h stands ⊎ LeftOf t pin all journal taken s h rest more later
left_taken t pin journal all taken Fresh h stands is rest more later parts =
    let l = first_left t pin journal all rest more later is
    (parts ∙ ap (λ (b : List ℕ). (b ++ rest) ++ later) stands.0) in
    inr (rw (stands.1, stands.0) l)
left_taken t pin journal all taken Sealed h stands is rest more later parts =
    left_journal t pin all journal more later taken h stands rest
    (first_left t pin journal all (taken ++ rest) more later is parts)
left_taken t pin journal all taken Unsealed h stands is rest more later parts =
    let front : taken ++ rest ≡ stands.bytes ++ (stands.entries ++ rest) =
    ap (λ (b : List ℕ). b ++ rest) stands.parts ∙ append_assoc stands.bytes stands.entries rest in
    let size : length stands.bytes < length taken =
    omega (arith, ap length stands.parts, stands.some, length-append stands.bytes stands.entries) in
    elim (left_journal t pin all journal more later stands.bytes stands.h stands.journal (stands.entries ++ rest)
    (first_left t pin journal all (stands.bytes ++ (stands.entries ++ rest)) more later is
    (parts ∙ ap (λ (b : List ℕ). b ++ later) front))) [
      | inl n ↦ inl (n.0, omega (arith, n.1, size))
      | inr before ↦ elim (left_says t pin all journal more later stands.bytes stands.h stands.entries h
          stands.says rest
          before) [
            | inl ends ↦
                let within = nested_at t pin all journal more later stands.bytes stands.h ends in
                inl (within, omega (arith, ap length ends.whole))
            | inr on ↦ inr (rw (stands.parts, ← on.unsealed stands.some) on.left_of)
          ]
    ]

-- ---- which journals stand there

-- A journal at the front of bytes that were taken, behind which no whole frame stands, ends within
-- what they have sealed.
pub longest : (t : House) (pin journal : List ℕ) (all : List Entry) (taken : List ℕ) (h : List Entry)
    → IsJournal t pin journal all → (rest more : List ℕ) → IsFront rest → journal ++ more ≡ taken ++ rest
    → (s : Stand) → (stands : IsTaken t pin taken s h)
    → NestsIn t pin all journal taken s h stands ⊎ EndsAt all journal taken s h
longest t pin journal all taken h is rest more begun parts s stands =
    elim (left_taken t pin journal all taken s h stands is rest more [] (parts ∙ sym (append-nil (taken ++ rest)))) [
      | inl n ↦ inl n
      | inr l ↦ elim (opened t pin all taken s h l.left l.leads) [
        | inl e ↦ inr (record { stands = e.stands; whole = rw (e.none, append-nil) at l.whole; said = e.said })
        | inr n ↦
            let there = frame_there t pin all taken s h l.left rest more [] l.leads l.parts n in
            let begins : IsFrontOf (rest ++ []) Partial = rw append-nil begun in
            cc (fronts (rest ++ []) (Whole n.m (length n.frame)) Partial there begins)
      ]
    ]

-- A journal at the front of one that has a group more than another is all of it, or ends within that.
pub all_or_before : (t : House) (pin journal : List ℕ) (all : List Entry) (bytes group : List ℕ) (h new : List Entry)
    → IsJournal t pin journal all → IsJournal t pin bytes h → IsGroupBehind t bytes h group new → (more : List ℕ)
    → journal ++ more ≡ bytes ++ group
    → Nested all journal bytes h ⊎ EndsAt all journal (bytes ++ group) Sealed new
all_or_before t pin journal all bytes group h new is before g more parts =
    let whole : (bytes ++ g.entries) ++ g.frame ≡ bytes ++ group =
    append_assoc bytes g.entries g.frame ∙ ap (λ (b : List ℕ). bytes ++ b) (sym g.parts) in
    let there : group ≡ g.entries ++ (g.frame ++ []) =
    g.parts ∙ ap (λ (b : List ℕ). g.entries ++ b) (sym (append-nil g.frame)) in
    elim (left_journal t pin all journal more [] bytes h before group
    (first_left t pin journal all (bytes ++ group) more [] is (parts ∙ sym (append-nil (bytes ++ group))))) [
      | inl n ↦ inl n.0
      | inr l ↦ elim (left_group t pin all journal more [] bytes g.entries g.frame h new g.m g.says g.one g.seal []
          (subst (λ (r : List ℕ). LeftOf t pin all journal bytes Sealed h r more []) there l)) [
            | inl ends ↦ inl (nested_at t pin all journal more [] bytes h ends)
            | inr on ↦ elim (opened t pin all ((bytes ++ g.entries) ++ g.frame) Sealed new on.left on.leads) [
              | inl e ↦
                  inr (record { stands = refl; whole = rw (e.none, append-nil, whole) at on.whole; said = e.said })
              | inr n ↦ absurd (omega
                  (arith, frame_some n.frame n.m n.one, ap length n.parts, ap length on.parts, length-append {A = ℕ}))
            ]
          ]
    ]
