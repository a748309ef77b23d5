-- What stands behind what counts is looked at, byte by byte.
use Rattle.gu_codec.proofs.Uniqueness.{frame_parts, one_front}
use Rattle.gu_journal.proofs.{Looping.reads_on, Vocabulary.{Adds, ap, append_assoc, arith, at_from_reads, begins_stays}}
use Rattle.gu_journal.proofs.Vocabulary.{Bool, cases_lt, cond, drop, drop-append-le, drop-drop, drop_at, end_of, eqb}
use Rattle.gu_journal.proofs.Vocabulary.{false, frame_len, Front, HasLaterSeal, HasMessage, Held, inl, inr, IsFrontOf}
use Rattle.gu_journal.proofs.Vocabulary.{IsTrue, length, length-append, length-drop, List, Message, nil_from_length}
use Rattle.gu_journal.proofs.Vocabulary.{not, OnlyReads, opening, position_or_len, refl, Some, Stand, strange_len, suc}
use Rattle.gu_journal.proofs.Vocabulary.{sym, take, take-append-drop, true, Whole, zero, [], ℕ, ◌++◌, ◌+◌, ◌-◌, ◌<◌}
use Rattle.gu_journal.proofs.Vocabulary.{◌∙◌, ◌∷◌, ◌≡◌, ◌≤◌}
use Rattle.gu_journal.specs.Damages.{IsLaterSeal}

-- what is held stands there in the file
abbrev pub IsThere : List ℕ → Held → Type 0
IsThere file w = (more : List ℕ) × (drop w.at file ≡ w.bytes ++ more)

-- a window of which so many bytes were passed ends where it did, and has fewer bytes
pub passed_end : (w new : Held) (n : ℕ) → n ≤ length w.bytes → new ≡ record { at = w.at + n; bytes = drop n w.bytes }
    → (end_of new ≡ end_of w) × (length new.bytes + n ≡ length w.bytes) × (new.at ≡ w.at + n)
passed_end w new n fits is =
    let at = ap (λ (v : Held). v.at) is in
    let len = ap (λ (v : Held). length v.bytes) is in (
      omega (arith, at, len, fits, length-drop n w.bytes),
      omega (arith, len, fits, length-drop n w.bytes),
      at,
    )

-- one of which a piece more was read ends behind that
pub filled_end : (now : Bool) (file : List ℕ) (size : ℕ) (w new : Held) → Adds now file size w new
    → (end_of w < end_of new) × (end_of new ≤ size) × (length new.bytes + end_of w ≡ length w.bytes + end_of new)
    × (new.at ≡ w.at)
filled_end now file size w new a =
    let at = ap (λ (v : Held). v.at) a.added in
    let len = ap (λ (v : Held). length v.bytes) a.added in
    let more = length-append w.bytes a.piece in (
      omega (arith, at, len, more, a.some),
      omega (arith, at, len, more, a.within),
      omega (arith, at, len, more),
      at,
    )

module _ (file : List ℕ) (w : Held) where
  -- bytes are passed
  pub there_passed : (n : ℕ) → n ≤ length w.bytes → IsThere file w
      → IsThere file (record { at = w.at + n; bytes = drop n w.bytes })
  there_passed n fits is = (
    is.0,
    sym (drop-drop n w.at file) ∙ ap (drop n) is.1 ∙ drop-append-le n w.bytes is.0 fits,
  )

  -- a piece more is read
  pub there_filled : (now : Bool) (size : ℕ) (new : Held) → Adds now file size w new → IsTrue now → IsThere file w
      → IsThere file new
  there_filled now size new a c is =
      let holds = a.there c in
      let rest = drop (end_of w + length a.piece) file in
      let found : drop (end_of w) file ≡ a.piece ++ rest =
      at_from_reads 0 file a.piece (end_of w) holds.within holds.each in
      let behind : is.0 ≡ drop (end_of w) file =
      sym (drop_at w.bytes is.0 (length w.bytes) refl) ∙ ap (drop (length w.bytes)) (sym is.1)
      ∙ drop-drop (length w.bytes) w.at file in
      rw a.added (
        rest,
        rw (append_assoc, ← found, ← behind) is.1,
      )

  -- a seal that is looked for stands there
  pub later_found : (from : ℕ) (stand : Stand) (first : ℕ) (m : Message) (n : ℕ) → from ≤ w.at → IsThere file w
      → IsFrontOf w.bytes (Whole m n) → IsLaterSeal stand first m → HasLaterSeal stand first (drop from file)
  later_found from stand first m n behind is front seal =
      let k = w.at - from in
      let place : from + k ≡ w.at = omega (arith, behind) in
      let later : drop k (drop from file) ≡ w.bytes ++ is.0 =
      drop-drop k from file ∙ ap (λ (x : ℕ). drop x file) place ∙ is.1 in (
        take k (drop from file),
        w.bytes ++ is.0,
        m,
        sym (take-append-drop k (drop from file)) ∙ ap (λ (l : List ℕ). take k (drop from file) ++ l) later,
        (n, begins_stays w.bytes is.0 (record { fields = Some m; len = n }) front),
        seal,
      )

-- ---- where no seal that is looked for begins

-- at no place from one on, before another
abbrev pub NoneFrom : Stand → ℕ → List ℕ → ℕ → ℕ → Type 0
NoneFrom stand first file from to =
    (n : ℕ) → from ≤ n → n < to → (m : Message) → HasMessage (drop n file) m → IsLaterSeal stand first m → ⊥

-- not at the front of the bytes
abbrev pub NoneHere : Stand → ℕ → List ℕ → Type 0
NoneHere stand first bytes = (m : Message) → HasMessage bytes m → IsLaterSeal stand first m → ⊥

-- where something else is there
pub other_front : (stand : Stand) (first : ℕ) (bytes : List ℕ) (x : Front) → IsFrontOf bytes x
    → ((m : Message) (len : ℕ) → x ≡ Whole m len → IsLaterSeal stand first m → ⊥) → NoneHere stand first bytes
other_front stand first bytes x there other m is seal =
    other m is.0 (one_front bytes x (Whole m is.0) there is.1) seal

module _ (stand : Stand) (first : ℕ) (bytes more : List ℕ) where
  -- another message
  pub no_message : (m : Message) (len : ℕ) → IsFrontOf bytes (Whole m len) → (IsLaterSeal stand first m → ⊥)
      → NoneHere stand first (bytes ++ more)
  no_message m len front other =
      other_front stand first (bytes ++ more) (Whole m len)
      (begins_stays bytes more (record { fields = Some m; len = len }) front)
      (λ n size same seal. let is : n ≡ m = cc in other (rw is at seal))

-- a message begins with `8`
message_first : (bytes : List ℕ) (m : Message) → HasMessage bytes m → (tail : List ℕ) × (bytes ≡ 56 ∷ tail)
message_first bytes m is =
    let len = is.0 in
    let frame = is.1 in
    let parts = frame_parts frame.0 (take len bytes) frame.1.word in (
      (drop 1 opening ++ (frame.0 ++ 1 ∷ parts.0)) ++ drop len bytes,
      sym (take-append-drop len bytes) ∙ ap (λ (l : List ℕ). l ++ drop len bytes) parts.1,
    )

message_some : (bytes : List ℕ) (m : Message) → HasMessage bytes m → 0 < length bytes
message_some bytes m is =
    let frame = is.1 in
    let some : 21 ≤ is.0 = frame_len bytes frame.0 is.0 frame.1 in
    omega (arith, some, frame.1.within)

less_on : (b : Bool) (i n : ℕ) → suc i < cond (not b) (1 + n) 0 → i < n
less_on true i n less = absurd (omega (arith, less))
less_on false i n less = omega (arith, less)

-- before the next one none begins
before_frame : (bytes more tail : List ℕ) (i : ℕ) → i < position_or_len (λ b. eqb b 56) bytes
    → drop i (bytes ++ more) ≡ 56 ∷ tail → ⊥
before_frame [] more tail i less is = absurd (omega (arith, less))
before_frame (b ∷ bytes) more tail zero less is =
    let first : b ≡ 56 = cc in
    let none : 0 < 0 = rw first at less in
    absurd (omega arith)
before_frame (b ∷ bytes) more tail (suc i) less is =
    before_frame bytes more tail i (less_on (eqb b 56) i (position_or_len (λ b. eqb b 56) bytes) less) is

none_within : (stand : Stand) (first : ℕ) (bytes more : List ℕ) (i : ℕ) → i < strange_len bytes
    → NoneHere stand first (bytes ++ more) → NoneHere stand first (drop i (bytes ++ more))
none_within stand first bytes more zero less here m is seal = here m is seal
none_within stand first [] more (suc i) less here m is seal = absurd (omega (arith, less))
none_within stand first (b ∷ bytes) more (suc i) less here m is seal =
    let opens = message_first (drop i (bytes ++ more)) m is in
    before_frame bytes more opens.0 i (omega (arith, less)) opens.1

module _ (stand : Stand) (first : ℕ) (file : List ℕ) (w : Held) (from : ℕ) (there : IsThere file w) where
  -- the bytes up to the next `8` are passed
  pub none_passed : NoneFrom stand first file from w.at → NoneHere stand first (w.bytes ++ there.0)
      → NoneFrom stand first file from (w.at + strange_len w.bytes)
  none_passed none here n low high m is seal = elim (cases_lt n w.at) [
    | inl before ↦ none n low before m is seal
    | inr behind ↦
        let i = n - w.at in
        let place : w.at + i ≡ n = omega (arith, behind) in
        let same : drop n file ≡ drop i (w.bytes ++ there.0) =
        ap (λ (x : ℕ). drop x file) (sym place) ∙ sym (drop-drop i w.at file) ∙ ap (drop i) there.1 in
        none_within stand first w.bytes there.0 i (omega (arith, high, place)) here m (rw same at is) seal
  ]

  -- all of the file is held
  pub nothing_more : end_of w ≡ length file → there.0 ≡ []
  nothing_more all =
      nil_from_length there.0 (omega (arith, ap length there.1, length-drop w.at file, length-append w.bytes there.0))

-- so none stands there, once all was passed
pub none_stands : (stand : Stand) (first : ℕ) (file : List ℕ) (from to : ℕ) → NoneFrom stand first file from to
    → length file ≤ to → HasLaterSeal stand first (drop from file) → ⊥
none_stands stand first file from to none all has =
    let n = from + length has.0 in
    let later : drop n file ≡ has.1 =
    sym (drop-drop (length has.0) from file) ∙ ap (drop (length has.0)) has.3
    ∙ drop_at has.0 has.1 (length has.0) refl in
    let is : HasMessage (drop n file) has.2 = rw later has.4 in
    none n (omega arith) (omega (arith, message_some (drop n file) has.2 is, length-drop n file)) has.2 is has.5

-- While seals are looked for in a file from a place on: what is held stands there, and before it none begins.
pub record Looks {D : Type 0} (seen : D → List ℕ) (may_leave : D → List ℕ → Type 0) (is_usable is_clean : D → Bool)
    (start disk : D) (size from : ℕ) (stand : Stand) (first : ℕ) (w : Held) : Type 0 where
  pub within : end_of w ≤ size
  pub behind : from ≤ w.at
  pub reads : OnlyReads seen may_leave is_usable is_clean start disk
  pub there : IsTrue (is_clean disk) → IsThere (seen start) w
  pub none : IsTrue (is_clean disk) → NoneFrom stand first (seen start) from w.at

-- at first nothing is held
pub looks_first : {D : Type 0} {seen : D → List ℕ} {may_leave : D → List ℕ → Type 0} {is_usable is_clean : D → Bool}
    {start : D} {size : ℕ} {stand : Stand} {first : ℕ} {w : Held}
    → IsTrue (is_usable start) → w.at ≤ size → w.bytes ≡ []
    → Looks seen may_leave is_usable is_clean start start size w.at stand first w
looks_first {seen = seen} {start = start} {w = w} usable within empty = record {
  within = omega (arith, ap length empty);
  behind = omega arith;
  reads = record { same = refl; usable = usable; clean = λ h. h; crash = λ x may. may };
  there = λ clean. (drop w.at (seen start), rw empty refl);
  none = λ clean n low high. absurd (omega arith);
}

module _ {D : Type 0} {seen : D → List ℕ} {may_leave : D → List ℕ → Type 0} {is_usable is_clean : D → Bool}
    {start disk : D} {size from : ℕ} {stand : Stand} {first : ℕ} {w new : Held}
    (l : Looks seen may_leave is_usable is_clean start disk size from stand first w) where
  -- bytes are passed, where no such seal begins
  pub looks_passed : strange_len w.bytes ≤ length w.bytes
      → new ≡ record { at = w.at + strange_len w.bytes; bytes = drop (strange_len w.bytes) w.bytes }
      → ((clean : IsTrue (is_clean disk)) → NoneHere stand first (w.bytes ++ (l.there clean).0))
      → Looks seen may_leave is_usable is_clean start disk size from stand first new
  looks_passed fits passed none =
      let end = passed_end w new (strange_len w.bytes) fits passed in
      record {
        within = omega (arith, end.0, l.within);
        behind = omega (arith, end.2, l.behind);
        reads = l.reads;
        there = λ clean. rw passed (there_passed (seen start) w (strange_len w.bytes) fits (l.there clean));
        none = λ clean.
            rw end.2 (none_passed stand first (seen start) w from (l.there clean) (l.none clean) (none clean));
      }

  -- a piece more is read
  pub looks_filled : {next : D} → OnlyReads seen may_leave is_usable is_clean disk next
      → Adds (is_clean next) (seen disk) size w new
      → Looks seen may_leave is_usable is_clean start next size from stand first new
  looks_filled {next} reads adds =
      let adds : Adds (is_clean next) (seen start) size w new = rw l.reads.same at adds in
      let end = filled_end (is_clean next) (seen start) size w new adds in
      record {
        within = end.1;
        behind = omega (arith, end.3, l.behind);
        reads = reads_on l.reads reads;
        there = λ clean.
            there_filled (seen start) w (is_clean next) size new adds clean (l.there (reads.clean clean));
        none = λ clean. rw end.3 (l.none (reads.clean clean));
      }
