-- Fields with short tags, which are told without a walk over them.
use Rattle.std.proofs.Common.{◌≡◌, ◌≢◌, ℕ, zero, suc, ◌+◌, ◌-◌, ◌*◌, ◌<◌, ◌≤◌, inl, inr, ◌⊎◌, Bool, true, false, eqb}
use Rattle.std.proofs.Common.{ltb, List, [], ◌∷◌, length, get_or, take, drop, Some, refl, sym, ap, subst, ◌∙◌, arith}
use Rattle.std.proofs.Common.{length-drop}
use Rattle.std.specs.Prelude.{◌&&◌, ◌||◌, not}
use Rattle.std.proofs.lemmas.List.{get_or_past, get_or-take, get_or-drop, drop-drop, nil_from_length}
use Rattle.std.proofs.lemmas.Bool.{eqb-true, eq-eqb, lt-ltb, and_parts, cases_lt}
use Rattle.std.proofs.lemmas.List.Sums.{fails_before_first, passes_at_first}
use Rattle.std.specs.List.{position_or_len, before_first}
use Rattle.gu_base.specs.Names.{is_digit}
use Rattle.gu_codec.specs.Fields.{tag_after, is_soh, value_at, field_at, are_fields, is_short_front, short_front}
use Rattle.gu_codec.specs.Fields.{ShortBehind, AllShort}
use Rattle.gu_codec.proofs.FieldSteps.{tag_goes, test_goes, test_ends}

no_soh : (b : ℕ) → not (eqb b 1) ≡ true → b ≢ 1
no_soh b e is = let same : eqb b 1 ≡ true = eq-eqb b 1 is in absurd (cc)

-- the last five bytes, of which the first alone may be a SOH before a field
pub ends_behind : (bytes : List ℕ) → length bytes ≡ 5
    → is_short_front (get_or bytes 1 0) (get_or bytes 2 0) (get_or bytes 3 0) (get_or bytes 4 0) 0 ≡ true
    → get_or bytes 1 0 ≢ 1 → get_or bytes 2 0 ≢ 1 → get_or bytes 3 0 ≢ 1 → ShortBehind bytes 4
ends_behind bytes five front one two three zero lt soh =
    let past : get_or bytes 5 0 ≡ 0 = get_or_past bytes 5 0 (omega arith) in rw past front
ends_behind bytes five front one two three (suc zero) lt soh = absurd (one soh)
ends_behind bytes five front one two three (suc (suc zero)) lt soh = absurd (two soh)
ends_behind bytes five front one two three (suc (suc (suc zero))) lt soh = absurd (three soh)
ends_behind bytes five front one two three (suc (suc (suc (suc k)))) lt soh = absurd (omega arith)

-- ---- pieces

-- the first m bytes of a piece stand at place i of the bytes
abbrev pub IsPiece : List ℕ → List ℕ → ℕ → ℕ → Type 0
IsPiece bytes piece i m = (k : ℕ) → k < m → get_or piece k 0 ≡ get_or bytes (i + k) 0

pub piece_of : (bytes : List ℕ) (i m : ℕ) → IsPiece bytes (take m (drop i bytes)) i m
piece_of bytes i m k lt = get_or-take m (drop i bytes) k 0 lt ∙ get_or-drop i bytes k 0

pub piece_behind : (bytes : List ℕ) (i m : ℕ) → IsPiece bytes (drop i bytes) i m
piece_behind bytes i m k lt = get_or-drop i bytes k 0

front_moved : (bytes piece : List ℕ) (i m at : ℕ) → IsPiece bytes piece i m → at + 5 ≤ m
    → short_front piece at ≡ short_front bytes (i + at)
front_moved bytes piece i m at same le =
    let b : i + (at + 1) ≡ i + at + 1 = omega arith in
    let c : i + (at + 2) ≡ i + at + 2 = omega arith in
    let d : i + (at + 3) ≡ i + at + 3 = omega arith in
    let e : i + (at + 4) ≡ i + at + 4 = omega arith in
    let at-b : get_or piece (at + 1) 0 ≡ get_or bytes (i + at + 1) 0 =
    same (at + 1) (omega arith) ∙ ap (λ (n : ℕ). get_or bytes n 0) b in
    let at-c : get_or piece (at + 2) 0 ≡ get_or bytes (i + at + 2) 0 =
    same (at + 2) (omega arith) ∙ ap (λ (n : ℕ). get_or bytes n 0) c in
    let at-d : get_or piece (at + 3) 0 ≡ get_or bytes (i + at + 3) 0 =
    same (at + 3) (omega arith) ∙ ap (λ (n : ℕ). get_or bytes n 0) d in
    let at-e : get_or piece (at + 4) 0 ≡ get_or bytes (i + at + 4) 0 =
    same (at + 4) (omega arith) ∙ ap (λ (n : ℕ). get_or bytes n 0) e in
    rw (same at (omega arith), at-b, at-c, at-d, at-e) refl

-- what holds before place a and of a piece from before a on holds up to the piece's end
pub behind_joined : (bytes piece : List ℕ) (a i n m : ℕ) → IsPiece bytes piece i m → n + 5 ≤ m → i ≤ a
    → ShortBehind bytes a → ShortBehind piece n → ShortBehind bytes (i + n)
behind_joined bytes piece a i n m same le from before more k lt soh = elim (cases_lt k a) [
  | inl below ↦ before k below soh
  | inr above ↦
      let place : i + (k - i) ≡ k = omega arith in
      let next : i + (k - i + 1) ≡ k + 1 = omega arith in
      let here : get_or piece (k - i) 0 ≡ 1 =
      same (k - i) (omega arith) ∙ ap (λ (n : ℕ). get_or bytes n 0) place ∙ soh in
      ap (short_front bytes) (sym next) ∙ sym (front_moved bytes piece i m (k - i + 1) same (omega arith))
      ∙ more (k - i) (omega arith) here
]

-- the last five bytes end all of them
pub short_to_end : (bytes piece : List ℕ) (a : ℕ) → piece ≡ drop (length bytes - 5) bytes → 5 ≤ length bytes
    → length bytes ≤ a + 5 → short_front bytes 0 ≡ true → ShortBehind bytes a → ShortBehind piece 4
    → get_or piece 4 0 ≡ 1 → AllShort bytes
short_to_end bytes piece a is five near front before more ends =
    let n = length bytes - 5 in
    let same : IsPiece bytes piece n 9 =
    subst (λ (p : List ℕ). IsPiece bytes p n 9) (sym is) (piece_behind bytes n 9) in
    let all = behind_joined bytes piece a n 4 9 same (omega arith) (omega arith) before more in
    let last : n + 4 ≡ length bytes - 1 = omega arith in
    record {
      front = front;
      behind = subst (ShortBehind bytes) last all;
      ends = ap (λ (k : ℕ). get_or bytes k 0) (sym last) ∙ sym (same 4 (omega arith)) ∙ ends;
    }

-- ---- the fields

or_cases : (x y : Bool) → (x || y) ≡ true → (x ≡ true) ⊎ (y ≡ true)
or_cases true y h = inl refl
or_cases false y h = inr h

-- a tag at the front, whose `=` stands at place `at`
pub record HasTag (bytes : List ℕ) : Type 0 where
  pub at : ℕ
  pub tag : ℕ
  pub found : tag_after 0 0 bytes ≡ Some (tag, drop (at + 1) bytes)
  pub equals : get_or bytes at 0 ≡ 61
  pub value : get_or bytes (at + 1) 0 ≢ 1

-- the first byte of a tag
first_digit : (a : ℕ) (bytes : List ℕ) → is_digit a ≡ true → not (eqb a 48) ≡ true
    → tag_after 0 0 (a ∷ bytes) ≡ tag_after 1 (0 * 10 + (a - 48)) bytes
first_digit a bytes digit some = tag_goes 0 0 a bytes (rw (digit, some) refl)

-- a tag of one digit, of two and of three
one_digit : (bytes : List ℕ) → is_digit (get_or bytes 0 0) ≡ true → not (eqb (get_or bytes 0 0) 48) ≡ true
    → (eqb (get_or bytes 1 0) 61 && not (eqb (get_or bytes 2 0) 1)) ≡ true → HasTag bytes
one_digit [] digit some ends = absurd cc
one_digit (a ∷ []) digit some ends = absurd cc
one_digit (a ∷ b ∷ bytes) digit some ends =
    let p = and_parts (eqb b 61) (not (eqb (get_or bytes 0 0) 1)) ends in
    let is : b ≡ 61 = eqb-true b 61 p.0 in
    record {
      at = 1;
      tag = 0 * 10 + (a - 48);
      found = first_digit a (b ∷ bytes) digit some ∙ rw is refl;
      equals = is;
      value = no_soh (get_or bytes 0 0) p.1;
    }

two_digits : (bytes : List ℕ) → is_digit (get_or bytes 0 0) ≡ true → not (eqb (get_or bytes 0 0) 48) ≡ true
    → is_digit (get_or bytes 1 0) ≡ true → (eqb (get_or bytes 2 0) 61 && not (eqb (get_or bytes 3 0) 1)) ≡ true
    → HasTag bytes
two_digits [] digit some more ends = absurd cc
two_digits (a ∷ []) digit some more ends = absurd cc
two_digits (a ∷ b ∷ []) digit some more ends = absurd cc
two_digits (a ∷ b ∷ c ∷ bytes) digit some more ends =
    let p = and_parts (eqb c 61) (not (eqb (get_or bytes 0 0) 1)) ends in
    let is : c ≡ 61 = eqb-true c 61 p.0 in
    record {
      at = 2;
      tag = (0 * 10 + (a - 48)) * 10 + (b - 48);
      found = first_digit a (b ∷ c ∷ bytes) digit some ∙ tag_goes 1 (0 * 10 + (a - 48)) b (c ∷ bytes) (rw more refl)
          ∙ rw is refl;
      equals = is;
      value = no_soh (get_or bytes 0 0) p.1;
    }

three_digits : (bytes : List ℕ) → is_digit (get_or bytes 0 0) ≡ true → not (eqb (get_or bytes 0 0) 48) ≡ true
    → is_digit (get_or bytes 1 0) ≡ true → is_digit (get_or bytes 2 0) ≡ true
    → (eqb (get_or bytes 3 0) 61 && not (eqb (get_or bytes 4 0) 1)) ≡ true → HasTag bytes
three_digits [] digit some more last ends = absurd cc
three_digits (a ∷ []) digit some more last ends = absurd cc
three_digits (a ∷ b ∷ []) digit some more last ends = absurd cc
three_digits (a ∷ b ∷ c ∷ []) digit some more last ends = absurd cc
three_digits (a ∷ b ∷ c ∷ d ∷ bytes) digit some more last ends =
    let p = and_parts (eqb d 61) (not (eqb (get_or bytes 0 0) 1)) ends in
    let is : d ≡ 61 = eqb-true d 61 p.0 in
    record {
      at = 3;
      tag = ((0 * 10 + (a - 48)) * 10 + (b - 48)) * 10 + (c - 48);
      found = first_digit a (b ∷ c ∷ d ∷ bytes) digit some
          ∙ tag_goes 1 (0 * 10 + (a - 48)) b (c ∷ d ∷ bytes) (rw more refl)
          ∙ tag_goes 2 ((0 * 10 + (a - 48)) * 10 + (b - 48)) c (d ∷ bytes) (rw last refl) ∙ rw is refl;
      equals = is;
      value = no_soh (get_or bytes 0 0) p.1;
    }

has_tag : (bytes : List ℕ) → short_front bytes 0 ≡ true → HasTag bytes
has_tag bytes front =
    let a = and_parts _ _ front in
    let b = and_parts _ _ a.1 in
    elim (or_cases _ _ b.1) [
      | inl one ↦ one_digit bytes a.0 b.0 one
      | inr more ↦
          let c = and_parts _ _ more in
          elim (or_cases _ _ c.1) [
            | inl two ↦ two_digits bytes a.0 b.0 c.0 two
            | inr last ↦ let d = and_parts _ _ last in three_digits bytes a.0 b.0 c.0 d.0 d.1
          ]
    ]

-- a value at the front, whose SOH stands at place `at`
pub record HasSoh (bytes : List ℕ) : Type 0 where
  pub at : ℕ
  pub value : List ℕ
  pub found : value_at bytes ≡ Some (value, drop (at + 1) bytes)
  pub inside : at < length bytes
  pub soh : get_or bytes at 0 ≡ 1

-- where it ends
has_soh : (bytes : List ℕ) → 0 < length bytes → get_or bytes 0 0 ≢ 1 → get_or bytes (length bytes - 1) 0 ≡ 1
    → HasSoh bytes
has_soh bytes some first last =
    let n = position_or_len is_soh bytes in
    let inside : n < length bytes = elim (cases_lt n (length bytes)) [
      | inl lt ↦ lt
      | inr le ↦
          let no : eqb (get_or bytes (length bytes - 1) 0) 1 ≡ false =
          fails_before_first is_soh bytes (length bytes - 1) 0 (omega (arith, le)) in
          let yes : eqb (get_or bytes (length bytes - 1) 0) 1 ≡ true = eq-eqb _ 1 last in
          absurd (cc)
    ] in
    let soh : get_or bytes n 0 ≡ 1 = eqb-true _ _ (passes_at_first is_soh bytes 0 inside) in
    let after : 0 < n = elim (cases_lt 0 n) [
      | inl lt ↦ lt
      | inr le ↦
          let zero : n ≡ 0 = omega (arith, le) in absurd (first (ap (λ (k : ℕ). get_or bytes k 0) (sym zero) ∙ soh))
    ] in
    let yes : ltb 0 n ≡ true = lt-ltb 0 n after in
    let so : ltb n (length bytes) ≡ true = lt-ltb n (length bytes) inside in
    record { at = n; value = before_first is_soh bytes; found = rw (yes, so) refl; inside = inside; soh = soh }

-- a field at the front, and all of the same kind behind it
pub record HasShort (bytes : List ℕ) : Type 0 where
  pub tag : ℕ
  pub value : List ℕ
  pub after : ℕ
  pub found : field_at bytes ≡ Some ((tag, value), drop after bytes)
  pub some : 0 < after
  pub inside : after ≤ length bytes
  pub soh : get_or bytes (after - 1) 0 ≡ 1

field_from : (bytes : List ℕ) (tag : ℕ) (rest value after : List ℕ) → tag_after 0 0 bytes ≡ Some (tag, rest)
    → value_at rest ≡ Some (value, after) → field_at bytes ≡ Some ((tag, value), after)
unfolding field_at
field_from bytes tag rest value after e f = rw (e, f) refl

-- a value follows the tag: its `=` isn't the last byte
some_behind : (bytes : List ℕ) → AllShort bytes → (t : HasTag bytes) → t.at + 1 < length bytes
some_behind bytes all t = elim (cases_lt (t.at + 1) (length bytes)) [
  | inl lt ↦ lt
  | inr le ↦ elim (cases_lt t.at (length bytes)) [
    | inl inside ↦
        let here : length bytes - 1 ≡ t.at = omega (arith, le, inside) in
        let soh : get_or bytes t.at 0 ≡ 1 = ap (λ (k : ℕ). get_or bytes k 0) (sym here) ∙ all.ends in
        let equals = t.equals in
        absurd (cc)
    | inr outside ↦
        let past : get_or bytes t.at 0 ≡ 0 = get_or_past bytes t.at 0 outside in let equals = t.equals in absurd (cc)
  ]
]

soh_behind : (bytes : List ℕ) → AllShort bytes → (t : HasTag bytes) → t.at + 1 < length bytes
    → HasSoh (drop (t.at + 1) bytes)
soh_behind bytes all t more =
    let rest = drop (t.at + 1) bytes in
    let size : length rest ≡ length bytes - (t.at + 1) = length-drop (t.at + 1) bytes in
    let here : t.at + 1 + 0 ≡ t.at + 1 = omega arith in
    let place : t.at + 1 + (length rest - 1) ≡ length bytes - 1 = omega (arith, size, more) in
    has_soh rest (omega (arith, size, more))
    (λ e. t.value (ap (λ (k : ℕ). get_or bytes k 0) (sym here) ∙ sym (get_or-drop (t.at + 1) bytes 0 0) ∙ e))
    (get_or-drop (t.at + 1) bytes (length rest - 1) 0 ∙ ap (λ (k : ℕ). get_or bytes k 0) place ∙ all.ends)

has_short : (bytes : List ℕ) (t : HasTag bytes) → t.at + 1 < length bytes → HasSoh (drop (t.at + 1) bytes)
    → HasShort bytes
has_short bytes t more v =
    let rest = drop (t.at + 1) bytes in
    let size : length rest ≡ length bytes - (t.at + 1) = length-drop (t.at + 1) bytes in
    let behind : drop (v.at + 1) rest ≡ drop (t.at + 1 + (v.at + 1)) bytes = drop-drop (v.at + 1) (t.at + 1) bytes in
    let at-soh : t.at + 1 + v.at ≡ t.at + 1 + (v.at + 1) - 1 = omega arith in
    record {
      tag = t.tag;
      value = v.value;
      after = t.at + 1 + (v.at + 1);
      found = subst (λ (r : List ℕ). field_at bytes ≡ Some ((t.tag, v.value), r)) behind
          (field_from bytes t.tag rest v.value _ t.found v.found);
      some = omega arith;
      inside = omega (arith, size, v.inside, more);
      soh = ap (λ (k : ℕ). get_or bytes k 0) (sym at-soh) ∙ sym (get_or-drop (t.at + 1) bytes v.at 0) ∙ v.soh;
    }

-- ---- one field after the other

first_short : (bytes : List ℕ) → AllShort bytes → HasTag bytes → HasShort bytes
first_short bytes all t = let more = some_behind bytes all t in has_short bytes t more (soh_behind bytes all t more)

short_after : (bytes : List ℕ) (after : ℕ) → AllShort bytes → 0 < after → after < length bytes
    → get_or bytes (after - 1) 0 ≡ 1 → AllShort (drop after bytes)
short_after bytes after all some inside soh =
    let rest = drop after bytes in
    let size : length rest ≡ length bytes - after = length-drop after bytes in
    let same = piece_behind bytes after (length bytes + 5) in
    let zero_after : after + 0 ≡ after = omega arith in
    let next : after - 1 + 1 ≡ after = omega arith in
    let place : after + (length rest - 1) ≡ length bytes - 1 = omega (arith, size) in
    record {
      front = front_moved bytes rest after (length bytes + 5) 0 same (omega arith)
          ∙ ap (short_front bytes) (zero_after ∙ sym next) ∙ all.behind (after - 1) (omega arith) soh;
      behind = λ k lt e.
          let up : after + (k + 1) ≡ after + k + 1 = omega arith in
          front_moved bytes rest after (length bytes + 5) (k + 1) same (omega (arith, size, lt))
          ∙ ap (short_front bytes) up
          ∙ all.behind (after + k) (omega (arith, size, lt)) (sym (get_or-drop after bytes k 0) ∙ e);
      ends = get_or-drop after bytes (length rest - 1) 0 ∙ ap (λ (k : ℕ). get_or bytes k 0) place ∙ all.ends;
    }

short_within : (n : ℕ) (bytes : List ℕ) → length bytes ≤ n → AllShort bytes → are_fields bytes ≡ true
short_within n [] le all = test_ends
short_within zero (b ∷ bytes) le all = absurd (omega arith)
short_within (suc n) (b ∷ bytes) le all =
    let has = first_short (b ∷ bytes) all (has_tag (b ∷ bytes) all.front) in
    let rest = drop has.after (b ∷ bytes) in
    let size : length rest ≡ length (b ∷ bytes) - has.after = length-drop has.after (b ∷ bytes) in
    test_goes (b ∷ bytes) (has.tag, has.value) rest has.found ∙ elim (cases_lt has.after (length (b ∷ bytes))) [
      | inl lt ↦
          short_within n rest (omega (arith, size, has.some))
          (short_after (b ∷ bytes) has.after all has.some lt has.soh)
      | inr all_gone ↦ ap are_fields (nil_from_length rest (omega (arith, size, all_gone))) ∙ test_ends
    ]

pub short_fields : (bytes : List ℕ) → AllShort bytes → are_fields bytes ≡ true
short_fields bytes all = short_within (length bytes) bytes (omega arith) all
