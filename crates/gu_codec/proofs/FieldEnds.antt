-- A field by the place of its SOH.
use Rattle.std.proofs.Common.{◌≡◌, ℕ, ◌+◌, ◌-◌, ◌<◌, ◌≤◌, Bool, cond, ap₂, true, false, eqb, ltb, List, [], ◌∷◌, ◌++◌}
use Rattle.std.proofs.Common.{length, take, drop, None, Some, refl, sym, ap, ◌∙◌, append_assoc, arith, length-append}
use Rattle.std.proofs.Common.{inl, inr}
use Rattle.std.specs.List.{position_or_len, before_first, after_first}
use Rattle.std.specs.Prelude.{◌&&◌}
use Rattle.std.specs.Str.Parse.{AllDigits}
use Rattle.std.proofs.lemmas.Bool.{ne_eqb, lt-ltb}
use Rattle.std.proofs.lemmas.Bool.Decides.{nat_tests}
use Rattle.std.proofs.lemmas.List.{drop_at, drop-drop}
use Rattle.gu_codec.specs.Fields.{tag_after, is_soh, value_at, field_at}
use Rattle.gu_codec.proofs.Templates.{digit_range}
use Rattle.gu_codec.proofs.FieldSteps.{tag_found}
use Rattle.gu_base.proofs.Basics.{none_or_some}

-- digits and `=` are no SOH
soh_behind_tag : (text rest : List ℕ) → AllDigits 10 text
    → position_or_len is_soh (text ++ 61 ∷ rest) ≡ length text + 1 + position_or_len is_soh rest
soh_behind_tag [] rest digits = omega arith
soh_behind_tag (x ∷ text) rest digits =
    let range = digit_range x digits.0 in
    let no : eqb x 1 ≡ false = ne_eqb x 1 (λ e. omega (arith, range.0, e)) in
    rw no (omega (arith, soh_behind_tag text rest digits.1))

-- where a value begins that stands behind a tag, and how far its SOH is
pub record Begins (bytes rest : List ℕ) : Type 0 where
  pub shorter : length rest < length bytes
  pub there : drop (length bytes - length rest) bytes ≡ rest
  pub soh : position_or_len is_soh bytes ≡ length bytes - length rest + position_or_len is_soh rest

-- where a tag is read
pub begins : (bytes : List ℕ) (tag : ℕ) (rest : List ℕ) → tag_after 0 0 bytes ≡ Some (tag, rest) → Begins bytes rest
begins bytes tag rest e =
    let t = tag_found 0 0 bytes tag rest (omega arith) e in
    let len : length bytes ≡ length t.text + 1 + length rest =
    omega (arith, ap length t.parts, length-append t.text (61 ∷ rest)) in
    let apart : bytes ≡ (t.text ++ 61 ∷ []) ++ rest = t.parts ∙ sym (append_assoc t.text (61 ∷ []) rest) in
    record {
      shorter = omega arith;
      there = ap (drop (length bytes - length rest)) apart
          ∙ drop_at (t.text ++ 61 ∷ []) rest (length bytes - length rest)
          (omega (arith, length-append t.text (61 ∷ [])));
      soh = ap (position_or_len is_soh) t.parts ∙ soh_behind_tag t.text rest t.digits ∙ omega arith;
    }

-- the value up to the SOH
value_ends : (rest : List ℕ) (n : ℕ) → n ≡ position_or_len is_soh rest → 0 < n → n < length rest
    → value_at rest ≡ Some (take n rest, drop (n + 1) rest)
value_ends rest n e some inside =
    let a : ltb 0 (position_or_len is_soh rest) ≡ true = lt-ltb 0 _ (omega (arith, e)) in
    let b : ltb (position_or_len is_soh rest) (length rest) ≡ true = lt-ltb _ (length rest) (omega (arith, e)) in
    rw (e, a, b) refl

-- none where that stands first, or nowhere
no_value : (rest : List ℕ) → position_or_len is_soh rest ≡ 0 → value_at rest ≡ None
no_value rest e = rw e refl

never : {A : Type 0} (c : Bool) (x : A) → cond (c && false) (Some x) None ≡ None
never true x = refl
never false x = refl

no_end : (rest : List ℕ) → position_or_len is_soh rest ≡ length rest → value_at rest ≡ None
no_end rest e =
    let b : ltb (position_or_len is_soh rest) (length rest) ≡ false = grind (arith, nat_tests, e) in
    rw b
    (never {A = List ℕ × List ℕ} (ltb 0 (position_or_len is_soh rest))
    (before_first is_soh rest, after_first is_soh rest))

-- a tag without a value is no field
tag_alone : (bytes : List ℕ) (tag : ℕ) (rest : List ℕ) → tag_after 0 0 bytes ≡ Some (tag, rest) → value_at rest ≡ None
    → field_at bytes ≡ None
unfolding field_at
tag_alone bytes tag rest e v = rw (e, v) refl

pub no_tag : (bytes : List ℕ) → tag_after 0 0 bytes ≡ None → field_at bytes ≡ None
unfolding field_at
no_tag bytes e = rw e refl

with_value : (bytes : List ℕ) (tag : ℕ) (rest v after : List ℕ) → tag_after 0 0 bytes ≡ Some (tag, rest)
    → value_at rest ≡ Some (v, after) → field_at bytes ≡ Some ((tag, v), after)
unfolding field_at
with_value bytes tag rest v after e h = rw (e, h) refl

-- a field whose value stands between its tag and the first SOH
pub field_ends : (bytes : List ℕ) (tag : ℕ) (rest : List ℕ) (start end : ℕ) → tag_after 0 0 bytes ≡ Some (tag, rest)
    → end ≡ position_or_len is_soh bytes → end < length bytes → start ≡ length bytes - length rest → start < end
    → field_at bytes ≡ Some ((tag, take (end - start) (drop start bytes)), drop (end + 1) bytes)
field_ends bytes tag rest start end e first inside place some =
    let h = begins bytes tag rest e in
    let there : drop start bytes ≡ rest = ap (λ (n : ℕ). drop n bytes) place ∙ h.there in
    let n : end - start ≡ position_or_len is_soh rest = omega (arith, h.soh) in
    let after : drop (end - start + 1) rest ≡ drop (end + 1) bytes = ap (drop (end - start + 1)) (sym there)
    ∙ drop-drop (end - start + 1) start bytes ∙ ap (λ (m : ℕ). drop m bytes) (omega arith) in
    with_value bytes tag rest (take (end - start) (drop start bytes)) (drop (end + 1) bytes) e
    (value_ends rest (end - start) n (omega arith) (omega (arith, h.shorter))
    ∙ ap₂ (λ (a b : List ℕ). Some (a, b)) (ap (take (end - start)) (sym there)) after)

-- no value stands between them
pub field_empty : (bytes : List ℕ) (tag : ℕ) (rest : List ℕ) (start end : ℕ) → tag_after 0 0 bytes ≡ Some (tag, rest)
    → end ≡ position_or_len is_soh bytes → start ≡ length bytes - length rest → end ≤ start → field_at bytes ≡ None
field_empty bytes tag rest start end e first place le =
    let h = begins bytes tag rest e in tag_alone bytes tag rest e (no_value rest (omega (arith, h.soh)))

-- no SOH is there
pub field_unended : (bytes : List ℕ) → position_or_len is_soh bytes ≡ length bytes → field_at bytes ≡ None
field_unended bytes none = elim (none_or_some (tag_after 0 0 bytes)) [
  | inl none_there ↦ no_tag bytes none_there
  | inr t ↦
      let h = begins bytes t.0.0 t.0.1 t.1 in
      tag_alone bytes t.0.0 t.0.1 t.1 (no_end t.0.1 (omega (arith, h.soh, h.shorter)))
]
