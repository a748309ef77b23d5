-- A piece of a file is read up to its first zero.
use Rattle.gu_journal.proofs.Vocabulary.{Adds, ap, arith, Bool, cond, counted, counted_fits, drop, drop-drop, drop_at}
use Rattle.gu_journal.proofs.Vocabulary.{end_of, eqb, Gains, get_or, Held, inl, inr, IsZeroAt, length, length-drop}
use Rattle.gu_journal.proofs.Vocabulary.{List, nat_tests, not, position_or_len, refl, strange_len, suc, sym, take}
use Rattle.gu_journal.proofs.Vocabulary.{take_all, unwrap_or, zero, [], ℕ, ◌++◌, ◌+◌, ◌-◌, ◌<◌, ◌∙◌, ◌∷◌, ◌≡◌, ◌≤◌}
use Rattle.gu_store.proofs.Counted.{counted_ends, counted_none, counted_reads}
use Rattle.sqlite_disk.specs.Disk.{Holds}
use Rattle.std.proofs.{Common.position, lemmas.List.{drop-take, Recursion.is_position_or_len}}
use Rattle.std.proofs.{lemmas.List.Sums.prefix_len-le-length, Math.Seq.take-append-add}

-- the place of the first zero tells how many bytes stand before it
zero_first : (b : ℕ) (bytes : List ℕ) → length (counted (b ∷ bytes)) ≡ cond (eqb b 0) 0 (1 + length (counted bytes))
zero_first zero bytes = refl
zero_first (suc b) bytes = grind (arith, nat_tests)

pub place_of_zero : (bytes : List ℕ) → unwrap_or (position (λ b. eqb b 0) bytes) (length bytes) ≡ length (counted bytes)
place_of_zero bytes =
    let at : length (counted bytes) ≡ position_or_len (λ b. eqb b 0) bytes =
    is_position_or_len (λ l. length (counted l)) (λ b. eqb b 0) refl zero_first bytes in
    let fits = counted_fits bytes in
    grind (arith, nat_tests)

-- the same of the first `8`
abbrev frame_at : List ℕ → ℕ
frame_at bytes = position_or_len (λ b. eqb b 56) bytes

pub frame_fits : (bytes : List ℕ) → position_or_len (λ b. eqb b 56) bytes ≤ length bytes
frame_fits bytes = prefix_len-le-length (λ b. not (eqb b 56)) bytes

pub place_of_frame : (bytes : List ℕ) → unwrap_or (position (λ b. eqb b 56) bytes) (length bytes)
    ≡ position_or_len (λ b. eqb b 56) bytes
place_of_frame bytes = let fits = frame_fits bytes in grind (arith, nat_tests)

pub strange_within : (bytes : List ℕ) → 0 < length bytes → strange_len bytes ≤ length bytes
strange_within bytes some = omega (arith, some, frame_fits (drop 1 bytes), length-drop 1 bytes)

-- it is passed to, in a buffer of which so many bytes were passed
pub passed_to : (taken n : ℕ) (items now held : List ℕ) → held ≡ drop taken items → now ≡ items
    → n ≡ position_or_len (λ b. eqb b 56) (take (length now - (taken + 1)) (drop (taken + 1) now))
    → n + 1 ≡ strange_len held
passed_to taken n items now held held_is now_is n_is =
    let behind = drop (taken + 1) now in
    let whole : take (length now - (taken + 1)) behind ≡ drop 1 held =
    take_all (length now - (taken + 1)) behind (omega (arith, length-drop (taken + 1) now))
    ∙ ap (drop (taken + 1)) now_is ∙ sym (drop-drop 1 taken items) ∙ ap (drop 1) (sym held_is) in
    omega (arith, n_is, ap frame_at whole)

-- what stands before the first zero is so many of the bytes
pub take_counted : (bytes : List ℕ) → take (length (counted bytes)) bytes ≡ counted bytes
take_counted (suc b ∷ bytes) = ap (λ (l : List ℕ). suc b ∷ l) (take_counted bytes)
take_counted _ = refl

-- all of them, where there is none
pub counted_all : (bytes : List ℕ) → length bytes ≤ length (counted bytes) → counted bytes ≡ bytes
counted_all [] few = refl
counted_all (zero ∷ bytes) few = absurd (omega (arith, few))
counted_all (suc b ∷ bytes) few = ap (λ (l : List ℕ). suc b ∷ l) (counted_all bytes (omega (arith, few)))

-- what stands behind what counts
pub behind_counted : (file : List ℕ) → (behind : List ℕ) × (file ≡ counted file ++ behind)
behind_counted [] = ([], refl)
behind_counted (zero ∷ file) = (zero ∷ file, refl)
behind_counted (suc b ∷ file) =
    let more = behind_counted file in (more.0, ap (λ (l : List ℕ). suc b ∷ l) more.1)

-- ---- what was held, and a piece behind it, in a buffer of which so many bytes were passed

module _ (passed : ℕ) (items held piece : List ℕ) (is : drop passed items ≡ held ++ piece) where
  pub piece_is : drop (passed + length held) items ≡ piece
  piece_is =
      sym (drop-drop (length held) passed items) ∙ ap (drop (length held)) is ∙ drop_at held piece (length held) refl

  pub piece_seen : (n : ℕ) → n ≡ length held → (now : List ℕ) → now ≡ items
      → take (length now - (passed + n)) (drop (passed + n) now) ≡ piece
  piece_seen n n_is now now_is =
      rw (now_is, n_is) (take_all (length items - (passed + length held)) (drop (passed + length held) items)
      (omega (arith, length-drop (passed + length held) items)) ∙ piece_is)

  pub piece_cut : (first : ℕ) → drop passed (take (passed + length held + first) items) ≡ held ++ take first piece
  piece_cut first =
      ap (λ (n : ℕ). drop passed (take n items)) (omega arith) ∙ drop-take passed (length held + first) items
      ∙ ap (take (length held + first)) is ∙ take-append-add held piece first

module _ {is : Bool} {file : List ℕ} {size : ℕ} {old mid new : Held} (a : Adds is file size old mid) where
  -- a zero is there
  pub gains_cut : (first less : ℕ) → first ≡ length (counted a.piece) → first < length a.piece
      → less ≡ end_of old + first → new ≡ record old { bytes = old.bytes ++ take first a.piece }
      → Gains is file size less old new
  gains_cut first less first_is cut less_is new_is =
      let front : take first a.piece ≡ counted a.piece =
      ap (λ (n : ℕ). take n a.piece) first_is ∙ take_counted a.piece in
      record {
        piece = counted a.piece;
        added = new_is ∙ ap (λ (l : List ℕ). record old { bytes = old.bytes ++ l }) front;
        within = omega (arith, less_is, first_is);
        fewer = omega (arith, less_is, cut, a.within);
        closer = inr (omega (arith, less_is, cut, a.within));
        no_zero = counted_none a.piece;
        there = λ c.
            let holds = a.there c in
            record {
              within = omega (arith, holds.within, counted_fits a.piece);
              each = λ i l. holds.each i (omega (arith, l, counted_fits a.piece)) ∙ counted_reads a.piece i l;
            };
        bound = λ c. inr (at (a.there c));
      }
    where
      at : Holds file (end_of old) a.piece → IsZeroAt file less
      at holds = (
        omega (arith, holds.within, less_is, cut),
        ap (λ (n : ℕ). get_or file n 0) (less_is ∙ ap (λ (n : ℕ). end_of old + n) first_is)
            ∙ holds.each (length (counted a.piece)) (omega (arith, cut, first_is))
            ∙ counted_ends a.piece (omega (arith, cut, first_is)),
      )

  -- none is
  pub gains_all : length a.piece ≤ length (counted a.piece) → new ≡ mid → Gains is file size size old new
  gains_all whole new_is = record {
    piece = a.piece;
    added = new_is ∙ a.added;
    within = a.within;
    fewer = omega arith;
    closer = inl a.some;
    no_zero = rw (counted_all a.piece whole) at (counted_none a.piece);
    there = a.there;
    bound = λ c. inl refl;
  }
