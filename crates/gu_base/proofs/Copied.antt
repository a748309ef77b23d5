-- A text that is copied byte by byte into cells of zeros.
use Rattle.std.proofs.Common.{◌≡◌, ◌≤◌, ◌<◌, ◌+◌, ◌-◌, ℕ, Bool, true, false, List, length, take, drop, replicate, zero}
use Rattle.std.proofs.Common.{suc, refl, arith, slice_index_or, slice_set, nat_le}
use Rattle.std.specs.Prelude.{Some, None, ◌==◌, if◌then◌else◌}
use Rattle.std.specs.List.{list_all}
use Rattle.std.proofs.lemmas.List.{take_more, take_more_set, take_all, length-set, length-replicate, drop-set-lt}
use Rattle.std.proofs.lemmas.List.{drop-replicate}
use Rattle.std.proofs.lemmas.List.Folds.{list_all_more}
use Rattle.std.proofs.lemmas.Grind.{drop_more_same}
use Rattle.std.proofs.lemmas.Bool.Decides.{nat_tests}
use Rattle.gu_base.specs.Cells.{is_from, is_text_from}

-- the first i bytes of a text are in the cells, and fit; zeros are behind them
pub record IsCopied (n lowest : ℕ) (text : List ℕ) (i : ℕ) (cells : List ℕ) : Type 0 where
  pub len : length cells ≡ n
  pub front : take i cells ≡ take i text
  pub back : drop i cells ≡ drop i (replicate n 0)
  pub fits : list_all (is_from lowest) (take i text) ≡ true

pub none_copied : (n lowest : ℕ) (text : List ℕ) → IsCopied n lowest text 0 (replicate n 0)
none_copied n lowest text = record { len = length-replicate {A = ℕ} n 0; front = refl; back = refl; fits = refl }

from_told : (lowest b : ℕ) → lowest ≤ b → b ≤ 126 → is_from lowest b ≡ true
from_told lowest b l h = grind (arith, nat_tests)

pub one_more_copied : (n lowest : ℕ) (text : List ℕ) (i : ℕ) (cells : List ℕ) → IsCopied n lowest text i cells
    → i < length text → length text ≤ n → lowest ≤ slice_index_or text i 0 → slice_index_or text i 0 ≤ 126
    → IsCopied n lowest text (i + 1) (slice_set cells i (slice_index_or text i 0))
one_more_copied n lowest text i cells h more fits low high =
    let b : ℕ = slice_index_or text i 0 in
    let there : i < length cells = omega (arith, h.len) in
    record {
      len = rw (length-set cells i b) h.len;
      front = rw (take_more_set cells i b there, take_more text i 0 more, h.front) refl;
      back = rw (drop-set-lt (i + 1) cells i b (omega arith)) (drop_more_same cells (replicate n 0) i h.back);
      fits = rw (list_all_more (is_from lowest) text i 0 more, h.fits) (from_told lowest b low high);
    }

-- at the end of the text the cells are those of the text
pub all_copied : (n lowest : ℕ) (text : List ℕ) (i : ℕ) (cells : List ℕ) → IsCopied n lowest text i cells
    → length text ≤ i → i ≤ length text → length text ≤ n
    → (length text ≤ n) × (length cells ≡ n) × (drop (length text) cells ≡ replicate (n - length text) 0)
all_copied n lowest text i cells h end at fits =
    let e : i ≡ length text = omega arith in
    (fits, h.len, rw (← e, h.back) (drop-replicate {X = ℕ} i n 0))

le_told : (a b : ℕ) → a ≤ b → nat_le a b ≡ true
le_told a b h = grind (arith, nat_tests)

pub not_empty : (n : ℕ) (b : Bool) → b ≡ (n == 0) → b ≡ false → 1 ≤ n
not_empty zero b e f = absurd (cc)
not_empty (suc n) b e f = omega arith

pub copied_text : (n lowest : ℕ) (text : List ℕ) (i : ℕ) (cells : List ℕ) → IsCopied n lowest text i cells
    → length text ≤ i → i ≤ length text → 1 ≤ length text → length text ≤ n
    → Some (take (length text) cells) ≡ (if is_text_from lowest n text then Some text else None)
copied_text n lowest text i cells h end at some fits =
    let e : i ≡ length text = omega arith in
    let whole : take i text ≡ text = take_all i text (omega arith) in
    let lawful : list_all (is_from lowest) text ≡ true = rw (← whole) h.fits in
    rw (le_told 1 (length text) some, le_told (length text) n fits, lawful, ← e, h.front, whole) refl
