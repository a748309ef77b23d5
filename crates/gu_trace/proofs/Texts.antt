-- Text that is written piece by piece along a list.
use Rattle.std.proofs.Common.{◌≡◌, ℕ, zero, suc, ◌+◌, ◌-◌, ◌<◌, ◌≤◌, List, [], ◌∷◌, ◌++◌, refl, sym, ◌∙◌, ap, arith}
use Rattle.std.proofs.Common.{length, drop, append_assoc, append-nil}
use Rattle.std.specs.Prelude.{codes, flat_map, map, Option, Some, None, slice_get, Result, Ok, Err, OnOk, Bool, true}
use Rattle.std.specs.Prelude.{false, cond}
use Rattle.std.proofs.lemmas.List.{drop_all}
use Rattle.gu_base.specs.House.{House}
use Rattle.gu_base.specs.History.{live}
use Rattle.gu_base.specs.Rows.{Row, rows_of}
use Rattle.gu_base.specs.declared.entry.Entry.{Entry}
use Rattle.gu_tree.specs.Shown.{shown}
use Rattle.gu_tree.specs.declared.head.Row.{Row as TreeRow}
use Rattle.gu_book.specs.TreeRows.{is_live_trade, tree_rows}
use Rattle.gu_trace.specs.Trace.{indent, fee_of, fee_words, claimed_words, line_of, trace_text}

step : {A : Type 0} (f : A → List ℕ) (xs : List A) (i : ℕ) (x : A) → slice_get xs i ≡ Some x
    → flat_map f (drop i xs) ≡ f x ++ flat_map f (drop (i + 1) xs)
step f [] i x found = absurd (cc)
step f (y ∷ xs) zero x found = let here : y ≡ x = cc in ap (λ z. f z ++ flat_map f xs) here
step f (y ∷ xs) (suc i) x found = step f xs i x found ∙ ap (λ m. f x ++ flat_map f (drop m (y ∷ xs))) (more i)
  where
    more : (i : ℕ) → suc (i + 1) ≡ suc i + 1
    more i = omega arith

-- what was written, with what the elements from a place on still give, is the whole
pub written : {A : Type 0} (f : A → List ℕ) (xs : List A) (i : ℕ) (x : A) (before after whole : List ℕ)
    → slice_get xs i ≡ Some x → after ≡ before ++ f x → before ++ flat_map f (drop i xs) ≡ whole
    → after ++ flat_map f (drop (i + 1) xs) ≡ whole
written f xs i x before after whole found more so_far =
    ap (λ t. t ++ flat_map f (drop (i + 1) xs)) more
    ∙ (append_assoc before (f x) (flat_map f (drop (i + 1) xs))
    ∙ (ap (λ t. before ++ t) (sym (step f xs i x found)) ∙ so_far))

-- from the end on nothing is left to be written
pub all_written : {A : Type 0} (f : A → List ℕ) (xs : List A) (i : ℕ) (before whole : List ℕ) → length xs ≤ i
    → before ++ flat_map f (drop i xs) ≡ whole → before ≡ whole
all_written f xs i before whole past so_far =
    sym (append-nil before) ∙ (ap (λ ys. before ++ flat_map f ys) (sym (drop_all i xs past)) ∙ so_far)

-- before the end an element stands
pub is_there : {A : Type 0} (xs : List A) (i : ℕ) → i < length xs → slice_get xs i ≡ None → ⊥
is_there [] i within absent = omega arith
is_there (x ∷ xs) zero within absent = cc
is_there (x ∷ xs) (suc i) within absent = is_there xs i (omega arith) absent

indent_more : (depth level : ℕ) → level < depth → indent (depth - level) ≡ codes "  " ++ indent (depth - (level + 1))
indent_more depth level within = let e : depth - level ≡ suc (depth - (level + 1)) = omega arith in ap indent e

-- two more spaces
pub indented : (depth level : ℕ) (before after whole : List ℕ) → level < depth → after ≡ before ++ codes "  "
    → before ++ indent (depth - level) ≡ whole → after ++ indent (depth - (level + 1)) ≡ whole
indented depth level before after whole within more so_far =
    ap (λ t. t ++ indent (depth - (level + 1))) more
    ∙ (append_assoc before (codes "  ") (indent (depth - (level + 1)))
    ∙ (ap (λ t. before ++ t) (sym (indent_more depth level within)) ∙ so_far))

pub on_ok : {A E : Type 0} (P Q : Type 0) (r : Result A E) → (P → Q) → OnOk r P → OnOk r Q
on_ok P Q (Ok x) f h = f h
on_ok P Q (Err e) f h = tt

-- two pieces, and five, one behind the other
pub two_pieces : (t0 t1 t2 a b : List ℕ) → t1 ≡ t0 ++ a → t2 ≡ t1 ++ b → t2 ≡ t0 ++ (a ++ b)
two_pieces t0 t1 t2 a b one two = two ∙ (ap (λ t. t ++ b) one ∙ append_assoc t0 a b)

pub five_pieces : (t0 t1 t2 t3 t4 t5 a b c d e : List ℕ) → t1 ≡ t0 ++ a → t2 ≡ t1 ++ b → t3 ≡ t2 ++ c → t4 ≡ t3 ++ d
    → t5 ≡ t4 ++ e → t5 ≡ t0 ++ (a ++ (b ++ (c ++ (d ++ e))))
five_pieces t0 t1 t2 t3 t4 t5 a b c d e one two three four five =
    two_pieces t0 t1 t5 a (b ++ (c ++ (d ++ e))) one
    (two_pieces t1 t2 t5 b (c ++ (d ++ e)) two
    (two_pieces t2 t3 t5 c (d ++ e) three (two_pieces t3 t4 t5 d e four five)))

-- the words of a claim whose giver and taker are known
pub claim_told : (t : House) (h : List Entry) (lots fee : ℕ) (giver taker : List ℕ) (g k : Option (List ℕ))
    → Some giver ≡ g → k ≡ Some taker → fee ≡ fee_of t h lots giver taker
    → fee_words giver fee ≡ claimed_words t h lots g k
claim_told t h lots fee giver taker g k given taken cost =
    ap (fee_words giver) cost
    ∙ (ap (λ o. claimed_words t h lots (Some giver) o) (sym taken) ∙ ap (λ o. claimed_words t h lots o k) given)

only : {A : Type 0} (b : Bool) (x y : A) → Some x ≡ cond b (Some y) None → x ≡ y
only true x y h = cc
only false x y h = absurd (cc)

mapped : (f : Row → List ℕ) (rs : List TreeRow) → flat_map (λ r. f (shown r)) rs ≡ flat_map f (map shown rs)
mapped f [] = refl
mapped f (r ∷ rs) = ap (λ t. f (shown r) ++ t) (mapped f rs)

-- the lines of the rows of a live trade are its trace
pub traced : (t : House) (h : List Entry) (k : ℕ) (rs : List TreeRow) → Some (map shown rs) ≡ tree_rows (live h) k
    → flat_map (λ r. line_of t h (shown r)) rs ≡ trace_text t h k
traced t h k rs told =
    mapped (line_of t h) rs
    ∙ ap (flat_map (line_of t h)) (only (is_live_trade (live h) k) (map shown rs) (rows_of (live h) k) told)
