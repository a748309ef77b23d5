-- Running rows of positions, into and out of which holdings go one by one.
use Rattle.gu_book.proofs.Vocabulary
use Rattle.{gu_base.specs.SameLaws.same_side-Decides, std.proofs.Common.{add-one, drop-cons, Err, is_err, Ok, OnErr}}
use Rattle.std.proofs.{Common.Result, lemmas.List.{Elements.filter_map-append, Sums.sum_by-append, take-append-drop}}
use Vocabulary.{ap, arith, Bool, bytes_same, cond, cons_option, counted_at, drop, false}
use Vocabulary.{filter_map, get_or, HaveMoved, HaveThere, Holding, is_key, Key, length, List, lots_in, None, Option}
use Vocabulary.{PositionRows, refl, same_side, Side, sum_by, sum_by-cons, take, true, ℕ, ◌&&◌, ◌+◌, ◌<◌, ◌∷◌, ◌≡◌, ◌≤◌}

-- ---- what a search or a sum over the records does at one record

-- all give what those before a place give, and those from it on
pub given_cut : {X Y : Type 0} (f : X → Option Y) (w : Y → ℕ) (i : ℕ) (xs : List X)
    → sum_by w (filter_map f xs) ≡ sum_by w (filter_map f (take i xs)) + sum_by w (filter_map f (drop i xs))
given_cut f w i xs = cc (take-append-drop i xs, filter_map-append f _ _, sum_by-append w _ _)

-- what the elements from place i on give begins with what the one there gives
pub given_here : {X Y : Type 0} (f : X → Option Y) (xs : List X) (i : ℕ) (x : X) (o : Option Y) → i < length xs
    → x ≡ get_or xs i x → o ≡ f x → filter_map f (drop i xs) ≡ cons_option o (filter_map f (drop (i + 1) xs))
given_here f xs i x o within here is =
    let left = (let e = drop-cons xs i x within in rw (← here, ← add-one i) at e) in
    cc

-- ---- holdings that go one by one

pub is_own_key : (k : Key) (s : Side) → (is_key k k && same_side s s) ≡ true
is_own_key k s = rw (bytes_same _, bytes_same _, bytes_same _, (same_side-Decides s s).1 refl) refl

pub at_most : (b : Bool) (n : ℕ) → cond b n 0 ≤ n
at_most true n = omega arith
at_most false n = omega arith

-- where all are there, the first is
pub first_there : (rows : PositionRows) (h : Holding) (hs : List Holding) → HaveThere rows (h ∷ hs)
    → h.lots ≤ lots_in rows h.key h.side
first_there rows h hs there =
    let b = sum_by-cons (counted_at h.key h.side) h hs in
    omega (arith, there h.key h.side, ap (λ b. cond b h.lots 0) (is_own_key h.key h.side))

-- what was put is there
pub put_there : (old new : PositionRows) (hs : List Holding) → HaveMoved old new None hs → HaveThere new hs
put_there old new hs put = λ at side. omega (arith, put at side)

-- what holds where there is none
pub put_err : {X E P : Type 0} {b : Bool} (r : Result X E) → is_err r ≡ b → b ≡ true → OnErr r P → P
put_err (Ok x) is bad p = absurd (cc)
put_err (Err e) is bad p = p
