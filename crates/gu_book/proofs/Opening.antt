-- The calls of an opening, made one after the other.
use Rattle.gu_book.proofs.Vocabulary
use Rattle.gu_depend.proofs
use proofs.Vocabulary.{after, after_all, Agreement, opening_calls, opening_from, opening_history, Pair}
use Rattle.{gu_book.specs.Seen.HouseAndHistory, std.proofs.Common.slice_get}
use Rattle.std.proofs.{lemmas.Option.{get_or_from_slice_get, slice_get-get_or, slice_get_within}, Math.Seq.drop-cons}
use Vocabulary.{ap, arith, Call, drop, drop_all, Entry, House, IsSomeAnd, length}
use Vocabulary.{List, None, none_is_some, Option, refl, Reverse, Some, suc, sym, [], ℕ, ◌+◌, ◌<◌, ◌∙◌, ◌∷◌, ◌≡◌, ◌≤◌}

-- with one of the calls made, those behind it are left
call_made : (t : House) (h : List Entry) (cs : List Call) (i : ℕ) (c : Call) → slice_get cs i ≡ Some c
    → after_all t h (drop i cs) ≡ after_all t (after t h c) (drop (i + 1) cs)
call_made t h cs i c e =
    let one : suc i ≡ i + 1 = omega arith in
    cc (drop-cons cs i c (slice_get_within cs i c e), get_or_from_slice_get cs i c c e)

-- there is one for each agreement
call_count : (t : House) (i : ℕ) (es : List (Pair × Agreement)) → length (opening_from t i es) ≡ length es
call_count t i [] = refl
call_count t i (e ∷ es) = omega (arith, call_count t (i + 1) es)

pub call_there : (t : House) (i : ℕ) → i < length t.opening → slice_get (opening_calls t) i ≡ None → ⊥
call_there t i within absent =
    let count = call_count t 1 t.opening in
    let none : Call = record { firm = []; id = []; command = Reverse 0 } in
    none_is_some _ _ absent
    (slice_get-get_or _ i none (omega arith))

-- the calls from this place on make the opening history of the entries that there are
abbrev pub IsOpenedTo : HouseAndHistory → ℕ → Type 0
IsOpenedTo b i = after_all b.house b.history (drop i (opening_calls b.house)) ≡ opening_history b.house

next_of : (b d : HouseAndHistory) (i : ℕ) (o : Option Call) → slice_get (opening_calls b.house) i ≡ o
    → IsSomeAnd o (λ c. d ≡ record { house = b.house; history = after b.house b.history c }) → IsOpenedTo b i
    → (d.house ≡ b.house) × IsOpenedTo d (i + 1)
next_of b d i None e made so_far = absurd made
next_of b d i (Some c) e made so_far = (
  cc,
  rw made (sym (call_made b.house b.history _ i c e) ∙ so_far),
)

-- with the call at this place made
pub opened_next : (b d : HouseAndHistory) (i : ℕ)
    → IsSomeAnd (slice_get (opening_calls b.house) i)
    (λ c. d ≡ record { house = b.house; history = after b.house b.history c })
    → IsOpenedTo b i → (d.house ≡ b.house) × IsOpenedTo d (i + 1)
opened_next b d i = next_of b d i _ refl

abbrev holding : House → List Entry → HouseAndHistory
holding t h = record { house = t; history = h }

-- with the last call made
pub opened_all : (t : House) (b : HouseAndHistory) (i : ℕ) → b.house ≡ t → IsOpenedTo b i → length t.opening ≤ i
    → b ≡ record { house = t; history = opening_history t }
opened_all t b i same so_far past =
    let count = call_count b.house 1 b.house.opening in
    let last : length b.house.opening ≤ i = rw same past in
    let none : drop i (opening_calls b.house) ≡ [] = drop_all i _ (omega arith) in
    let done : b.history ≡ opening_history b.house = cc in
    ap (holding b.house) done ∙ ap (λ (x : House). holding x (opening_history x)) same
