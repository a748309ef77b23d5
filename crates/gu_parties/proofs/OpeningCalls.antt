-- The opening calls, one by one.
use Rattle.std.proofs.Common.{◌≡◌, ◌∙◌, ℕ, zero, suc, ◌+◌, ◌<◌, ◌≤◌, ◌^◌, true, List, [], ◌∷◌, ◌++◌, length, refl, sym}
use Rattle.std.proofs.Common.{ap, arith, Some, None, length-append}
use Rattle.std.specs.Prelude.{slice_get, option_map, codes, decimal, nat_le}
use Rattle.std.specs.List.{list_all}
use Rattle.std.specs.Str.Parse.{AllDigits}
use Rattle.std.proofs.lemmas.Bool.Decides.{nat_tests}
use Rattle.std.specs.Char.{digit_value}
use Rattle.std.proofs.lemmas.Bool.{le-leb, and_from}
use Rattle.std.proofs.lemmas.Fmt.{decimal_is_IsNumeral, length-decimal-le}
use Rattle.gu_base.specs.Names.{is_text, is_id_text}
use Rattle.gu_base.specs.House.{House}
use Rattle.gu_base.specs.Runs.{opening_call, opening_from, opening_calls}
use Rattle.gu_base.specs.declared.house.Pair.{Pair}
use Rattle.gu_base.specs.declared.house.Agreement.{Agreement}

digit_range : (d : ℕ) → digit_value d < 10 → (48 ≤ d) × (d ≤ 57)
digit_range d h = grind (arith, nat_tests)

digits_text : (ds : List ℕ) → AllDigits 10 ds → list_all is_text ds ≡ true
digits_text [] h = refl
digits_text (d ∷ ds) h =
    let r = digit_range d h.0 in
    let low : nat_le 32 d ≡ true = le-leb 32 d (omega arith) in
    let high : nat_le d 126 ≡ true = le-leb d 126 (omega arith) in
    rw (low, high) (digits_text ds h.1)

id_from : (s : List ℕ) → 1 ≤ length s → length s ≤ 32 → list_all is_text s ≡ true → is_id_text s ≡ true
id_from s some few text = and_from _ _ (and_from _ _ (le-leb 1 (length s) some) (le-leb (length s) 32 few)) text

-- the id of an opening call is one
pub opening_id_text : (n : ℕ) → n < 2 ^ 64 → is_id_text (codes "OPEN-" ++ decimal n) ≡ true
opening_id_text n small =
    let d = decimal_is_IsNumeral n small in
    let few : length (decimal n) ≤ 20 = length-decimal-le 20 n (omega arith) (omega arith) small in
    let five : length (codes "OPEN-") ≡ 5 = refl in
    let all = length-append (codes "OPEN-") (decimal n) in
    id_from (codes "OPEN-" ++ decimal n) (omega (arith, five, all)) (omega (arith, few, five, all))
    (digits_text (decimal n) d.0.1)

-- the call at a place is that of the agreement there
pub calls_at : (t : House) (i : ℕ) (es : List (Pair × Agreement)) (n : ℕ)
    → slice_get (opening_from t i es) n ≡ option_map (opening_call t (i + n)) (slice_get es n)
calls_at t i [] zero = refl
calls_at t i [] (suc n) = refl
calls_at t i (e ∷ es) zero = ap (λ (j : ℕ). Some (opening_call t j e)) (omega arith)
calls_at t i (e ∷ es) (suc n) =
    calls_at t (i + 1) es n ∙ ap (λ (j : ℕ). option_map (opening_call t j) (slice_get es n)) (omega arith)

pub call_there : (t : House) (n : ℕ) (e : Pair × Agreement) → Some e ≡ slice_get t.opening n
    → Some (opening_call t (n + 1) e) ≡ slice_get (opening_calls t) n
call_there t n e at =
    sym (calls_at t 1 t.opening n ∙ ap (option_map (opening_call t (1 + n))) (sym at)
    ∙ ap (λ (j : ℕ). Some (opening_call t j e)) (omega arith))

pub none_there : (t : House) (n : ℕ) → slice_get t.opening n ≡ None → None ≡ slice_get (opening_calls t) n
none_there t n none = sym (calls_at t 1 t.opening n ∙ ap (option_map (opening_call t (1 + n))) none)
