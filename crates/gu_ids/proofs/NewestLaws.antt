-- The newest of the entries that something holds of.
use Rattle.std.proofs.Common.{◌≡◌, ◌≤◌, ◌<◌, ℕ, zero, suc, Bool, true, false, cond, List, [], ◌∷◌, ◌++◌, length, refl}
use Rattle.std.proofs.Common.{sym, ◌∙◌, ap, arith}
use Rattle.std.specs.Prelude.{Some}
use Rattle.std.proofs.lemmas.List.{get_or-map, get_or_push, get_or_append_left}
use Rattle.gu_base.specs.declared.entry.Entry.{Entry}
use Rattle.gu_ids.specs.Newest.{newest, is_of, is_at, unless_zero, newest_of}

pub newest_same : (p q : ℕ → Bool) (k : ℕ) → ((j : ℕ) → j < k → p j ≡ q j) → newest p k ≡ newest q k
newest_same p q zero same = refl
newest_same p q (suc k) same =
    ap (λ b. cond b (suc k) (newest p k)) (same k (omega arith))
    ∙ ap (λ n. cond (q k) (suc k) n) (newest_same p q k (λ j within. same j (omega (arith, within))))

pub newest_none : (p : ℕ → Bool) (k : ℕ) → ((j : ℕ) → j < k → p j ≡ false) → newest p k ≡ 0
newest_none p zero none = refl
newest_none p (suc k) none =
    ap (λ b. cond b (suc k) (newest p k)) (none k (omega arith))
    ∙ newest_none p k (λ j within. none j (omega (arith, within)))

within_by : (b : Bool) (k n : ℕ) → n ≤ k → cond b (suc k) n ≤ suc k
within_by true k n e = omega arith
within_by false k n e = omega (arith, e)

pub newest_within : (p : ℕ → Bool) (k : ℕ) → newest p k ≤ k
newest_within p zero = omega arith
newest_within p (suc k) = within_by (p k) k (newest p k) (newest_within p k)

again_by : (b : Bool) (p : ℕ → Bool) (k : ℕ) → p k ≡ b → newest p (newest p k) ≡ newest p k
    → newest p (cond b (suc k) (newest p k)) ≡ cond b (suc k) (newest p k)
again_by true p k is e = ap (λ b. cond b (suc k) (newest p k)) is
again_by false p k is e = e

pub newest_again : (p : ℕ → Bool) (k : ℕ) → newest p (newest p k) ≡ newest p k
newest_again p zero = refl
newest_again p (suc k) = again_by (p k) p k refl (newest_again p k)

-- a number that is the newest up to itself has it
there_by : (b : Bool) (k n : ℕ) → n ≤ k → cond b (suc k) n ≡ suc k → b ≡ true
there_by true k n within e = refl
there_by false k n within e = absurd (omega (arith, within, e))

pub newest_there : (p : ℕ → Bool) (k : ℕ) → newest p (suc k) ≡ suc k → p k ≡ true
newest_there p k e = there_by (p k) k (newest p k) (newest_within p k) e

pub fails_too : (b c : Bool) → (b ≡ true → c ≡ true) → c ≡ false → b ≡ false
fails_too false c both none = refl
fails_too true c both none = absurd (let e = both refl in cc)

skips_by : (b : Bool) (p q : ℕ → Bool) (k : ℕ) → q k ≡ b → (p k ≡ true → q k ≡ true)
    → newest p k ≡ newest p (newest q k) → newest p (suc k) ≡ newest p (cond b (suc k) (newest q k))
skips_by true p q k is both e = refl
skips_by false p q k is both e = ap (λ b. cond b (suc k) (newest p k)) (fails_too (p k) (q k) both is) ∙ e

-- where q holds of all that p holds of, the newest of p is not above that of q
pub newest_skips : (p q : ℕ → Bool) (k : ℕ) → ((j : ℕ) → p j ≡ true → q j ≡ true) → newest p k ≡ newest p (newest q k)
newest_skips p q zero both = refl
newest_skips p q (suc k) both = skips_by (q k) p q k refl (both k) (newest_skips p q k both)

-- ---- the entries of a firm and an id

number_of_last : (b : Bool) (k n : ℕ) → unless_zero (cond b (suc k) n) ≡ cond b (Some (suc k)) (unless_zero n)
number_of_last true k n = refl
number_of_last false k n = refl

length_push : (h : List Entry) (e : Entry) → length (h ++ e ∷ []) ≡ suc (length h)
length_push [] e = refl
length_push (d ∷ h) e = ap suc (length_push h e)

-- one entry more
pub newest_push : (h : List Entry) (e : Entry) (firm id : List ℕ)
    → newest_of (h ++ e ∷ []) firm id ≡ cond (is_of firm id e) (Some (suc (length h))) (newest_of h firm id)
newest_push h e firm id =
    let p = is_at (h ++ e ∷ []) firm id in
    let longer = length_push h e in
    let last : p (length h) ≡ is_of firm id e =
    get_or-map (is_of firm id) (h ++ e ∷ []) (length h) e false (omega (arith, longer))
    ∙ ap (is_of firm id) (get_or_push h e e (length h) refl) in
    let before : newest p (length h) ≡ newest (is_at h firm id) (length h) =
    newest_same p (is_at h firm id) (length h) (λ j within.
    get_or-map (is_of firm id) (h ++ e ∷ []) j e false (omega (arith, longer, within))
    ∙ (ap (is_of firm id) (get_or_append_left h (e ∷ []) e j within)
    ∙ sym (get_or-map (is_of firm id) h j e false within))) in
    ap (λ n. unless_zero (newest p n)) longer
    ∙ (ap (λ b. unless_zero (cond b (suc (length h)) (newest p (length h)))) last
    ∙ (ap (λ n. unless_zero (cond (is_of firm id e) (suc (length h)) n)) before
    ∙ number_of_last (is_of firm id e) (length h) (newest (is_at h firm id) (length h))))
