-- What one more entry does to the live changes.
use Rattle.std.proofs.Common.{◌≡◌, ℕ, ◌+◌, ◌<◌, Bool, true, false, not, ◌&&◌, ◌||◌, List, [], ◌∷◌, ◌++◌, length, refl}
use Rattle.std.proofs.Common.{◌∙◌, ap, subst, arith, cond, append-nil}
use Rattle.std.specs.Prelude.{filter, ◌==◌}
use Rattle.std.specs.List.{All}
use Rattle.std.proofs.lemmas.Bool.{ne_eqb, eq-eqb}
use Rattle.std.proofs.lemmas.List.Elements.{All-nil, All-cons, All-head, All-tail, All-filter, filter-append}
use Rattle.std.proofs.lemmas.List.Elements.{filter_agree}
use Rattle.std.proofs.lemmas.List.Folds.{list_any-append}
use Rattle.gu_base.specs.History.{numbered_as, numbered_from, records, is_change, is_reverse_of, is_reversed, live}
use Rattle.gu_base.specs.Standing.{without}
use Rattle.gu_base.specs.Consents.{is_consenting}
use Rattle.gu_base.specs.declared.command.Command.{Command}
use Rattle.gu_base.specs.declared.command.Command.TheVariants.{Trade, Split, Claim, Refuse, Cancel, Agree, Raise}
use Rattle.gu_base.specs.declared.command.Command.TheVariants.{Initiate, Decline, Reverse}
use Rattle.gu_base.specs.declared.entry.Entry.{Entry}
use Rattle.gu_base.specs.declared.entry.Record.{Record}
use Rattle.gu_base.proofs.Basics.{or_false, eqb_symm, filter_twice}

-- ---- one entry more

pub numbered_push : (n : ℕ) (h : List Entry) (e : Entry)
    → numbered_from n (h ++ e ∷ []) ≡ numbered_from n h ++ numbered_as (n + length h) e ∷ []
numbered_push n [] e = ap (λ m. numbered_as m e ∷ []) (omega arith)
numbered_push n (d ∷ h) e =
    ap (λ rs. numbered_as n d ∷ rs)
    (numbered_push (n + 1) h e ∙ ap (λ m. numbered_from (n + 1) h ++ numbered_as m e ∷ []) (omega arith))

-- a consent is none
consent_is_no_change : (c : Command) → is_consenting c ≡ true → is_change c ≡ false
consent_is_no_change (Trade _ _ _ _ _) h = cc
consent_is_no_change (Split _ _) h = cc
consent_is_no_change (Claim _ _) h = cc
consent_is_no_change (Refuse _) h = cc
consent_is_no_change (Cancel _) h = cc
consent_is_no_change (Agree _ _ _ _) h = cc
consent_is_no_change (Raise _ _) h = cc
consent_is_no_change (Initiate _) h = refl
consent_is_no_change (Decline _) h = refl
consent_is_no_change (Reverse _) h = refl

-- no other command is a Reverse
no_reverse : (n : ℕ) (c : Command) → (is_change c || is_consenting c) ≡ true → is_reverse_of n c ≡ false
no_reverse n (Trade _ _ _ _ _) h = refl
no_reverse n (Split _ _) h = refl
no_reverse n (Claim _ _) h = refl
no_reverse n (Refuse _) h = refl
no_reverse n (Cancel _) h = refl
no_reverse n (Agree _ _ _ _) h = refl
no_reverse n (Raise _ _) h = refl
no_reverse n (Initiate _) h = refl
no_reverse n (Decline _) h = refl
no_reverse n (Reverse _) h = cc

pub change_is_no_reverse : (n : ℕ) (c : Command) → is_change c ≡ true → is_reverse_of n c ≡ false
change_is_no_reverse n c h = no_reverse n c (ap (λ b. b || is_consenting c) h)

pub consent_is_no_reverse : (n : ℕ) (c : Command) → is_consenting c ≡ true → is_reverse_of n c ≡ false
consent_is_no_reverse n c h = no_reverse n c (ap (λ b. b || is_consenting c) (consent_is_no_change c h) ∙ h)

-- what is reversed with one entry more
pub reversed_push : (h : List Entry) (e : Entry) (n : ℕ)
    → is_reversed (h ++ e ∷ []) n ≡ (is_reversed h n || is_reverse_of n e.command)
reversed_push h e n =
    list_any-append (λ d. is_reverse_of n d.command) h (e ∷ [])
    ∙ ap (λ b. is_reversed h n || b) (or_false (is_reverse_of n e.command))

pub reversed_kept : (h : List Entry) (e : Entry) (n : ℕ) → is_reverse_of n e.command ≡ false
    → is_reversed (h ++ e ∷ []) n ≡ is_reversed h n
reversed_kept h e n none = reversed_push h e n ∙ (ap (λ b. is_reversed h n || b) none ∙ or_false (is_reversed h n))

-- the test by which an entry is live in a history
abbrev pub is_live : List Entry → Record → Bool
is_live h r = is_change r.command && not (is_reversed h r.number)

live_split : (h : List Entry) (e : Entry)
    → live (h ++ e ∷ [])
    ≡ filter (is_live (h ++ e ∷ [])) (records h) ++ filter (is_live (h ++ e ∷ [])) (numbered_as (1 + length h) e ∷ [])
live_split h e =
    ap (filter (is_live (h ++ e ∷ []))) (numbered_push 1 h e)
    ∙ filter-append (is_live (h ++ e ∷ [])) (records h) (numbered_as (1 + length h) e ∷ [])

-- a change that is accepted stands at the end
pub live_push_change : (h : List Entry) (e : Entry) → is_change e.command ≡ true → is_reversed h (1 + length h) ≡ false
    → live (h ++ e ∷ []) ≡ live h ++ numbered_as (1 + length h) e ∷ []
live_push_change h e change fresh =
    let same : (r : Record) → is_live (h ++ e ∷ []) r ≡ is_live h r = λ r.
    ap (λ b. is_change r.command && not b)
    (reversed_kept h e r.number (change_is_no_reverse r.number e.command change)) in
    let new : is_live (h ++ e ∷ []) (numbered_as (1 + length h) e) ≡ true =
    same (numbered_as (1 + length h) e) ∙ rw (change, fresh) refl in
    live_split h e
    ∙ (ap (λ rs. rs ++ filter (is_live (h ++ e ∷ [])) (numbered_as (1 + length h) e ∷ []))
    (filter_agree (is_live (h ++ e ∷ [])) (is_live h) same (records h))
    ∙ ap (λ b. live h ++ cond b (numbered_as (1 + length h) e ∷ []) []) new)

and_swap : (c r k : Bool) → (c && not (r || k)) ≡ ((c && not r) && not k)
and_swap true true k = refl
and_swap true false true = refl
and_swap true false false = refl
and_swap false r k = refl

-- a Reverse takes its entry out, wherever it stands
pub live_push_reverse : (h : List Entry) (e : Entry) (k : ℕ) → e.command ≡ Reverse k
    → live (h ++ e ∷ []) ≡ without (live h) k
live_push_reverse h e k reverse =
    let same : (r : Record) → is_live (h ++ e ∷ []) r ≡ (is_live h r && not (r.number == k)) = λ r.
    ap (λ b. is_change r.command && not b)
    (reversed_push h e r.number ∙ ap (λ c. is_reversed h r.number || is_reverse_of r.number c) reverse
    ∙ ap (λ b. is_reversed h r.number || b) (eqb_symm k r.number))
    ∙ and_swap (is_change r.command) (is_reversed h r.number) (r.number == k) in
    let none : is_live (h ++ e ∷ []) (numbered_as (1 + length h) e) ≡ false = rw reverse refl in
    live_split h e
    ∙ (ap (λ b. filter (is_live (h ++ e ∷ [])) (records h) ++ cond b (numbered_as (1 + length h) e ∷ []) []) none
    ∙ (append-nil (filter (is_live (h ++ e ∷ [])) (records h))
    ∙ (filter_agree (is_live (h ++ e ∷ [])) (λ r. is_live h r && not (r.number == k)) same (records h)
    ∙ filter_twice (is_live h) (λ r. not (r.number == k)) (records h))))

-- an Initiate or a Decline leaves the live changes
pub live_push_consent : (h : List Entry) (e : Entry) → is_consenting e.command ≡ true → live (h ++ e ∷ []) ≡ live h
live_push_consent h e consent =
    let same : (r : Record) → is_live (h ++ e ∷ []) r ≡ is_live h r = λ r.
    ap (λ b. is_change r.command && not b)
    (reversed_kept h e r.number (consent_is_no_reverse r.number e.command consent)) in
    let none : is_live (h ++ e ∷ []) (numbered_as (1 + length h) e) ≡ false =
    ap (λ b. b && not (is_reversed (h ++ e ∷ []) (1 + length h))) (consent_is_no_change e.command consent) in
    ap (filter (is_live (h ++ e ∷ []))) (numbered_push 1 h e)
    ∙ (filter-append (is_live (h ++ e ∷ [])) (records h) (numbered_as (1 + length h) e ∷ [])
    ∙ (ap (λ rs. rs ++ filter (is_live (h ++ e ∷ [])) (numbered_as (1 + length h) e ∷ []))
    (filter_agree (is_live (h ++ e ∷ [])) (is_live h) same (records h))
    ∙ (ap (λ b. live h ++ cond b (numbered_as (1 + length h) e ∷ []) []) none ∙ append-nil (live h))))

-- ---- numbers

numbers_below : (m : ℕ) (h : List Entry) → All (λ r. r.number < m + length h) (numbered_from m h)
numbers_below m [] = All-nil (λ r. r.number < m + 0)
numbers_below m (e ∷ h) =
    All-cons (λ (r : Record). r.number < m + length (e ∷ h)) (numbered_as m e) (numbered_from (m + 1) h) (omega arith)
    (subst (λ k. All (λ (r : Record). r.number < k) (numbered_from (m + 1) h)) (omega arith) (numbers_below (m + 1) h))

pub live_below : (h : List Entry) → All (λ r. r.number < 1 + length h) (live h)
live_below h = All-filter (is_live h) (λ (r : Record). r.number < 1 + length h) (records h) (numbers_below 1 h)

-- a number above all leaves the list
pub without_none : (k : ℕ) (l : List Record) → All (λ r. r.number < k) l → without l k ≡ l
without_none k [] all = refl
without_none k (r ∷ l) all =
    let low : r.number < k = All-head (λ (r : Record). r.number < k) r l all in
    ap (λ b. cond (not b) (r ∷ without l k) (without l k)) (ne_eqb r.number k (λ e. omega arith))
    ∙ ap (λ rs. r ∷ rs) (without_none k l (All-tail (λ (r : Record). r.number < k) r l all))

pub without_last : (k : ℕ) (l : List Record) (r : Record) → r.number ≡ k → All (λ d. d.number < k) l
    → without (l ++ r ∷ []) k ≡ l
without_last k l r same all =
    filter-append (λ (d : Record). not (d.number == k)) l (r ∷ [])
    ∙ (ap (λ b. without l k ++ cond (not b) (r ∷ []) []) (eq-eqb r.number k same)
    ∙ (append-nil (without l k) ∙ without_none k l all))
