-- What one more entry does to the consents that are left.
use Rattle.std.proofs.Common.{◌≡◌, ℕ, ◌+◌, ◌-◌, Bool, true, false, not, ◌||◌, List, [], ◌∷◌, ◌++◌, length, drop, refl}
use Rattle.std.proofs.Common.{sym, ◌∙◌, ap, arith, cond, append-nil, length-append}
use Rattle.std.specs.Prelude.{None, find, filter, map, ◌==◌}
use Rattle.std.specs.List.{prefix_len, suffix_len, after_last}
use Rattle.std.proofs.lemmas.Bool.Decides.{Decides-eqb}
use Rattle.std.proofs.lemmas.List.{reverse-append, drop-append-le, drop_all, map-append}
use Rattle.std.proofs.lemmas.List.Elements.{filter-append}
use Rattle.std.proofs.lemmas.List.Sums.{suffix_len-le-length}
use Rattle.gu_base.specs.History.{numbered_as, numbered_from, is_change, is_reverse_of, is_reversed}
use Rattle.gu_base.specs.Consents.{consents_of, consents_left, is_initiate_of, is_decline_of}
use Rattle.gu_base.specs.declared.command.Command.{Command}
use Rattle.gu_base.specs.declared.command.Command.TheVariants.{Trade, Split, Claim, Refuse, Cancel, Agree, Raise}
use Rattle.gu_base.specs.declared.command.Command.TheVariants.{Initiate, Decline, Reverse}
use Rattle.gu_base.specs.declared.entry.Entry.{Entry}
use Rattle.gu_base.proofs.Basics.{or_false, nothing_here, eqb_symm}
use Rattle.gu_base.proofs.LiveLaws.{reversed_push}

-- ---- what stands after the last

last_step : {X : Type 0} (p : X → Bool) (xs : List X) (x : X) (b : Bool) → p x ≡ b
    → drop (length (xs ++ x ∷ []) - cond (not (p x)) (1 + suffix_len (λ y. not (p y)) xs) 0) (xs ++ x ∷ [])
    ≡ cond b [] (after_last p xs ++ x ∷ [])
last_step p xs x true here =
    ap (λ b. drop (length (xs ++ x ∷ []) - cond (not b) (1 + suffix_len (λ y. not (p y)) xs) 0) (xs ++ x ∷ [])) here
    ∙ drop_all (length (xs ++ x ∷ []) - 0) (xs ++ x ∷ []) (omega arith)
last_step {X} p xs x false here =
    let longer = length-append xs (x ∷ []) in
    let few = suffix_len-le-length (λ (y : X). not (p y)) xs in
    let same : length (xs ++ x ∷ []) - (1 + suffix_len (λ y. not (p y)) xs)
    ≡ length xs - suffix_len (λ y. not (p y)) xs =
    omega (arith, longer) in
    ap (λ b. drop (length (xs ++ x ∷ []) - cond (not b) (1 + suffix_len (λ y. not (p y)) xs) 0) (xs ++ x ∷ [])) here
    ∙ (ap (λ n. drop n (xs ++ x ∷ [])) same
    ∙ drop-append-le (length xs - suffix_len (λ y. not (p y)) xs) xs (x ∷ []) (omega arith))

pub after_last_push : {X : Type 0} (p : X → Bool) (xs : List X) (x : X)
    → after_last p (xs ++ x ∷ []) ≡ cond (p x) [] (after_last p xs ++ x ∷ [])
after_last_push p xs x =
    ap (λ ys. drop (length (xs ++ x ∷ []) - prefix_len (λ y. not (p y)) ys) (xs ++ x ∷ [])) (reverse-append xs (x ∷ []))
    ∙ last_step p xs x (p x) refl

-- ---- consents

one_firm : (c : Bool) (e : Entry) → map (λ (d : Entry). d.firm) (cond c (e ∷ []) []) ≡ cond c (e.firm ∷ []) []
one_firm true e = refl
one_firm false e = refl

firms_push : (q : Entry → Bool) (xs : List Entry) (e : Entry) (b : Bool)
    → map (λ d. d.firm) (filter q (cond b [] (xs ++ e ∷ [])))
    ≡ cond b [] (map (λ d. d.firm) (filter q xs) ++ cond (q e) (e.firm ∷ []) [])
firms_push q xs e true = refl
firms_push q xs e false =
    ap (map (λ (d : Entry). d.firm)) (filter-append q xs (e ∷ []))
    ∙ (map-append (λ (d : Entry). d.firm) (filter q xs) (cond (q e) (e ∷ []) [])
    ∙ ap (λ fs. map (λ (d : Entry). d.firm) (filter q xs) ++ fs) (one_firm (q e) e))

pub consents_push : (h : List Entry) (e : Entry) (n : ℕ)
    → consents_of (h ++ e ∷ []) n
    ≡ cond (is_decline_of n e.command) [] (consents_of h n ++ cond (is_initiate_of n e.command) (e.firm ∷ []) [])
consents_push h e n =
    ap (λ xs. map (λ (d : Entry). d.firm) (filter (λ d. is_initiate_of n d.command) xs))
    (after_last_push (λ d. is_decline_of n d.command) h e)
    ∙ firms_push (λ d. is_initiate_of n d.command) (after_last (λ d. is_decline_of n d.command) h) e
    (is_decline_of n e.command)

-- what is left, by what the new command names
abbrev pub left_by : Bool → Bool → Bool → Bool → List (List ℕ) → List ℕ → List (List ℕ)
left_by reversed reverses declines initiates consents firm =
    cond (reversed || reverses) [] (cond declines [] (consents ++ cond initiates (firm ∷ []) []))

pub left_push : (h : List Entry) (e : Entry) (n : ℕ)
    → consents_left (h ++ e ∷ []) n
    ≡ left_by (is_reversed h n) (is_reverse_of n e.command) (is_decline_of n e.command) (is_initiate_of n e.command)
    (consents_of h n) e.firm
left_push h e n =
    ap (λ b. cond b [] (consents_of (h ++ e ∷ []) n)) (reversed_push h e n)
    ∙ ap (λ cs. cond (is_reversed h n || is_reverse_of n e.command) [] cs) (consents_push h e n)

-- the same, where the new command is this one
left_named : (h : List Entry) (e : Entry) (n : ℕ) (c : Command) → e.command ≡ c
    → left_by (is_reversed h n) (is_reverse_of n c) (is_decline_of n c) (is_initiate_of n c) (consents_of h n) e.firm
    ≡ consents_left (h ++ e ∷ []) n
left_named h e n c same =
    ap (λ c.
    left_by (is_reversed h n) (is_reverse_of n c) (is_decline_of n c) (is_initiate_of n c) (consents_of h n) e.firm)
    (sym same)
    ∙ sym (left_push h e n)

-- what a command leaves that gives no consent: nothing where it declines or reverses the change, else what was there
given_none : (reversed reverses declines : Bool) (cs : List (List ℕ)) (firm : List ℕ)
    → cond (reverses || declines) [] (cond reversed [] cs) ≡ left_by reversed reverses declines false cs firm
given_none true true declines cs firm = refl
given_none true false true cs firm = refl
given_none true false false cs firm = refl
given_none false true declines cs firm = refl
given_none false false true cs firm = refl
given_none false false false cs firm = sym (append-nil cs)

left_given_none : (h : List Entry) (e : Entry) (n : ℕ) (b : Bool) (c : Command) → e.command ≡ c
    → b ≡ (is_reverse_of n c || is_decline_of n c) → is_initiate_of n c ≡ false
    → cond b [] (consents_left h n) ≡ consents_left (h ++ e ∷ []) n
left_given_none h e n b c same named gives =
    ap (λ a. cond a [] (consents_left h n)) named
    ∙ (given_none (is_reversed h n) (is_reverse_of n c) (is_decline_of n c) (consents_of h n) e.firm
    ∙ (ap (λ a. left_by (is_reversed h n) (is_reverse_of n c) (is_decline_of n c) a (consents_of h n) e.firm)
    (sym gives)
    ∙ left_named h e n c same))

pub left_change : (h : List Entry) (e : Entry) (n : ℕ) (c : Command) → e.command ≡ c → is_change c ≡ true
    → consents_left h n ≡ consents_left (h ++ e ∷ []) n
left_change h e n (Trade _ _ _ _ _) same is = left_given_none h e n false _ same refl refl
left_change h e n (Split _ _) same is = left_given_none h e n false _ same refl refl
left_change h e n (Claim _ _) same is = left_given_none h e n false _ same refl refl
left_change h e n (Refuse _) same is = left_given_none h e n false _ same refl refl
left_change h e n (Cancel _) same is = left_given_none h e n false _ same refl refl
left_change h e n (Agree _ _ _ _) same is = left_given_none h e n false _ same refl refl
left_change h e n (Raise _ _) same is = left_given_none h e n false _ same refl refl
left_change h e n (Initiate _) same is = absurd (cc)
left_change h e n (Decline _) same is = absurd (cc)
left_change h e n (Reverse _) same is = absurd (cc)

given_more : (reversed same : Bool) (cs : List (List ℕ)) (firm : List ℕ) → (same ≡ true → reversed ≡ false)
    → cond same (cond reversed [] cs ++ firm ∷ []) (cond reversed [] cs) ≡ left_by reversed false false same cs firm
given_more true true cs firm h = absurd (let e = h refl in cc)
given_more true false cs firm h = refl
given_more false true cs firm h = refl
given_more false false cs firm h = sym (append-nil cs)

pub left_initiate : (h : List Entry) (e : Entry) (k n : ℕ) → e.command ≡ Initiate k → is_reversed h k ≡ false
    → cond (n == k) (consents_left h n ++ e.firm ∷ []) (consents_left h n) ≡ consents_left (h ++ e ∷ []) n
left_initiate h e k n same unnamed =
    given_more (is_reversed h n) (n == k) (consents_of h n) e.firm
    (λ at. ap (is_reversed h) ((Decides-eqb n k).0 at) ∙ unnamed)
    ∙ (ap (λ b. left_by (is_reversed h n) false false b (consents_of h n) e.firm) (eqb_symm n k)
    ∙ left_named h e n _ same)

pub left_decline : (h : List Entry) (e : Entry) (k n : ℕ) → e.command ≡ Decline k
    → cond (n == k) [] (consents_left h n) ≡ consents_left (h ++ e ∷ []) n
left_decline h e k n same = left_given_none h e n (n == k) (Decline k) same (eqb_symm n k) refl

pub left_reverse : (h : List Entry) (e : Entry) (k n : ℕ) → e.command ≡ Reverse k
    → cond (n == k) [] (consents_left h n) ≡ consents_left (h ++ e ∷ []) n
left_reverse h e k n same =
    left_given_none h e n (n == k) (Reverse k) same (eqb_symm n k ∙ sym (or_false (k == n))) refl

-- ---- a change that no Reverse names

pub not_reversed : (n m : ℕ) (h : List Entry) → find (λ r. is_reverse_of n r.command) (numbered_from m h) ≡ None
    → is_reversed h n ≡ false
not_reversed n m [] e = refl
not_reversed n m (d ∷ h) e =
    let p = nothing_here (is_reverse_of n d.command) (numbered_as m d)
    (find (λ r. is_reverse_of n r.command) (numbered_from (m + 1) h)) e in
    ap (λ b. b || is_reversed h n) p.0 ∙ not_reversed n (m + 1) h p.1

pub left_open : (h : List Entry) (n : ℕ) → is_reversed h n ≡ false → consents_left h n ≡ consents_of h n
left_open h n unnamed = ap (λ b. cond b [] (consents_of h n)) unnamed
