-- Whose changes have consents, read entry by entry.
use Rattle.std.proofs.Common.{◌≡◌, ℕ, Bool, true, false, not, List, [], ◌∷◌, ◌++◌, ◌||◌, append-nil, refl, sym, ◌∙◌}
use Rattle.std.proofs.Common.{ap, cond}
use Rattle.std.proofs.Math.Seq.{append_snoc}
use Rattle.gu_base.specs.Answers.{is_empty}
use Rattle.gu_base.specs.Consents.{consents_of, is_initiate_of, is_decline_of}
use Rattle.gu_base.specs.declared.entry.Entry.{Entry}
use Rattle.gu_base.proofs.Consenting.{consents_push}
use Rattle.gu_roll.specs.Losing.{has_consents}

-- whether there are consents behind one more entry
abbrev pub consented_by : ℕ → Bool → Entry → Bool
consented_by n had e = cond (is_decline_of n e.command) false (had || is_initiate_of n e.command)

-- and behind more of them
abbrev pub consented_after : ℕ → Bool → List Entry → Bool
consented_after n had [] = had
consented_after n had (e ∷ rest) = consented_after n (consented_by n had e) rest

-- a firm more makes a list that isn't empty
one_more : (declines initiates : Bool) (firms : List (List ℕ)) (firm : List ℕ)
    → cond declines false (not (is_empty firms) || initiates)
    ≡ not (is_empty (cond declines [] (firms ++ cond initiates (firm ∷ []) [])))
one_more true initiates firms firm = refl
one_more false true [] firm = refl
one_more false false [] firm = refl
one_more false initiates (f ∷ firms) firm = refl

step_told : (n : ℕ) (before : List Entry) (e : Entry)
    → consented_by n (has_consents before n) e ≡ has_consents (before ++ e ∷ []) n
step_told n before e =
    one_more (is_decline_of n e.command) (is_initiate_of n e.command) (consents_of before n) e.firm
    ∙ ap (λ (l : List (List ℕ)). not (is_empty l)) (sym (consents_push before e n))

rest_told : (n : ℕ) (before rest : List Entry) (had : Bool) → had ≡ has_consents before n
    → consented_after n had rest ≡ has_consents (before ++ rest) n
rest_told n before [] had is = is ∙ ap (λ h. has_consents h n) (sym (append-nil before))
rest_told n before (e ∷ rest) had is =
    rest_told n (before ++ e ∷ []) rest (consented_by n had e)
    (ap (λ b. consented_by n b e) is ∙ step_told n before e)
    ∙ ap (λ h. has_consents h n) (append_snoc before e rest)

pub consented_told : (n : ℕ) (h : List Entry) → consented_after n false h ≡ has_consents h n
consented_told n h = rest_told n [] h false refl
