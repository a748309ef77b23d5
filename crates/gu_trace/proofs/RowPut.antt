-- The numbers of firms, of which those of one were put anew.
use Rattle.std.proofs.Common.{◌≡◌, ℕ, Bool, true, false, List, [], ◌∷◌, ◌++◌, refl, sym, ◌∙◌, ap, subst, cond, ◌||◌}
use Rattle.std.proofs.Common.{Option}
use Rattle.std.specs.Prelude.{Some, option_map, unwrap_or, bytes_eq, IsSomeAnd}
use Rattle.std.proofs.lemmas.Slice.Eq.{bytes_eq-Decides}
use Rattle.gu_trace.specs.Index.{ends_with, with_last, filed}
use Rattle.gu_trace.proofs.Indexed.{ends_put}

module _ {V : Type 0} (items : V → List ℕ) where
  abbrev pub numbers : Option V → List ℕ
  numbers o = unwrap_or (option_map items o) []

  -- the row of a firm is this one, and the others are as they were
  abbrev pub IsPut : (List ℕ → Option V) → (List ℕ → Option V) → List ℕ → V → Type 0
  IsPut old new k w = (q : List ℕ) → new q ≡ cond (bytes_eq k q) (Some w) (old q)

  made_by : (old new : List ℕ → Option V) (k q : List ℕ) (w : V) (change : List ℕ → List ℕ) (b : Bool) → bytes_eq k q
      ≡ b → items w ≡ change (numbers (old k)) → new q ≡ cond (bytes_eq k q) (Some w) (old q)
      → numbers (new q) ≡ cond b (change (numbers (old q))) (numbers (old q))
  made_by old new k q w change true is made put =
      ap numbers (put ∙ ap (λ b. cond b (Some w) (old q)) is)
      ∙ (made ∙ ap (λ x. change (numbers (old x))) ((bytes_eq-Decides k q).0 is))
  made_by old new k q w change false is made put = ap numbers (put ∙ ap (λ b. cond b (Some w) (old q)) is)

  -- the numbers there are what this makes of those that were there
  pub made : (old new : List ℕ → Option V) (k : List ℕ) (w : V) (change : List ℕ → List ℕ) → items w
      ≡ change (numbers (old k)) → IsPut old new k w
      → (q : List ℕ) → numbers (new q) ≡ cond (bytes_eq k q) (change (numbers (old q))) (numbers (old q))
  made old new k w change is put q = made_by old new k q w change (bytes_eq k q) refl is (put q)

  either : (b : Bool) (ns : List ℕ) → cond b ns ns ≡ ns
  either true ns = refl
  either false ns = refl

  -- a row with the numbers that were there changes none
  pub same : (old new : List ℕ → Option V) (k : List ℕ) (w : V) → items w ≡ numbers (old k) → IsPut old new k w
      → (q : List ℕ) → numbers (new q) ≡ numbers (old q)
  same old new k w is put q = made old new k w (λ ns. ns) is put q ∙ either (bytes_eq k q) (numbers (old q))

  still_by : (P : V → Type 0) (old new : List ℕ → Option V) (k q : List ℕ) (w : V) (b : Bool) → bytes_eq k q ≡ b
      → (IsSomeAnd (old k) P → P w) → new q ≡ cond (bytes_eq k q) (Some w) (old q)
      → IsSomeAnd (old q) P → IsSomeAnd (new q) P
  still_by P old new k q w true is keeps put was =
      let here : k ≡ q = (bytes_eq-Decides k q).0 is in
      subst (λ o. IsSomeAnd o P) (sym (put ∙ ap (λ b. cond b (Some w) (old q)) is))
      (keeps (subst (λ x. IsSomeAnd (old x) P) (sym here) was))
  still_by P old new k q w false is keeps put was = subst (λ o. IsSomeAnd o P)
      (sym (put ∙ ap (λ b. cond b (Some w) (old q)) is)) was

  -- what holds of a row holds still, if the one that was put keeps it
  pub still : (P : V → Type 0) (old new : List ℕ → Option V) (k : List ℕ) (w : V) → (IsSomeAnd (old k) P → P w)
      → IsPut old new k w → (q : List ℕ) → IsSomeAnd (old q) P → IsSomeAnd (new q) P
  still P old new k w keeps put q was = still_by P old new k q w (bytes_eq k q) refl keeps (put q) was

-- ---- a number that is put once for several firms

last_again : (n : ℕ) (ns : List ℕ) → with_last n (with_last n ns) ≡ with_last n ns
last_again n ns = ap (λ b. cond b (with_last n ns) (with_last n ns ++ n ∷ [])) (ends_put n ns (ends_with n ns) refl)

-- for the one or the other is for the one and then for the other
pub filed_or : (n : ℕ) (a b : Bool) (ns : List ℕ) → filed n b (filed n a ns) ≡ filed n (a || b) ns
filed_or n true true ns = last_again n ns
filed_or n true false ns = refl
filed_or n false b ns = refl
