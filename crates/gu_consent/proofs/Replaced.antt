-- The firms that a look-up finds where the value of one key was replaced.
use Rattle.std.proofs.Common.{◌≡◌, ◌==◌, ◌∙◌, ℕ, Bool, true, false, List, [], refl, sym, ap, cond, if◌then◌else◌}
use Rattle.std.specs.Prelude.{Option, Some, option_map, unwrap_or}
use Rattle.std.proofs.lemmas.Bool.{eqb-true}
use Rattle.gu_base.proofs.Basics.{eqb_symm}

module _ {V : Type 0} (items : V → List (List ℕ)) where
  abbrev pub firms : Option V → List (List ℕ)
  firms o = unwrap_or (option_map items o) []

  chosen : (b : Bool) (w old : Option V) → firms (cond b w old) ≡ (if b then firms w else firms old)
  chosen true w old = refl
  chosen false w old = refl

  -- the key is asked for either way round
  pub replaced : (k n : ℕ) (w old new : Option V) → new ≡ cond (k == n) w old
      → firms new ≡ (if n == k then firms w else firms old)
  replaced k n w old new is = ap firms is ∙ (ap (λ b. firms (cond b w old)) (eqb_symm k n) ∙ chosen (n == k) w old)

  module _ (k : ℕ) (old new : ℕ → Option V) (w : V) (change : List (List ℕ) → List (List ℕ))
      (made : items w ≡ change (firms (old k))) where
    at_key : (n : ℕ) (b : Bool) → (n == k) ≡ b
        → (if b then items w else firms (old n)) ≡ (if b then change (firms (old n)) else firms (old n))
    at_key n true e = made ∙ ap (λ m. change (firms (old m))) (sym (eqb-true n k e))
    at_key n false e = refl

    -- the value is what this makes of the firms that stood there
    pub changed : ((n : ℕ) → new n ≡ cond (k == n) (Some w) (old n)) → (n : ℕ)
        → firms (new n) ≡ (if n == k then change (firms (old n)) else firms (old n))
    changed is n = replaced k n (Some w) (old n) (new n) (is n) ∙ at_key n (n == k) refl

pub same_either : {A : Type 0} (b : Bool) (x : A) → (if b then x else x) ≡ x
same_either true x = refl
same_either false x = refl
