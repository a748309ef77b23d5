-- What is filed by the numbers of entries, each above those before it.
use Rattle.std.specs.Prelude.{◌≡◌, ℕ, ◌==◌, not, refl, if◌then◌else◌, Option, Some, None, IfSome}
use Rattle.std.specs.Prelude.{IfNone, List, [], ◌∷◌, ◌++◌, filter}
use Rattle.std.specs.Map.{lookup, remove_entry}
use Rattle.std.specs.Coded.{Coded, code_by, coded×, coded_ℕ, coded_list, coded_option}
use Rattle.gu_sums.specs.declared.filing.Filed.{Filed}

-- each thing with its number, in their order, and the last number that was filed, 0 where there is
-- none
pub record Contents (T : Type 0) : Type 0 where
  pub kept : List (ℕ × T)
  pub last : ℕ

-- each number with its thing or its mark, what is filed, and how many more take no memory
pub record FilingView (T : Type 0) : Type 0 where
  pub all : List (Filed T)
  pub filed : Contents T
  pub room : ℕ

abbrev pub contents_code : {T : Type 0} → Coded T → Coded (Contents T)
contents_code {T} c =
    code_by (List (ℕ × T) × ℕ) (coded× (coded_list (coded× coded_ℕ c)) coded_ℕ)
    (λ v. (v.kept, v.last)) (λ p. record { kept = p.0; last = p.1 }) (λ _. refl)

abbrev pub filed_code : {T : Type 0} → Coded T → Coded (Filed T)
filed_code {T} c =
    code_by (ℕ × Option T) (coded× coded_ℕ (coded_option c))
    (λ v. (v.number, v.kept)) (λ p. record { number = p.0; kept = p.1 }) (λ _. refl)

abbrev pub filing_code : {T : Type 0} → Coded T → Coded (FilingView T)
filing_code {T} c =
    code_by (List (Filed T) × (Contents T × ℕ))
    (coded× (coded_list (filed_code c)) (coded× (contents_code c) coded_ℕ))
    (λ v. (v.all, (v.filed, v.room)))
    (λ p. record { all = p.0; filed = p.1.0; room = p.1.1 }) (λ _. refl)

-- what is filed under a number
abbrev pub kept_at : {T : Type 0} → Contents T → ℕ → Option T
kept_at c n = lookup (λ k. k == n) c.kept

-- the last number that was filed
abbrev pub last_of : {T : Type 0} → Contents T → ℕ
last_of c = c.last

-- what is left where the thing of a number is taken out
abbrev pub without : {T : Type 0} → ℕ → List (ℕ × T) → List (ℕ × T)
without n kept = filter (λ k. not (k.0 == n)) kept

-- a thing is filed after all others
pub record IsFiled {T : Type 0} (old new : Contents T) (number : ℕ) (thing : T) : Type 0 where
  pub kept : new.kept ≡ old.kept ++ (number, thing) ∷ []
  pub last : last_of new ≡ number
  pub none : kept_at old number ≡ None
  pub at : (n : ℕ) → kept_at new n ≡ (if number == n then Some thing else kept_at old n)

-- what is filed under a number is taken out, if there is something
pub record IsTakenOut {T : Type 0} (old new : Contents T) (number : ℕ) : Type 0 where
  pub kept : new.kept ≡ without number old.kept
  pub last : last_of new ≡ last_of old
  pub at : (n : ℕ) → kept_at new n ≡ (if number == n then None else kept_at old n)
  pub removed : IfSome (kept_at old number) (λ thing. new.kept
      ≡ remove_entry (λ n. n == number) old.kept)
  pub none : IfNone (kept_at old number) (new ≡ old)
