-- A step over a line does what the definition of the table says of that line.
use Rattle.std.proofs.Common.{◌≡◌, ℕ, Bool, true, false, List, [], ◌∷◌, ◌++◌, Option, Some, None, Result, Ok, Err, refl}
use Rattle.std.proofs.Common.{sym, ◌∙◌}
use Rattle.std.specs.Prelude.{bytes_eq, codes, IsOk}
use Rattle.std.specs.List.{filter_map}
use Rattle.std.proofs.lemmas.List.{append-nil}
use Rattle.std.proofs.lemmas.List.Elements.{filter_map-append}
use Rattle.std.proofs.lemmas.Slice.Eq.{bytes_eq-Decides}
use Rattle.gu_base.specs.House.{House}
use Rattle.gu_parties.specs.Table.{table_of, firm_of, account_of, instrument_of, agreement_of}
use Rattle.gu_parties.specs.Causes.{cause_of}
use Rattle.gu_parties.specs.Steps.{add_line, unless_caused}
use Rattle.gu_parties.specs.declared.fault.Cause.{Cause}

-- the table with what a line names
abbrev pub with_line : House → List (List ℕ) → House
with_line t ws = record {
  house = t.house;
  firms = t.firms ++ filter_map firm_of (ws ∷ []);
  accounts = t.accounts ++ filter_map account_of (ws ∷ []);
  instruments = t.instruments ++ filter_map instrument_of (ws ∷ []);
  agreements = t.agreements ++ filter_map agreement_of (ws ∷ []);
  opening = t.opening;
}

no_instrument : (kind : List ℕ) → bytes_eq kind (codes "FIRM") ≡ true → bytes_eq kind (codes "INSTRUMENT") ≡ false
no_instrument kind e = let same : kind ≡ codes "FIRM" = (bytes_eq-Decides kind (codes "FIRM")).0 e in rw same refl

of_two : (t : House) (kind name : List ℕ)
    → add_line t (kind ∷ name ∷ []) ≡ unless_caused (cause_of t (kind ∷ name ∷ [])) (with_line t (kind ∷ name ∷ []))
of_two t kind name = by (bytes_eq kind (codes "FIRM")) refl (bytes_eq kind (codes "INSTRUMENT")) refl
  where
    by : (f : Bool) → bytes_eq kind (codes "FIRM") ≡ f → (i : Bool) → bytes_eq kind (codes "INSTRUMENT") ≡ i
        → add_line t (kind ∷ name ∷ []) ≡ unless_caused (cause_of t (kind ∷ name ∷ [])) (with_line t (kind ∷ name ∷ []))
    by true f _ _ = rw (f, no_instrument kind f) (simp append-nil)
    by false f true i = rw (f, i) (simp append-nil)
    by false f false i = rw (f, i) refl

of_three : (t : House) (kind firm account : List ℕ)
    → add_line t (kind ∷ firm ∷ account ∷ [])
    ≡ unless_caused (cause_of t (kind ∷ firm ∷ account ∷ [])) (with_line t (kind ∷ firm ∷ account ∷ []))
of_three t kind firm account = by (bytes_eq kind (codes "ACCOUNT")) refl
  where
    by : (a : Bool) → bytes_eq kind (codes "ACCOUNT") ≡ a
        → add_line t (kind ∷ firm ∷ account ∷ [])
        ≡ unless_caused (cause_of t (kind ∷ firm ∷ account ∷ [])) (with_line t (kind ∷ firm ∷ account ∷ []))
    by true a = rw a (simp append-nil)
    by false a = rw a refl

of_five : (t : House) (kind giver taker rate limit : List ℕ)
    → add_line t (kind ∷ giver ∷ taker ∷ rate ∷ limit ∷ [])
    ≡ unless_caused (cause_of t (kind ∷ giver ∷ taker ∷ rate ∷ limit ∷ []))
    (with_line t (kind ∷ giver ∷ taker ∷ rate ∷ limit ∷ []))
of_five t kind giver taker rate limit = by (bytes_eq kind (codes "AGREEMENT")) refl
  where
    by : (a : Bool) → bytes_eq kind (codes "AGREEMENT") ≡ a
        → add_line t (kind ∷ giver ∷ taker ∷ rate ∷ limit ∷ [])
        ≡ unless_caused (cause_of t (kind ∷ giver ∷ taker ∷ rate ∷ limit ∷ []))
        (with_line t (kind ∷ giver ∷ taker ∷ rate ∷ limit ∷ []))
    by true a = rw a (simp append-nil)
    by false a = rw a refl

stated : (t : House) (ws : List (List ℕ)) → add_line t ws ≡ unless_caused (cause_of t ws) (with_line t ws)
stated t [] = refl
stated t (kind ∷ []) = refl
stated t (kind ∷ name ∷ []) = of_two t kind name
stated t (kind ∷ firm ∷ account ∷ []) = of_three t kind firm account
stated t (kind ∷ _ ∷ _ ∷ _ ∷ []) = refl
stated t (kind ∷ giver ∷ taker ∷ rate ∷ limit ∷ []) = of_five t kind giver taker rate limit
stated t (kind ∷ _ ∷ _ ∷ _ ∷ _ ∷ _ ∷ more) = refl

-- a line that was added has no cause
pub added : (t u : House) (ws : List (List ℕ)) → add_line t ws ≡ Ok u → (cause_of t ws ≡ None) × (with_line t ws ≡ u)
added t u ws h = by (cause_of t ws) refl
  where
    by : (c : Option Cause) → cause_of t ws ≡ c → (cause_of t ws ≡ None) × (with_line t ws ≡ u)
    by None c = let same : Ok (with_line t ws) ≡ Ok u = sym (stated t ws ∙ rw c refl) ∙ h in (c, cc)
    by (Some e) c = let no : Err e ≡ Ok u = sym (stated t ws ∙ rw c refl) ∙ h in cc

-- a line that was refused has this cause
pub refused : (t : House) (e : Cause) (ws : List (List ℕ)) → add_line t ws ≡ Err e → cause_of t ws ≡ Some e
refused t e ws h = by (cause_of t ws) refl
  where
    by : (c : Option Cause) → cause_of t ws ≡ c → cause_of t ws ≡ Some e
    by None c = let no : Ok (with_line t ws) ≡ Err e = sym (stated t ws ∙ rw c refl) ∙ h in cc
    by (Some d) c = let found : add_line t ws ≡ Err d = stated t ws ∙ rw c refl in cc

-- a line that could have been added has no cause
pub addable : (t : House) (ws : List (List ℕ)) → IsOk (add_line t ws) → cause_of t ws ≡ None
addable t ws h = by (add_line t ws) refl
  where
    by : (r : Result House Cause) → add_line t ws ≡ r → cause_of t ws ≡ None
    by (Ok u) r = (added t u ws r).0
    by (Err e) r = let no : false ≡ true = rw r at h in cc

-- one line more
pub table_more : (house : List ℕ) (done : List (List (List ℕ))) (ws : List (List ℕ))
    → table_of house (done ++ ws ∷ []) ≡ with_line (table_of house done) ws
table_more house done ws =
    rw (
      filter_map-append firm_of done (ws ∷ []),
      filter_map-append account_of done (ws ∷ []),
      filter_map-append instrument_of done (ws ∷ []),
      filter_map-append agreement_of done (ws ∷ []),
    )
    refl
