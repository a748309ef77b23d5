-- A table lacks nothing exactly where it extends the other.
use Rattle.std.proofs.Common.{◌≡◌, ℕ, ◌+◌, Bool, true, false, List, [], ◌∷◌, Option, Some, None, refl, sym, ◌∙◌, ◌++◌}
use Rattle.std.specs.Prelude.{not, ◌&&◌, option_map, bytes_eq, if◌then◌else◌}
use Rattle.std.specs.List.{list_all}
use Rattle.std.specs.Cmp.Lexicographic.{pointwise}
use Rattle.gu_base.specs.House.{House, knows_firm, knows_account, knows_instrument}
use Rattle.gu_base.specs.declared.house.Pair.{Pair}
use Rattle.gu_base.specs.declared.house.Agreement.{Agreement}
use Rattle.gu_lives.specs.Extends.{extends, same_made, keeps_terms}
use Rattle.gu_roll.specs.Lack.{first_apart, first_without, first, lack_of}
use Rattle.gu_roll.specs.declared.lack.Lack.{Lack}
use Rattle.gu_roll.specs.declared.lack.Lack.TheVariants.{OtherHouse, OtherOpening, NoFirm}
use Rattle.gu_roll.specs.declared.lack.Lack.TheVariants.{NoAccount, NoInstrument, OtherTerms, NewTerms}

-- ---- one kind of lack

-- a test of a table, and what it lacks where the test fails
abbrev Tells : Bool → Option Lack → Type 0
Tells true o = o ≡ None
Tells false o = (lack : Lack) × (o ≡ Some lack)

tells_house : (b : Bool) → Tells b (if b then None else Some OtherHouse)
tells_house true = refl
tells_house false = (OtherHouse, refl)

tells_opening : (n : ℕ) (us ts : List (Pair × Agreement))
    → Tells (pointwise same_made us ts) (option_map OtherOpening (first_apart n us ts))
tells_opening n [] [] = refl
tells_opening n [] (t ∷ ts) = (OtherOpening n, refl)
tells_opening n (u ∷ us) [] = (OtherOpening n, refl)
tells_opening n (u ∷ us) (t ∷ ts) = here (same_made u t) (tells_opening (n + 1) us ts)
  where
    here : (b : Bool) → Tells (pointwise same_made us ts) (option_map OtherOpening (first_apart (n + 1) us ts))
        → Tells (b && pointwise same_made us ts)
        (option_map OtherOpening (if b then first_apart (n + 1) us ts else Some n))
    here true later = later
    here false later = (OtherOpening n, refl)

tells_all : {A : Type 0} (test : A → Bool) (f : A → Lack) (xs : List A)
    → Tells (list_all test xs) (option_map f (first_without test xs))
tells_all test f [] = refl
tells_all test f (x ∷ xs) = here (test x) (tells_all test f xs)
  where
    here : (b : Bool) → Tells (list_all test xs) (option_map f (first_without test xs))
        → Tells (b && list_all test xs) (option_map f (if not b then Some x else first_without test xs))
    here true later = later
    here false later = (f x, refl)

-- ---- one behind others

pub no_lack : (lack : Lack) → Some lack ≡ None → ⊥
no_lack lack e = cc

tells_last : (d : Bool) (o : Option Lack) → Tells d o → Tells d (first (o ∷ []))
tells_last d None is = is
tells_last d (Some lack) is = is

-- the first of these and one more
tells_more : (l : List (Option Lack)) (b d : Bool) (o : Option Lack) → Tells b (first l) → Tells d o
    → Tells (b && d) (first (l ++ o ∷ []))
tells_more [] true d o is last = tells_last d o last
tells_more [] false d o is last = absurd (no_lack is.0 (sym is.1))
tells_more (None ∷ l) b d o is last = tells_more l b d o is last
tells_more (Some lack ∷ l) true d o is last = absurd (no_lack lack is)
tells_more (Some lack ∷ l) false d o is last = is

-- ---- the tables

module _ (t u : House) where
  abbrev house : Option Lack
  house = if bytes_eq u.house t.house then None else Some OtherHouse

  abbrev opening : Option Lack
  opening = option_map OtherOpening (first_apart 1 u.opening t.opening)

  abbrev firms : Option Lack
  firms = option_map NoFirm (first_without (knows_firm u) t.firms)

  abbrev accounts : Option Lack
  accounts = option_map NoAccount (first_without (λ a. knows_account u a.firm a.name) t.accounts)

  abbrev instruments : Option Lack
  instruments = option_map NoInstrument (first_without (knows_instrument u) t.instruments)

  abbrev kept : Option Lack
  kept = option_map (λ e. OtherTerms e.0) (first_without (keeps_terms t u) t.agreements)

  abbrev added : Option Lack
  added = option_map (λ e. NewTerms e.0) (first_without (keeps_terms t u) u.agreements)

  tells_tables : Tells (extends t u) (lack_of t u)
  tells_tables =
      let one = tells_more [] true _ house refl (tells_house (bytes_eq u.house t.house)) in
      let two = tells_more (house ∷ []) _ _ opening one (tells_opening 1 u.opening t.opening) in
      let three = tells_more (house ∷ opening ∷ []) _ _ firms two (tells_all (knows_firm u) NoFirm t.firms) in
      let four = tells_more (house ∷ opening ∷ firms ∷ []) _ _ accounts three
      (tells_all (λ a. knows_account u a.firm a.name) NoAccount t.accounts) in
      let five = tells_more (house ∷ opening ∷ firms ∷ accounts ∷ []) _ _ instruments four
      (tells_all (knows_instrument u) NoInstrument t.instruments) in
      let six = tells_more (house ∷ opening ∷ firms ∷ accounts ∷ instruments ∷ []) _ _ kept five
      (tells_all (keeps_terms t u) (λ e. OtherTerms e.0) t.agreements) in
      tells_more (house ∷ opening ∷ firms ∷ accounts ∷ instruments ∷ kept ∷ []) _ _ added six
      (tells_all (keeps_terms t u) (λ e. NewTerms e.0) u.agreements)

  -- it lacks nothing where it extends the other, and only there
  pub lacks_none : lack_of t u ≡ None → extends t u ≡ true
  lacks_none = told (extends t u) (lack_of t u) tells_tables
    where
      told : (b : Bool) (o : Option Lack) → Tells b o → o ≡ None → b ≡ true
      told true o is none = refl
      told false o is none = absurd (no_lack is.0 (sym is.1 ∙ none))

  pub extends_none : extends t u ≡ true → lack_of t u ≡ None
  extends_none = told (extends t u) (lack_of t u) tells_tables
    where
      told : (b : Bool) (o : Option Lack) → Tells b o → b ≡ true → o ≡ None
      told true o is holds = is
      told false o is holds = absurd (cc)
