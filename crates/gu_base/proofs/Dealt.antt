-- Dealings of a giver and a taker, each of which fits behind those before it.
use Rattle.std.proofs.Common.{◌≡◌, ℕ, ◌+◌, ◌<◌, ◌≤◌, Bool, true, false, not, ◌&&◌, List, [], ◌∷◌, ◌++◌, refl, sym, ◌∙◌}
use Rattle.std.proofs.Common.{ap, subst, arith, cond, Option, append_assoc, append-nil, leb-true, le-leb}
use Rattle.std.specs.Prelude.{Some, None, is_none, is_some, sum_by, option_map, option_and_then, nat_le, nat_lt, find}
use Rattle.std.specs.Option.{option_or}
use Rattle.std.proofs.lemmas.Bool.{and_parts, leb-false, lt-ltb, le-ltb}
use Rattle.std.proofs.lemmas.List.Sums.{sum_by-cons, sum_by-append, sum_by_push}
use Rattle.std.proofs.lemmas.Option.{same_Some}
use Rattle.gu_base.specs.Limits.{highest_limit}
use Rattle.gu_base.specs.Terms.{is_making, made_by_deed, raised_by_deed, used_by_deed, made_in, terms_under}
use Rattle.gu_base.specs.Terms.{raised_under, limit_under, used_under}
use Rattle.gu_base.specs.Dealt.{first_over, first_under_terms}
use Rattle.gu_base.specs.declared.house.Agreement.{Agreement}
use Rattle.gu_base.specs.declared.house.Deed.{Deed}
use Rattle.gu_base.specs.declared.house.Deed.TheVariants.{Makes, Raises, Uses}
use Rattle.gu_base.specs.declared.house.Dealing.{Dealing}

abbrev pub may_raise : ℕ → Option ℕ → Bool
may_raise lots None = false
may_raise lots (Some limit) = nat_le 1 lots && nat_le (limit + lots) highest_limit

abbrev pub may_use : ℕ → Option ℕ → Bool
may_use lots None = false
may_use lots (Some limit) = nat_le lots limit

-- whether a deed fits behind these: terms are made where there are none, a limit is raised by a lot or more and no
-- further than limits may be, and no more is used than the limit
abbrev pub fits : Option Agreement → List Dealing → Deed → Bool
fits file ds (Makes a) = is_none (terms_under file ds)
fits file ds (Raises lots) = may_raise lots (limit_under file ds)
fits file ds (Uses lots) = may_use (used_under ds + lots) (limit_under file ds)

-- each of these fits behind those before it
abbrev pub AllFit : Option Agreement → List Dealing → List Dealing → Type 0
AllFit file before [] = Unit {0}
AllFit file before (d ∷ rest) = (fits file before d.deed ≡ true) × AllFit file (before ++ d ∷ []) rest

-- the first that doesn't
abbrev pub first_unfit : Option Agreement → List Dealing → List Dealing → Option ℕ
first_unfit file before [] = None
first_unfit file before (d ∷ rest) =
    cond (fits file before d.deed) (first_unfit file (before ++ d ∷ []) rest) (Some d.number)

-- ---- sums and terms of more dealings

-- of options
or_assoc : {A : Type 0} (a b c : Option A) → option_or a (option_or b c) ≡ option_or (option_or a b) c
or_assoc None b c = refl
or_assoc (Some x) b c = refl

made_append : (xs ys : List Dealing) → made_in (xs ++ ys) ≡ option_or (made_in xs) (made_in ys)
made_append [] ys = refl
made_append (x ∷ xs) ys =
    ap (option_or (made_by_deed x.deed)) (made_append xs ys) ∙ or_assoc (made_by_deed x.deed) (made_in xs) (made_in ys)

-- the terms of more
pub terms_append : (file : Option Agreement) (xs ys : List Dealing)
    → terms_under file (xs ++ ys) ≡ option_or (terms_under file xs) (made_in ys)
terms_append file xs ys = ap (option_or file) (made_append xs ys) ∙ or_assoc file (made_in xs) (made_in ys)

or_none : {A : Type 0} (o : Option A) → option_or o None ≡ o
or_none None = refl
or_none (Some x) = refl

terms_push : (file : Option Agreement) (xs : List Dealing) (d : Dealing)
    → terms_under file (xs ++ d ∷ []) ≡ option_or (terms_under file xs) (made_by_deed d.deed)
terms_push file xs d =
    terms_append file xs (d ∷ []) ∙ ap (option_or (terms_under file xs)) (or_none (made_by_deed d.deed))

-- terms that are there stay
pub terms_stay : (file : Option Agreement) (xs ys : List Dealing) (a : Agreement) → terms_under file xs ≡ Some a
    → terms_under file (xs ++ ys) ≡ Some a
terms_stay file xs ys a e = terms_append file xs ys ∙ ap (λ o. option_or o (made_in ys)) e

-- the raises of one more
raised_push : (xs : List Dealing) (d : Dealing) → raised_under (xs ++ d ∷ []) ≡ raised_under xs + raised_by_deed d.deed
raised_push xs d = sum_by_push (λ d. raised_by_deed d.deed) xs d

used_push : (xs : List Dealing) (d : Dealing) → used_under (xs ++ d ∷ []) ≡ used_under xs + used_by_deed d.deed
used_push xs d = sum_by_push (λ d. used_by_deed d.deed) xs d

-- ---- what holds of dealings that all fit

pub record IsSound (file : Option Agreement) (ds : List Dealing) : Type 0 where
  pub none : terms_under file ds ≡ None → ds ≡ []
  pub used : (a : Agreement) → terms_under file ds ≡ Some a → used_under ds ≤ a.limit + raised_under ds
  pub high : (a : Agreement) → terms_under file ds ≡ Some a → 1 ≤ raised_under ds
      → a.limit + raised_under ds ≤ highest_limit

sound_none : (file : Option Agreement) → IsSound file []
sound_none file =
    record { none = λ e. refl; used = λ a e. omega arith; high = λ a e more. absurd (omega (arith, more)) }

-- with terms
record WithTerms (file : Option Agreement) (ds : List Dealing) (a : Agreement) : Type 0 where
  used : used_under ds ≤ a.limit + raised_under ds
  high : 1 ≤ raised_under ds → a.limit + raised_under ds ≤ highest_limit

sound_with : (file : Option Agreement) (ds : List Dealing) (a : Agreement) → terms_under file ds ≡ Some a
    → WithTerms file ds a → IsSound file ds
sound_with file ds a e w = record {
  none = λ none. absurd (cc);
  used = λ b f.
      let one : a.limit ≡ b.limit = ap (λ (z : Agreement). z.limit) (same_Some a b (sym e ∙ f)) in
      omega (arith, one, w.used);
  high = λ b f more.
      let one : a.limit ≡ b.limit = ap (λ (z : Agreement). z.limit) (same_Some a b (sym e ∙ f)) in
      omega (arith, one, w.high more);
}

-- one more, by what it does
sound_by : (file : Option Agreement) (ds : List Dealing) (d : Dealing) → IsSound file ds → (o : Option Agreement)
    → terms_under file ds ≡ o → (e : Deed) → d.deed ≡ e → fits file ds e ≡ true → IsSound file (ds ++ d ∷ [])
sound_by file ds d s None none (Makes a) is fit =
    let empty = s.none none in
    let r = raised_push ds d in
    let u = used_push ds d in
    let no_raise : raised_by_deed d.deed ≡ 0 = ap raised_by_deed is in
    let no_use : used_by_deed d.deed ≡ 0 = ap used_by_deed is in
    let r0 : raised_under ds ≡ 0 = ap raised_under empty in
    let u0 : used_under ds ≡ 0 = ap used_under empty in
    sound_with file (ds ++ d ∷ []) a
    (terms_push file ds d ∙ (ap (λ o. option_or o (made_by_deed d.deed)) none ∙ ap made_by_deed is)) (record {
      used = omega (arith, u, no_use, u0);
      high = λ more. absurd (omega (arith, r, no_raise, r0, more));
    })
sound_by file ds d s (Some b) some (Makes a) is fit = absurd (let e : false ≡ true = sym (ap is_none some) ∙ fit in cc)
sound_by file ds d s None none (Raises lots) is fit =
    absurd (let e : false ≡ true =
    sym (ap (λ o. may_raise lots (option_map (λ (a : Agreement). a.limit + raised_under ds) o)) none) ∙ fit in
    cc)
sound_by file ds d s (Some a) some (Raises lots) is fit =
    let may : (nat_le 1 lots && nat_le (a.limit + raised_under ds + lots) highest_limit) ≡ true =
    sym (ap (λ o. may_raise lots (option_map (λ (a : Agreement). a.limit + raised_under ds) o)) some) ∙ fit in
    let high : a.limit + raised_under ds + lots ≤ highest_limit = leb-true _ _ (and_parts _ _ may).1 in
    let low = s.used a some in
    let r = raised_push ds d in
    let u = used_push ds d in
    let raise : raised_by_deed d.deed ≡ lots = ap raised_by_deed is in
    let no_use : used_by_deed d.deed ≡ 0 = ap used_by_deed is in
    sound_with file (ds ++ d ∷ []) a (terms_stay file ds (d ∷ []) a some) (record {
      used = omega (arith, u, r, raise, no_use, low);
      high = λ more. omega (arith, r, raise, high);
    })
sound_by file ds d s None none (Uses lots) is fit =
    absurd (let e : false ≡ true =
    sym (ap (λ o. may_use (used_under ds + lots) (option_map (λ (a : Agreement). a.limit + raised_under ds) o)) none)
    ∙ fit in
    cc)
sound_by file ds d s (Some a) some (Uses lots) is fit =
    let may : nat_le (used_under ds + lots) (a.limit + raised_under ds) ≡ true =
    sym (ap (λ o. may_use (used_under ds + lots) (option_map (λ (a : Agreement). a.limit + raised_under ds) o)) some)
    ∙ fit in
    let low : used_under ds + lots ≤ a.limit + raised_under ds = leb-true _ _ may in
    let r = raised_push ds d in
    let u = used_push ds d in
    let no_raise : raised_by_deed d.deed ≡ 0 = ap raised_by_deed is in
    let uses : used_by_deed d.deed ≡ lots = ap used_by_deed is in
    let old = s.high a some in
    sound_with file (ds ++ d ∷ []) a (terms_stay file ds (d ∷ []) a some) (record {
      used = omega (arith, u, r, uses, no_raise, low);
      high = λ more. let high = old (omega (arith, r, no_raise, more)) in omega (arith, r, no_raise, high);
    })

-- one more that fits, and any number
pub sound_push : (file : Option Agreement) (ds : List Dealing) (d : Dealing) → IsSound file ds
    → fits file ds d.deed ≡ true → IsSound file (ds ++ d ∷ [])
sound_push file ds d s fit = sound_by file ds d s (terms_under file ds) refl d.deed refl fit

sound_along : (file : Option Agreement) (ds rest : List Dealing) → IsSound file ds → AllFit file ds rest
    → IsSound file (ds ++ rest)
sound_along file ds [] s all = subst (IsSound file) (sym (append-nil ds)) s
sound_along file ds (d ∷ rest) s all =
    subst (IsSound file) (append_assoc ds (d ∷ []) rest)
    (sound_along file (ds ++ d ∷ []) rest (sound_push file ds d s all.0) all.1)

pub all_sound : (file : Option Agreement) (ds : List Dealing) → AllFit file [] ds → IsSound file ds
all_sound file ds all = sound_along file [] ds (sound_none file) all

-- ---- cutting and joining

-- a front of them fits, and what is behind it
pub fit_front : (file : Option Agreement) (ds xs ys : List Dealing) → AllFit file ds (xs ++ ys) → AllFit file ds xs
fit_front file ds [] ys all = tt
fit_front file ds (x ∷ xs) ys all = (all.0, fit_front file (ds ++ x ∷ []) xs ys all.1)

pub fit_behind : (file : Option Agreement) (ds xs ys : List Dealing) → AllFit file ds (xs ++ ys)
    → AllFit file (ds ++ xs) ys
fit_behind file ds [] ys all = subst (λ z. AllFit file z ys) (sym (append-nil ds)) all
fit_behind file ds (x ∷ xs) ys all =
    subst (λ z. AllFit file z ys) (append_assoc ds (x ∷ []) xs) (fit_behind file (ds ++ x ∷ []) xs ys all.1)

pub fit_append : (file : Option Agreement) (ds xs ys : List Dealing) → AllFit file ds xs → AllFit file (ds ++ xs) ys
    → AllFit file ds (xs ++ ys)
fit_append file ds [] ys front behind = subst (λ z. AllFit file z ys) (append-nil ds) behind
fit_append file ds (x ∷ xs) ys front behind = (
  front.0,
  fit_append file (ds ++ x ∷ []) xs ys front.1
      (subst (λ z. AllFit file z ys) (sym (append_assoc ds (x ∷ []) xs)) behind),
)

unfit_at : (file : Option Agreement) (ds : List Dealing) (d : Dealing) (rest : List Dealing)
    → (first_unfit file (ds ++ d ∷ []) rest ≡ None → AllFit file (ds ++ d ∷ []) rest) → (b : Bool)
    → fits file ds d.deed ≡ b → cond b (first_unfit file (ds ++ d ∷ []) rest) (Some d.number) ≡ None
    → AllFit file ds (d ∷ rest)
unfit_at file ds d rest later true fit h = (fit, later h)
unfit_at file ds d rest later false fit h = absurd (cc)

-- where none doesn't fit, all fit, and the other way round
pub none_unfit : (file : Option Agreement) (ds rest : List Dealing) → first_unfit file ds rest ≡ None
    → AllFit file ds rest
none_unfit file ds [] h = tt
none_unfit file ds (d ∷ rest) h =
    unfit_at file ds d rest (none_unfit file (ds ++ d ∷ []) rest) (fits file ds d.deed) refl h

pub unfit_none : (file : Option Agreement) (ds rest : List Dealing) → AllFit file ds rest
    → first_unfit file ds rest ≡ None
unfit_none file ds [] all = refl
unfit_none file ds (d ∷ rest) all =
    ap (λ b. cond b (first_unfit file (ds ++ d ∷ []) rest) (Some d.number)) all.0
    ∙ unfit_none file (ds ++ d ∷ []) rest all.1

-- those that fit are passed over
unfit_past : (file : Option Agreement) (ds xs ys : List Dealing) → AllFit file ds xs
    → first_unfit file ds (xs ++ ys) ≡ first_unfit file (ds ++ xs) ys
unfit_past file ds [] ys all = ap (λ z. first_unfit file z ys) (sym (append-nil ds))
unfit_past file ds (x ∷ xs) ys all =
    ap (λ b. cond b (first_unfit file (ds ++ x ∷ []) (xs ++ ys)) (Some x.number)) all.0
    ∙ (unfit_past file (ds ++ x ∷ []) xs ys all.1 ∙ ap (λ z. first_unfit file z ys) (append_assoc ds (x ∷ []) xs))

-- the first that doesn't fit, with what stands before and behind it
pub record UnfitCut (file : Option Agreement) (ds rest : List Dealing) (n : ℕ) : Type 0 where
  pub before : List Dealing
  pub deal : Dealing
  pub behind : List Dealing
  pub is : rest ≡ before ++ deal ∷ behind
  pub fit : AllFit file ds before
  pub unfit : fits file (ds ++ before) deal.deed ≡ false
  pub number : deal.number ≡ n

cut_at_unfit : (file : Option Agreement) (ds : List Dealing) (d : Dealing) (rest : List Dealing) (n : ℕ)
    → (first_unfit file (ds ++ d ∷ []) rest ≡ Some n → UnfitCut file (ds ++ d ∷ []) rest n) → (b : Bool)
    → fits file ds d.deed ≡ b → cond b (first_unfit file (ds ++ d ∷ []) rest) (Some d.number) ≡ Some n
    → UnfitCut file ds (d ∷ rest) n
cut_at_unfit file ds d rest n later true fit h =
    let c = later h in
    record {
      before = d ∷ c.before;
      deal = c.deal;
      behind = c.behind;
      is = ap (λ z. d ∷ z) c.is;
      fit = (fit, c.fit);
      unfit = subst (λ z. fits file z c.deal.deed ≡ false) (append_assoc ds (d ∷ []) c.before) c.unfit;
      number = c.number;
    }
cut_at_unfit file ds d rest n later false fit h =
    record {
      before = [];
      deal = d;
      behind = rest;
      is = refl;
      fit = tt;
      unfit = subst (λ z. fits file z d.deed ≡ false) (sym (append-nil ds)) fit;
      number = same_Some d.number n h;
    }

pub unfit_cut : (file : Option Agreement) (ds rest : List Dealing) (n : ℕ) → first_unfit file ds rest ≡ Some n
    → UnfitCut file ds rest n
unfit_cut file ds [] n h = absurd (cc)
unfit_cut file ds (d ∷ rest) n h =
    cut_at_unfit file ds d rest n (unfit_cut file (ds ++ d ∷ []) rest n) (fits file ds d.deed) refl h

-- ---- the same behind fewer uses

-- the second list has the terms and the raises of the first, and uses no more
record UsesLess (file : Option Agreement) (x y : List Dealing) : Type 0 where
  terms : terms_under file y ≡ terms_under file x
  raised : raised_under y ≡ raised_under x
  used : used_under y ≤ used_under x

-- one more behind both
less_push : (file : Option Agreement) (x y : List Dealing) (d : Dealing) → UsesLess file x y
    → UsesLess file (x ++ d ∷ []) (y ++ d ∷ [])
less_push file x y d less =
    let rx = raised_push x d in
    let ry = raised_push y d in
    let ux = used_push x d in
    let uy = used_push y d in
    record {
      terms =
          terms_push file y d ∙ (ap (λ o. option_or o (made_by_deed d.deed)) less.terms ∙ sym (terms_push file x d));
      raised = omega (arith, rx, ry, less.raised);
      used = omega (arith, ux, uy, less.used);
    }

limit_less : (file : Option Agreement) (x y : List Dealing) → UsesLess file x y
    → limit_under file y ≡ limit_under file x
limit_less file x y less =
    ap (λ r. option_map (λ (a : Agreement). a.limit + r) (terms_under file y)) less.raised
    ∙ ap (option_map (λ (a : Agreement). a.limit + raised_under x)) less.terms

use_less : (old new lots : ℕ) (o : Option ℕ) → new ≤ old → may_use (old + lots) o ≡ true → may_use (new + lots) o ≡ true
use_less old new lots None less h = h
use_less old new lots (Some limit) less h =
    le-leb (new + lots) limit (let low : old + lots ≤ limit = leb-true _ _ h in omega (arith, low, less))

-- what fits behind the first fits behind the second
fits_less : (file : Option Agreement) (x y : List Dealing) (e : Deed) → UsesLess file x y → fits file x e ≡ true
    → fits file y e ≡ true
fits_less file x y (Makes a) less fit = ap is_none less.terms ∙ fit
fits_less file x y (Raises lots) less fit = ap (may_raise lots) (limit_less file x y less) ∙ fit
fits_less file x y (Uses lots) less fit =
    ap (may_use (used_under y + lots)) (limit_less file x y less)
    ∙ use_less (used_under x) (used_under y) lots (limit_under file x) less.used fit

all_fit_less : (file : Option Agreement) (x y rest : List Dealing) → UsesLess file x y → AllFit file x rest
    → AllFit file y rest
all_fit_less file x y [] less all = tt
all_fit_less file x y (d ∷ rest) less all = (
  fits_less file x y d.deed less all.0,
  all_fit_less file (x ++ d ∷ []) (y ++ d ∷ []) rest (less_push file x y d less) all.1,
)

-- ---- one of them left out

-- one of them, and those behind it
cut_fit : (file : Option Agreement) (xs : List Dealing) (k : Dealing) (ys : List Dealing)
    → AllFit file [] (xs ++ k ∷ ys) → fits file xs k.deed ≡ true
cut_fit file xs k ys all = (fit_behind file [] xs (k ∷ ys) all).0

cut_rest : (file : Option Agreement) (xs : List Dealing) (k : Dealing) (ys : List Dealing)
    → AllFit file [] (xs ++ k ∷ ys) → AllFit file (xs ++ k ∷ []) ys
cut_rest file xs k ys all = (fit_behind file [] xs (k ∷ ys) all).1

-- without a Claim all others fit
pub fit_without_use : (file : Option Agreement) (xs : List Dealing) (k : Dealing) (ys : List Dealing) (lots : ℕ)
    → k.deed ≡ Uses lots → AllFit file [] (xs ++ k ∷ ys) → AllFit file [] (xs ++ ys)
fit_without_use file xs k ys lots is all =
    let no_terms : made_by_deed k.deed ≡ None = ap made_by_deed is in
    let no_raise : raised_by_deed k.deed ≡ 0 = ap raised_by_deed is in
    let r = raised_push xs k in
    let u = used_push xs k in
    fit_append file [] xs ys (fit_front file [] xs (k ∷ ys) all) (all_fit_less file (xs ++ k ∷ []) xs ys (record {
      terms =
          sym (terms_push file xs k ∙ (ap (option_or (terms_under file xs)) no_terms ∙ or_none (terms_under file xs)));
      raised = omega (arith, r, no_raise);
      used = omega (arith, u);
    }) (cut_rest file xs k ys all))

-- ---- without a Raise, the first that doesn't fit is the first that passes the limit

-- the second list has the terms and the uses of the first, and a raise less
record RaisesLess (file : Option Agreement) (x y : List Dealing) (a : Agreement) (lots : ℕ) : Type 0 where
  old : terms_under file x ≡ Some a
  new : terms_under file y ≡ Some a
  raised : raised_under x ≡ raised_under y + lots
  used : used_under y ≡ used_under x
  within : used_under y ≤ a.limit + raised_under y

-- a use within the limit doesn't pass it
over_false : (limit used : ℕ) → used ≤ limit → nat_lt limit used ≡ false
over_false limit used low = le-ltb limit used low

limit_at : (file : Option Agreement) (a : Agreement) (x : List Dealing) → terms_under file x ≡ Some a
    → limit_under file x ≡ Some (a.limit + raised_under x)
limit_at file a x e = ap (option_map (λ (a : Agreement). a.limit + raised_under x)) e

-- the rest of the walk, from the sums before this deal and from those behind it
first_over_at : (limit : ℕ) (y : List Dealing) (d : Dealing) (rest : List Dealing)
    → first_over (limit + raised_under (y ++ d ∷ [])) (used_under (y ++ d ∷ [])) rest
    ≡ first_over (limit + raised_under y + raised_by_deed d.deed) (used_under y + used_by_deed d.deed) rest
first_over_at limit y d rest =
    let r = raised_push y d in
    let r2 : limit + raised_under (y ++ d ∷ []) ≡ limit + raised_under y + raised_by_deed d.deed = omega (arith, r) in
    ap (λ n. first_over n (used_under (y ++ d ∷ [])) rest) r2
    ∙ ap (λ n. first_over (limit + raised_under y + raised_by_deed d.deed) n rest) (used_push y d)

module _ (file : Option Agreement) (a : Agreement) (lots : ℕ) where
  -- ---- one step of the walk

  raise_push : (x y : List Dealing) (d : Dealing) → RaisesLess file x y a lots
      → used_under (y ++ d ∷ []) ≤ a.limit + raised_under (y ++ d ∷ [])
      → RaisesLess file (x ++ d ∷ []) (y ++ d ∷ []) a lots
  raise_push x y d less within =
      let rx = raised_push x d in
      let ry = raised_push y d in
      let ux = used_push x d in
      let uy = used_push y d in
      record {
        old = terms_stay file x (d ∷ []) a less.old;
        new = terms_stay file y (d ∷ []) a less.new;
        raised = omega (arith, rx, ry, less.raised);
        used = omega (arith, ux, uy, less.used);
        within = within;
      }

  -- a deal that fits the one, and fits or passes the limit of the other
  over_step : (x y : List Dealing) (d : Dealing) (rest : List Dealing) → RaisesLess file x y a lots
      → (RaisesLess file (x ++ d ∷ []) (y ++ d ∷ []) a lots
      → first_unfit file (y ++ d ∷ []) rest
      ≡ first_over (a.limit + raised_under (y ++ d ∷ [])) (used_under (y ++ d ∷ [])) rest)
      → (e : Deed) → d.deed ≡ e → fits file x e ≡ true
      → cond (fits file y e) (first_unfit file (y ++ d ∷ []) rest) (Some d.number)
      ≡ cond (nat_lt (a.limit + raised_under y + raised_by_deed e) (used_under y + used_by_deed e)) (Some d.number)
      (first_over (a.limit + raised_under y + raised_by_deed d.deed) (used_under y + used_by_deed d.deed) rest)
  -- no terms are made twice
  over_step x y d rest less later (Makes b) is fit =
      absurd (let e : false ≡ true = sym (ap is_none less.old) ∙ fit in cc)
  -- a Raise fits both
  over_step x y d rest less later (Raises more) is fit =
      let may : (nat_le 1 more && nat_le (a.limit + raised_under x + more) highest_limit) ≡ true =
      sym (ap (may_raise more) (limit_at file a x less.old)) ∙ fit in
      let parts = and_parts _ _ may in
      let high : a.limit + raised_under x + more ≤ highest_limit = leb-true _ _ parts.1 in
      let so : nat_le (a.limit + raised_under y + more) highest_limit ≡ true =
      le-leb _ _ (omega (arith, high, less.raised)) in
      let fit_y : fits file y (Raises more) ≡ true = ap (may_raise more) (limit_at file a y less.new)
      ∙ (ap (λ b. b && nat_le (a.limit + raised_under y + more) highest_limit) parts.0 ∙ so) in
      let r = raised_push y d in
      let u = used_push y d in
      let raise : raised_by_deed d.deed ≡ more = ap raised_by_deed is in
      let none : used_by_deed d.deed ≡ 0 = ap used_by_deed is in
      let not_over = over_false (a.limit + raised_under y + more) (used_under y + 0) (omega (arith, less.within)) in
      ap (λ b. cond b (first_unfit file (y ++ d ∷ []) rest) (Some d.number)) fit_y
      ∙ (later (raise_push x y d less (omega (arith, r, u, raise, none, less.within)))
      ∙ (first_over_at a.limit y d rest
      ∙ sym (ap (λ b.
      cond b (Some d.number)
      (first_over (a.limit + raised_under y + raised_by_deed d.deed) (used_under y + used_by_deed d.deed) rest))
      not_over)))
  -- a Claim fits both, or passes the limit of the second
  over_step x y d rest less later (Uses more) is fit =
      use_step x y d rest less later more is (nat_le (used_under y + more) (a.limit + raised_under y)) refl
    where
      use_step : (x y : List Dealing) (d : Dealing) (rest : List Dealing) → RaisesLess file x y a lots
          → (RaisesLess file (x ++ d ∷ []) (y ++ d ∷ []) a lots
          → first_unfit file (y ++ d ∷ []) rest
          ≡ first_over (a.limit + raised_under (y ++ d ∷ [])) (used_under (y ++ d ∷ [])) rest)
          → (more : ℕ) → d.deed ≡ Uses more → (b : Bool) → nat_le (used_under y + more) (a.limit + raised_under y) ≡ b
          → cond (fits file y (Uses more)) (first_unfit file (y ++ d ∷ []) rest) (Some d.number)
          ≡ cond (nat_lt (a.limit + raised_under y + 0) (used_under y + more)) (Some d.number)
          (first_over (a.limit + raised_under y + raised_by_deed d.deed) (used_under y + used_by_deed d.deed) rest)
      use_step x y d rest less later more is true within =
          let low : used_under y + more ≤ a.limit + raised_under y = leb-true _ _ within in
          let fit_y : fits file y (Uses more) ≡ true =
          ap (may_use (used_under y + more)) (limit_at file a y less.new) ∙ within in
          let r = raised_push y d in
          let u = used_push y d in
          let none : raised_by_deed d.deed ≡ 0 = ap raised_by_deed is in
          let uses : used_by_deed d.deed ≡ more = ap used_by_deed is in
          let not_over = over_false (a.limit + raised_under y + 0) (used_under y + more) (omega (arith, low)) in
          ap (λ b. cond b (first_unfit file (y ++ d ∷ []) rest) (Some d.number)) fit_y
          ∙ (later (raise_push x y d less (omega (arith, r, u, none, uses, low)))
          ∙ (first_over_at a.limit y d rest
          ∙ sym (ap (λ b.
          cond b (Some d.number)
          (first_over (a.limit + raised_under y + raised_by_deed d.deed) (used_under y + used_by_deed d.deed) rest))
          not_over)))
      use_step x y d rest less later more is false over =
          let unfit_y : fits file y (Uses more) ≡ false =
          ap (may_use (used_under y + more)) (limit_at file a y less.new) ∙ over in
          let high : a.limit + raised_under y < used_under y + more = leb-false _ _ over in
          let is_over : nat_lt (a.limit + raised_under y + 0) (used_under y + more) ≡ true =
          lt-ltb _ _ (omega (arith, high)) in
          ap (λ b. cond b (first_unfit file (y ++ d ∷ []) rest) (Some d.number)) unfit_y
          ∙ sym (ap (λ b.
          cond b (Some d.number)
          (first_over (a.limit + raised_under y + raised_by_deed d.deed) (used_under y + used_by_deed d.deed) rest))
          is_over)

  -- ---- the whole walk

  over_walk : (x y rest : List Dealing) → RaisesLess file x y a lots → AllFit file x rest
      → first_unfit file y rest ≡ first_over (a.limit + raised_under y) (used_under y) rest
  over_walk x y [] less all = refl
  over_walk x y (d ∷ rest) less all =
      over_step x y d rest less (λ more. over_walk (x ++ d ∷ []) (y ++ d ∷ []) rest more all.1) d.deed refl all.0

-- the walk over dealings that fit passes nothing
module _ (file : Option Agreement) (a : Agreement) where
  -- terms that are there at the end are there after the first deal
  fit_terms_by : (ds : List Dealing) (d : Dealing) (rest : List Dealing) → IsSound file (ds ++ d ∷ [])
      → terms_under file (ds ++ (d ∷ rest)) ≡ Some a → (o : Option Agreement) → terms_under file (ds ++ d ∷ []) ≡ o
      → terms_under file (ds ++ d ∷ []) ≡ Some a
  fit_terms_by ds d rest s end None none = absurd (not_nil ds d (s.none none))
    where
      not_nil : (ds : List Dealing) (d : Dealing) → ds ++ d ∷ [] ≡ [] → ⊥
      not_nil [] d e = cc
      not_nil (c ∷ ds) d e = cc
  fit_terms_by ds d rest s end (Some b) some =
      let more : terms_under file (ds ++ (d ∷ rest)) ≡ Some b = subst (λ z. terms_under file z ≡ Some b)
      (append_assoc ds (d ∷ []) rest) (terms_stay file (ds ++ d ∷ []) rest b some) in
      some ∙ (sym more ∙ end)

  -- each of them stays within the limit
  over_past : (ds rest tail : List Dealing) → IsSound file ds → AllFit file ds rest
      → terms_under file (ds ++ rest) ≡ Some a
      → first_over (a.limit + raised_under ds) (used_under ds) (rest ++ tail)
      ≡ first_over (a.limit + raised_under (ds ++ rest)) (used_under (ds ++ rest)) tail
  over_past ds [] tail s all end =
      ap (λ z. first_over (a.limit + raised_under z) (used_under z) tail) (sym (append-nil ds))
  over_past ds (d ∷ rest) tail s all end =
      let more = sound_push file ds d s all.0 in
      let terms = fit_terms_by ds d rest more end (terms_under file (ds ++ d ∷ [])) refl in
      let low = more.used a terms in
      let r = raised_push ds d in
      let u = used_push ds d in
      let not_over = over_false (a.limit + raised_under ds + raised_by_deed d.deed)
      (used_under ds + used_by_deed d.deed) (omega (arith, low, r, u)) in
      ap (λ b.
      cond b (Some d.number)
      (first_over (a.limit + raised_under ds + raised_by_deed d.deed) (used_under ds + used_by_deed d.deed)
      (rest ++ tail)))
      not_over
      ∙ (sym (first_over_at a.limit ds d (rest ++ tail))
      ∙ (over_past (ds ++ d ∷ []) rest tail more all.1
      (subst (λ z. terms_under file z ≡ Some a) (sym (append_assoc ds (d ∷ []) rest)) end)
      ∙ ap (λ z. first_over (a.limit + raised_under z) (used_under z) tail) (append_assoc ds (d ∷ []) rest)))

-- a Raise that fits has terms
raise_terms : (file : Option Agreement) (xs : List Dealing) (lots : ℕ) → (o : Option Agreement)
    → terms_under file xs ≡ o → fits file xs (Raises lots) ≡ true → (a : Agreement) × (terms_under file xs ≡ Some a)
raise_terms file xs lots None e fit =
    absurd (let f : false ≡ true =
    sym (ap (λ o. may_raise lots (option_map (λ (a : Agreement). a.limit + raised_under xs) o)) e) ∙ fit in
    cc)
raise_terms file xs lots (Some a) e fit = (a, e)

-- without a Raise, the first that doesn't fit is the first that passes the limit
pub unfit_without_raise : (file : Option Agreement) (xs : List Dealing) (k : Dealing) (ys : List Dealing) (lots : ℕ)
    → k.deed ≡ Raises lots → AllFit file [] (xs ++ k ∷ ys)
    → first_unfit file [] (xs ++ ys)
    ≡ option_and_then (λ a. first_over a.limit 0 (xs ++ ys)) (terms_under file (xs ++ k ∷ ys))
unfit_without_raise file xs k ys lots is all =
    let front = fit_front file [] xs (k ∷ ys) all in
    let there = raise_terms file xs lots (terms_under file xs) refl
    (subst (λ e. fits file xs e ≡ true) is (cut_fit file xs k ys all)) in
    let a = there.0 in
    let sound = all_sound file xs front in
    let r = raised_push xs k in
    let u = used_push xs k in
    let raise : raised_by_deed k.deed ≡ lots = ap raised_by_deed is in
    let none : used_by_deed k.deed ≡ 0 = ap used_by_deed is in
    let less : RaisesLess file (xs ++ k ∷ []) xs a lots = record {
      old = terms_stay file xs (k ∷ []) a there.1;
      new = there.1;
      raised = omega (arith, r, raise);
      used = omega (arith, u, none);
      within = sound.used a there.1;
    } in
    let start : a.limit + raised_under [] ≡ a.limit = omega arith in
    unfit_past file [] xs ys front
    ∙ (over_walk file a lots (xs ++ k ∷ []) xs ys less (cut_rest file xs k ys all)
    ∙ (sym (over_past file a [] xs ys (sound_none file) front there.1)
    ∙ (ap (λ n. first_over n 0 (xs ++ ys)) start
    ∙ sym (ap (option_and_then (λ (a : Agreement). first_over a.limit 0 (xs ++ ys)))
    (terms_stay file xs (k ∷ ys) a there.1)))))

-- ---- without an Agree, the first that doesn't fit is the first Raise or Claim

-- an Agree stands before all others
pub made_first : (file : Option Agreement) (xs : List Dealing) (k : Dealing) (ys : List Dealing) (a : Agreement)
    → k.deed ≡ Makes a → AllFit file [] (xs ++ k ∷ ys) → (xs ≡ []) × (file ≡ None)
made_first file xs k ys a is all =
    let front = all_sound file xs (fit_front file [] xs (k ∷ ys) all) in
    let fit : is_none (terms_under file xs) ≡ true = subst (λ e. fits file xs e ≡ true) is (cut_fit file xs k ys all) in
    let none = none_of_is (terms_under file xs) fit in
    (front.none none, file_none file xs none)
  where
    -- without terms the house table has none
    none_of_is : (o : Option Agreement) → is_none o ≡ true → o ≡ None
    none_of_is None e = refl
    none_of_is (Some a) e = absurd (cc)

    file_none : (file : Option Agreement) (xs : List Dealing) → terms_under file xs ≡ None → file ≡ None
    file_none None xs e = refl
    file_none (Some a) xs e = absurd (cc)

makes_first : (k : Dealing) (ys : List Dealing) (a : Agreement) → k.deed ≡ Makes a
    → first_under_terms (k ∷ ys) ≡ first_under_terms ys
makes_first k ys a is =
    ap (λ e.
    option_map (λ (d : Dealing). d.number)
    (cond (not (is_some (made_by_deed e))) (Some k) (find (λ d. not (is_making d)) ys)))
    is

-- the first that doesn't fit is then the first under its terms
first_without : (k : Dealing) (ys : List Dealing) (a : Agreement) → k.deed ≡ Makes a → AllFit None (k ∷ []) ys
    → first_unfit None [] ys ≡ first_under_terms ys
first_without k [] a is all = refl
first_without k (y ∷ ys) a is all = by_deed y.deed refl all.0
  where
    terms_of_first : terms_under None (k ∷ []) ≡ Some a
    terms_of_first = ap (λ e. option_or (made_by_deed e) None) is

    by_deed : (e : Deed) → y.deed ≡ e → fits None (k ∷ []) e ≡ true
        → first_unfit None [] (y ∷ ys) ≡ first_under_terms (y ∷ ys)
    by_deed (Makes b) here fit = absurd (let f : false ≡ true = sym (ap is_none terms_of_first) ∙ fit in cc)
    by_deed (Raises lots) here fit =
        ap (λ e. cond (fits None [] e) (first_unfit None (y ∷ []) ys) (Some y.number)) here
        ∙ sym (ap (λ e.
        option_map (λ (d : Dealing). d.number)
        (cond (not (is_some (made_by_deed e))) (Some y) (find (λ d. not (is_making d)) ys)))
        here)
    by_deed (Uses lots) here fit =
        ap (λ e. cond (fits None [] e) (first_unfit None (y ∷ []) ys) (Some y.number)) here
        ∙ sym (ap (λ e.
        option_map (λ (d : Dealing). d.number)
        (cond (not (is_some (made_by_deed e))) (Some y) (find (λ d. not (is_making d)) ys)))
        here)

-- so it is the first of those behind the Agree
pub unfit_without_terms : (file : Option Agreement) (xs : List Dealing) (k : Dealing) (ys : List Dealing)
    (a : Agreement) → k.deed ≡ Makes a → AllFit file [] (xs ++ k ∷ ys)
    → first_unfit file [] (xs ++ ys) ≡ first_under_terms (xs ++ k ∷ ys)
unfit_without_terms file xs k ys a is all =
    let p = made_first file xs k ys a is all in
    let behind : AllFit None (k ∷ []) ys =
    subst (λ f. AllFit f (k ∷ []) ys) p.1 (subst (λ z. AllFit file (z ++ k ∷ []) ys) p.0 (cut_rest file xs k ys all)) in
    ap (λ z. first_unfit file [] (z ++ ys)) p.0
    ∙ (ap (λ f. first_unfit f [] ys) p.1
    ∙ (first_without k ys a is behind
    ∙ (sym (makes_first k ys a is) ∙ sym (ap (λ z. first_under_terms (z ++ k ∷ ys)) p.0))))

-- ---- one that may be left out may stand last

-- an Agree that may go has nothing behind it
nothing_behind : (k : Dealing) (ys : List Dealing) (a : Agreement) → k.deed ≡ Makes a → AllFit None (k ∷ []) ys
    → AllFit None [] ys → ys ≡ []
nothing_behind k [] a is all less = refl
nothing_behind k (y ∷ ys) a is all less = absurd (by_deed y.deed all.0 less.0)
  where
    terms_of_first : terms_under None (k ∷ []) ≡ Some a
    terms_of_first = ap (λ e. option_or (made_by_deed e) None) is

    by_deed : (e : Deed) → fits None (k ∷ []) e ≡ true → fits None [] e ≡ true → ⊥
    by_deed (Makes b) fit free = let f : false ≡ true = sym (ap is_none terms_of_first) ∙ fit in cc
    by_deed (Raises lots) fit free = cc
    by_deed (Uses lots) fit free = cc

-- terms and sums without one that makes no terms
terms_skip : (file : Option Agreement) (xs : List Dealing) (k : Dealing) (ys : List Dealing)
    → made_by_deed k.deed ≡ None → terms_under file (xs ++ ys) ≡ terms_under file (xs ++ k ∷ ys)
terms_skip file xs k ys none =
    terms_append file xs ys
    ∙ (ap (λ o. option_or (terms_under file xs) (option_or o (made_in ys))) (sym none)
    ∙ sym (terms_append file xs (k ∷ ys)))

sum_skip : (f : Deed → ℕ) (xs : List Dealing) (k : Dealing) (ys : List Dealing)
    → sum_by (λ d. f d.deed) (xs ++ k ∷ ys) ≡ sum_by (λ d. f d.deed) (xs ++ ys) + f k.deed
sum_skip f xs k ys =
    let a = sum_by-append (λ (d : Dealing). f d.deed) xs (k ∷ ys) in
    let b = sum_by-append (λ (d : Dealing). f d.deed) xs ys in
    let c = sum_by-cons (λ (d : Dealing). f d.deed) k ys in
    omega (arith, a, b, c)

module _ (file : Option Agreement) (xs : List Dealing) (k : Dealing) (ys : List Dealing)
    (all : AllFit file [] (xs ++ k ∷ ys)) (less : AllFit file [] (xs ++ ys)) where
  -- a Raise may stand last, a Claim, and an Agree
  last_raise : (lots : ℕ) → k.deed ≡ Raises lots → fits file (xs ++ ys) (Raises lots) ≡ true
  last_raise lots is =
      let fit = subst (λ e. fits file xs e ≡ true) is (cut_fit file xs k ys all) in
      let there = raise_terms file xs lots (terms_under file xs) refl fit in
      let a = there.0 in
      let may : (nat_le 1 lots && nat_le (a.limit + raised_under xs + lots) highest_limit) ≡ true =
      sym (ap (λ o. may_raise lots (option_map (λ (a : Agreement). a.limit + raised_under xs) o)) there.1) ∙ fit in
      let some : 1 ≤ lots = leb-true _ _ (and_parts _ _ may).0 in
      let whole = terms_stay file xs (k ∷ ys) a there.1 in
      let left = terms_stay file xs ys a there.1 in
      let raise : raised_by_deed k.deed ≡ lots = ap raised_by_deed is in
      let r = sum_skip raised_by_deed xs k ys in
      let high = (all_sound file (xs ++ k ∷ ys) all).high a whole (omega (arith, r, raise, some)) in
      ap (λ o. may_raise lots (option_map (λ (a : Agreement). a.limit + raised_under (xs ++ ys)) o)) left
      ∙ (ap (λ b. b && nat_le (a.limit + raised_under (xs ++ ys) + lots) highest_limit) (and_parts _ _ may).0
      ∙ le-leb _ _ (omega (arith, high, r, raise)))

  last_use : (lots : ℕ) → k.deed ≡ Uses lots → (o : Option Agreement) → terms_under file xs ≡ o
      → fits file (xs ++ ys) (Uses lots) ≡ true
  last_use lots is None e =
      absurd (let f : false ≡ true =
      sym (ap (λ o. may_use (used_under xs + lots) (option_map (λ (a : Agreement). a.limit + raised_under xs) o)) e)
      ∙ subst (λ e. fits file xs e ≡ true) is (cut_fit file xs k ys all) in
      cc)
  last_use lots is (Some a) e =
      let whole = terms_stay file xs (k ∷ ys) a e in
      let left = terms_stay file xs ys a e in
      let r = sum_skip raised_by_deed xs k ys in
      let u = sum_skip used_by_deed xs k ys in
      let raise : raised_by_deed k.deed ≡ 0 = ap raised_by_deed is in
      let uses : used_by_deed k.deed ≡ lots = ap used_by_deed is in
      let low = (all_sound file (xs ++ k ∷ ys) all).used a whole in
      ap (λ o.
      may_use (used_under (xs ++ ys) + lots) (option_map (λ (a : Agreement). a.limit + raised_under (xs ++ ys)) o))
      left
      ∙ le-leb _ _ (omega (arith, low, r, u, raise, uses))

  made_alone : (a : Agreement) → k.deed ≡ Makes a → (xs ≡ []) × ((file ≡ None) × (ys ≡ []))
  made_alone a is =
      let p = made_first file xs k ys a is all in
      let behind : AllFit None (k ∷ []) ys = subst (λ f. AllFit f (k ∷ []) ys) p.1
      (subst (λ z. AllFit file (z ++ k ∷ []) ys) p.0 (cut_rest file xs k ys all)) in
      let free : AllFit None [] ys = subst (λ f. AllFit f [] ys) p.1 (subst (λ z. AllFit file [] (z ++ ys)) p.0 less) in
      (p.0, (p.1, nothing_behind k ys a is behind free))

  fit_last_by : (e : Deed) → k.deed ≡ e → fits file (xs ++ ys) e ≡ true
  fit_last_by (Makes a) is =
      let p = made_alone a is in
      ap (λ z. is_none (terms_under file (z ++ ys))) p.0
      ∙ (ap (λ z. is_none (terms_under file z)) p.1.1 ∙ ap (λ f. is_none (option_or f None)) p.1.0)
  fit_last_by (Raises lots) is = last_raise lots is
  fit_last_by (Uses lots) is = last_use lots is (terms_under file xs) refl

  -- it fits behind the others
  pub fit_last : AllFit file [] ((xs ++ ys) ++ k ∷ [])
  fit_last = fit_append file [] (xs ++ ys) (k ∷ []) less (fit_last_by k.deed refl, tt)

  terms_last_by : (e : Deed) → k.deed ≡ e → terms_under file ((xs ++ ys) ++ k ∷ []) ≡ terms_under file (xs ++ k ∷ ys)
  terms_last_by (Makes a) is =
      let p = made_alone a is in
      ap (λ z. terms_under file ((z ++ ys) ++ k ∷ [])) p.0 ∙ (ap (λ z. terms_under file (z ++ k ∷ [])) p.1.1
      ∙ (sym (ap (λ z. terms_under file (k ∷ z)) p.1.1) ∙ sym (ap (λ z. terms_under file (z ++ k ∷ ys)) p.0)))
  terms_last_by (Raises lots) is =
      terms_push file (xs ++ ys) k
      ∙ (ap (option_or (terms_under file (xs ++ ys))) (ap made_by_deed is)
      ∙ (or_none (terms_under file (xs ++ ys)) ∙ terms_skip file xs k ys (ap made_by_deed is)))
  terms_last_by (Uses lots) is =
      terms_push file (xs ++ ys) k
      ∙ (ap (option_or (terms_under file (xs ++ ys))) (ap made_by_deed is)
      ∙ (or_none (terms_under file (xs ++ ys)) ∙ terms_skip file xs k ys (ap made_by_deed is)))

  -- and the terms, the raises and the uses are the same
  pub terms_last : terms_under file ((xs ++ ys) ++ k ∷ []) ≡ terms_under file (xs ++ k ∷ ys)
  terms_last = terms_last_by k.deed refl

-- sums do not depend on the order
pub raised_last : (xs : List Dealing) (k : Dealing) (ys : List Dealing)
    → raised_under ((xs ++ ys) ++ k ∷ []) ≡ raised_under (xs ++ k ∷ ys)
raised_last xs k ys = let a = sum_skip raised_by_deed xs k ys in let b = raised_push (xs ++ ys) k in omega (arith, a, b)

pub used_last : (xs : List Dealing) (k : Dealing) (ys : List Dealing)
    → used_under ((xs ++ ys) ++ k ∷ []) ≡ used_under (xs ++ k ∷ ys)
used_last xs k ys = let a = sum_skip used_by_deed xs k ys in let b = used_push (xs ++ ys) k in omega (arith, a, b)
