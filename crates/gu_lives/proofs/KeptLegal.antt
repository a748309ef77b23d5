-- A legal list stays legal without changes under which none of the others stands.
use Rattle.std.proofs.Common.{◌≡◌, ℕ, zero, suc, Bool, true, false, List, [], ◌∷◌, ◌++◌, length, refl, sym, ◌∙◌}
use Rattle.std.proofs.Common.{ap, subst, cond, arith, append_assoc, append-nil, Contains, inl, inr}
use Rattle.std.specs.Prelude.{None, find, filter, ◌==◌}
use Rattle.std.proofs.lemmas.List.Elements.{filter-append, Contains-append_left, Contains-append_right}
use Rattle.std.proofs.lemmas.List.Elements.{Contains-append_cases}
use Rattle.gu_base.specs.House.{House}
use Rattle.gu_base.specs.Standing.{IsLegal}
use Rattle.gu_base.specs.declared.command.Command.{Command}
use Rattle.gu_base.specs.declared.command.Command.TheVariants.{Trade, Split, Claim, Refuse, Cancel, Agree, Raise}
use Rattle.gu_base.specs.declared.command.Command.TheVariants.{Initiate, Decline, Reverse}
use Rattle.gu_base.specs.declared.entry.Record.{Record}
use Rattle.gu_base.proofs.Basics.{no_some}
use Rattle.gu_base.proofs.LegalLaws.{legal_from_replay}
use Rattle.gu_base.proofs.Searches.{find_passes, found_in}
use Rattle.gu_tree.specs.Shown.{HasDistinctNumbers}
use Rattle.gu_depend.specs.Under.{stands_under, deals_under}
use Rattle.gu_depend.proofs.Finds.{count_append, not_both}
use Rattle.gu_depend.proofs.Replay.{Legal, legal_list}
use Rattle.gu_depend.proofs.StandsLast.{standing_deals}
use Rattle.gu_lives.specs.Kept.{sets_terms, IsClosed}

-- a change that sets no terms has nothing under it by terms
no_terms_under : (t : House) (l : List Record) (k : ℕ) (by : List ℕ) (c : Command) → sets_terms c ≡ false
    → deals_under t l k by c ≡ None
no_terms_under t l k by (Trade _ _ _ _ _) h = refl
no_terms_under t l k by (Split _ _) h = refl
no_terms_under t l k by (Claim _ _) h = refl
no_terms_under t l k by (Refuse _) h = refl
no_terms_under t l k by (Cancel _) h = refl
no_terms_under t l k by (Agree _ _ _ _) h = cc
no_terms_under t l k by (Raise _ _) h = cc
no_terms_under t l k by (Initiate _) h = refl
no_terms_under t l k by (Decline _) h = refl
no_terms_under t l k by (Reverse _) h = refl

not_true : (b : Bool) → (b ≡ true → ⊥) → b ≡ false
not_true true h = absurd (h refl)
not_true false h = refl

-- the last of a list
last_of : {A : Type 0} (n : ℕ) (xs : List A) → length xs ≡ suc n
    → (front : List A) × ((x : A) × ((xs ≡ front ++ x ∷ []) × (length front ≡ n)))
last_of n [] e = absurd (omega (arith, e))
last_of zero (x ∷ []) e = ([], (x, (refl, refl)))
last_of (suc n) (x ∷ []) e = let z : 1 ≡ suc (suc n) = e in absurd (omega (arith, z))
last_of zero (x ∷ y ∷ xs) e = let z : suc (suc (length xs)) ≡ 1 = e in absurd (omega (arith, z))
last_of (suc n) (x ∷ y ∷ xs) e =
    let z : suc (suc (length xs)) ≡ suc (suc n) = e in
    let p = last_of n (y ∷ xs) (omega (arith, z)) in
    (x ∷ p.0, (p.1.0, (cc (p.1.1.0), (let w = p.1.1.1 in omega (arith, w)))))

module _ (t : House) (l : List Record) (keep : Record → Bool) (closed : IsClosed l keep) where
  -- one change less
  one_less : (a b : List Record) (k : Record) → Legal t (a ++ k ∷ b)
      → ((r : Record) → Contains (a ++ k ∷ b) r → Contains l r) → ((r : Record) → Contains b r → keep r ≡ true)
      → keep k ≡ false → Legal t (a ++ b)
  one_less a b k legal among kept out =
      let here : Contains (a ++ k ∷ b) k = Contains-append_right a (k ∷ b) k (zero, omega arith, refl) in
      let unset = not_true (sets_terms k.command)
      (λ sets. not_both (keep k) (closed.terms k (among k here) sets) out) in
      let none = no_some (find (stands_under k) b) (λ e found.
      let at = found_in (stands_under k) b e found in
      let there : Contains (a ++ k ∷ b) e =
      Contains-append_right a (k ∷ b) e (Contains-append_right (k ∷ []) b e at) in
      not_both (keep e) (kept e at)
      (closed.below k e (among k here) (among e there) (find_passes (stands_under k) b e found) out)) in
      record {
        once = λ n.
            let c = count_append (λ (r : Record). r.number == n) a (k ∷ b) in
            let d = count_append (λ (r : Record). r.number == n) (k ∷ []) b in
            let s = count_append (λ (r : Record). r.number == n) a b in
            omega (arith, legal.once n, c, d, s);
        replayed = standing_deals t a k b legal none
            ∙ no_terms_under t (a ++ k ∷ b) k.number k.firm k.command unset;
      }

  kept_itself : (k r : Record) (b : List Record) → Contains (k ∷ []) r → keep k ≡ true → keep r ≡ true
  kept_itself k r b (zero, within, e) is = ap keep (sym e) ∙ is
  kept_itself k r b (suc i, within, e) is = absurd (omega (arith, within))

  -- what can be said of a front and what is kept behind it
  abbrev Goes : List Record → Type 0
  Goes a = (b : List Record) → Legal t (a ++ b) → ((r : Record) → Contains (a ++ b) r → Contains l r)
      → ((r : Record) → Contains b r → keep r ≡ true) → Legal t (filter keep a ++ b)

  kept_step : (a b : List Record) (k : Record) → Goes a → Legal t (a ++ k ∷ b)
      → ((r : Record) → Contains (a ++ k ∷ b) r → Contains l r) → ((r : Record) → Contains b r → keep r ≡ true)
      → (c : Bool) → keep k ≡ c → Legal t ((filter keep a ++ cond c (k ∷ []) []) ++ b)
  kept_step a b k goes legal among kept true is =
      subst (Legal t) (sym (append_assoc (filter keep a) (k ∷ []) b))
      (goes (k ∷ b) legal among
      (λ r at. elim (Contains-append_cases (k ∷ []) b r at) [
        | inl first ↦ kept_itself k r b first is
        | inr later ↦ kept r later
      ]))
  kept_step a b k goes legal among kept false is =
      subst (λ z. Legal t (z ++ b)) (sym (append-nil (filter keep a)))
      (goes b (one_less a b k legal among kept is)
      (λ r at. among r (elim (Contains-append_cases a b r at) [
        | inl first ↦ Contains-append_left a (k ∷ b) r first
        | inr later ↦ Contains-append_right a (k ∷ b) r (Contains-append_right (k ∷ []) b r later)
      ])) kept)

  -- from the last on
  kept_from : (n : ℕ) (a : List Record) → length a ≡ n → Goes a
  kept_from zero [] long b legal among kept = legal
  kept_from zero (r ∷ a) long b legal among kept = let z : suc (length a) ≡ 0 = long in absurd (omega (arith, z))
  kept_from (suc n) a long b legal among kept =
      let p = last_of n a long in
      let front = p.0 in
      let k = p.1.0 in
      let cut : a ++ b ≡ front ++ k ∷ b = ap (λ z. z ++ b) p.1.1.0 ∙ append_assoc front (k ∷ []) b in
      subst (λ z. Legal t (z ++ b)) (sym (ap (filter keep) p.1.1.0 ∙ filter-append keep front (k ∷ [])))
      (kept_step front b k (kept_from n front p.1.1.1) (subst (Legal t) cut legal)
      (λ r at. among r (subst (λ z. Contains z r) (sym cut) at)) kept (keep k) refl)

no_one : {A : Type 0} (x : A) → Contains [] x → ⊥
no_one x (i, within, e) = absurd (omega (arith, within))

pub kept_is_legal : (t : House) (l : List Record) (keep : Record → Bool) → HasDistinctNumbers l → IsLegal t l
    → IsClosed l keep → IsLegal t (filter keep l)
kept_is_legal t l keep distinct legal closed =
    let whole = legal_list t l distinct legal in
    let same = append-nil l in
    let rest = kept_from t l keep closed (length l) l refl [] (subst (Legal t) (sym same) whole)
    (λ r at. subst (λ z. Contains z r) same at) (λ r at. absurd (no_one r at)) in
    legal_from_replay t (filter keep l) (subst (Legal t) (append-nil (filter keep l)) rest).replayed
