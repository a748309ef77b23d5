-- A list is legal exactly where none of its changes is refused after those before it.
use Rattle.std.proofs.Common.{◌≡◌, ℕ, List, [], ◌∷◌, ◌++◌, refl, sym, ◌∙◌, ap, subst, cond, append_assoc, append-nil}
use Rattle.std.proofs.Common.{Option}
use Rattle.std.specs.Prelude.{Some, None, is_some}
use Rattle.gu_base.specs.House.{House}
use Rattle.gu_base.specs.Refusals.{refusal_of}
use Rattle.gu_base.specs.Standing.{first_refused, IsLegal}
use Rattle.gu_base.specs.declared.entry.Record.{Record}
use Rattle.gu_base.specs.declared.refusal.Refusal.{Refusal}

-- how the replay goes on, by the answer at one change
abbrev replayed : Option Refusal → ℕ → Option ℕ → Option ℕ
replayed refused n rest = cond (is_some refused) (Some n) rest

-- where a replay refuses nothing, the first change isn't refused, and none behind it
pub none_refused : (o : Option Refusal) (n : ℕ) (rest : Option ℕ) → replayed o n rest ≡ None
    → (o ≡ None) × (rest ≡ None)
none_refused None n rest h = (refl, h)
none_refused (Some r) n rest h = absurd (cc)

-- where nothing is refused, the replay can be cut anywhere
pub first_refused_cut : (t : House) (done before : List Record) (r : Record) (after : List Record)
    → first_refused t done (before ++ r ∷ after) ≡ None → refusal_of t (done ++ before) r.firm r.command ≡ None
first_refused_cut t done [] r after h =
    subst (λ l. refusal_of t l r.firm r.command ≡ None) (sym (append-nil done))
    (none_refused (refusal_of t done r.firm r.command) r.number (first_refused t (done ++ r ∷ []) after) h).0
first_refused_cut t done (d ∷ before) r after h =
    subst (λ l. refusal_of t l r.firm r.command ≡ None) (append_assoc done (d ∷ []) before)
    (first_refused_cut t (done ++ d ∷ []) before r after
    (none_refused (refusal_of t done d.firm d.command) d.number (first_refused t (done ++ d ∷ []) (before ++ r ∷ after))
    h).1)

-- so such a list is legal
pub legal_from_replay : (t : House) (l : List Record) → first_refused t [] l ≡ None → IsLegal t l
legal_from_replay t l h = record {
  accepted = λ before after r e. first_refused_cut t [] before r after (subst (λ k. first_refused t [] k ≡ None) e h);
}

-- and a legal list is replayed
replay_from : (t : House) (l : List Record) → IsLegal t l → (done rest : List Record) → l ≡ done ++ rest
    → first_refused t done rest ≡ None
replay_from t l legal done [] e = refl
replay_from t l legal done (r ∷ rest) e =
    subst (λ o. replayed o r.number (first_refused t (done ++ r ∷ []) rest) ≡ None) (sym (legal.accepted done rest r e))
    (replay_from t l legal (done ++ r ∷ []) rest (e ∙ sym (append_assoc done (r ∷ []) rest)))

-- from its first change on
pub replay_from_legal : (t : House) (l : List Record) → IsLegal t l → first_refused t [] l ≡ None
replay_from_legal t l legal = replay_from t l legal [] l refl

-- one more change that isn't refused
pub replay_push : (t : House) (before l : List Record) (r : Record) → first_refused t before l ≡ None
    → refusal_of t (before ++ l) r.firm r.command ≡ None → first_refused t before (l ++ r ∷ []) ≡ None
replay_push t before [] r h ok =
    ap (λ o. replayed o r.number None) (subst (λ l. refusal_of t l r.firm r.command ≡ None) (append-nil before) ok)
replay_push t before (d ∷ l) r h ok =
    let p = none_refused (refusal_of t before d.firm d.command) d.number (first_refused t (before ++ d ∷ []) l) h in
    ap (λ o. replayed o d.number (first_refused t (before ++ d ∷ []) (l ++ r ∷ []))) p.0
    ∙ replay_push t (before ++ d ∷ []) l r p.1
    (subst (λ k. refusal_of t k r.firm r.command ≡ None) (sym (append_assoc before (d ∷ []) l)) ok)

-- fewer changes
pub replay_front : (t : House) (before l m : List Record) → first_refused t before (l ++ m) ≡ None
    → first_refused t before l ≡ None
replay_front t before [] m h = refl
replay_front t before (d ∷ l) m h =
    let p =
    none_refused (refusal_of t before d.firm d.command) d.number (first_refused t (before ++ d ∷ []) (l ++ m)) h in
    ap (λ o. replayed o d.number (first_refused t (before ++ d ∷ []) l)) p.0 ∙ replay_front t (before ++ d ∷ []) l m p.1
