-- An entry that concerns a firm is one of those that it is told of.
use Rattle.std.proofs.Common.{◌≡◌, ℕ, zero, suc, ◌+◌, ◌≤◌, ◌<◌, Bool, true, false, ◌&&◌, List, [], ◌∷◌, refl, sym, ◌∙◌}
use Rattle.std.proofs.Common.{ap, arith, Option, cond, length, take}
use Rattle.std.specs.Prelude.{Some, None, filter, nat_lt, slice_get, option_map, IfSome, Result, Ok, Err, OnErr}
use Rattle.std.proofs.lemmas.Bool.Decides.{Decides-ltb}
use Rattle.gu_base.specs.History.{numbered_as, numbered_from, records}
use Rattle.gu_base.specs.declared.entry.Entry.{Entry}
use Rattle.gu_base.specs.declared.entry.Record.{Record}
use Rattle.gu_base.specs.declared.report.Report.{Report}
use Rattle.gu_trace.specs.Concerns.{concerns}
use Rattle.gu_trace.specs.Reports.{report_of, told, entries_for}
use Rattle.gu_trace.proofs.Walk.{TellsOf}

one_at_least : (b : Bool) (r : Record) (rs : List Record) → b ≡ true → 1 ≤ length (cond b (r ∷ rs) rs)
one_at_least true r rs h = omega arith
one_at_least false r rs h = absurd (cc)

one_more : (b : Bool) (r : Record) (rs : List Record) → 1 ≤ length rs → 1 ≤ length (cond b (r ∷ rs) rs)
one_more true r rs h = omega arith
one_more false r rs h = h

passes_from : (p : Record → Bool) (k i : ℕ) (h : List Entry) (e : Entry) → slice_get h i ≡ Some e
    → p (numbered_as (k + i) e) ≡ true → 1 ≤ length (filter p (numbered_from k h))
passes_from p k i [] e found passes = absurd (cc)
passes_from p k zero (d ∷ h) e found passes =
    let here : d ≡ e = cc in
    let number : k + 0 ≡ k = omega arith in
    one_at_least (p (numbered_as k d)) (numbered_as k d) (filter p (numbered_from (k + 1) h))
    (ap (λ x. p (numbered_as k x)) here ∙ (ap (λ n. p (numbered_as n e)) (sym number) ∙ passes))
passes_from p k (suc i) (d ∷ h) e found passes =
    let number : k + 1 + i ≡ k + suc i = omega arith in
    one_more (p (numbered_as k d)) (numbered_as k d) (filter p (numbered_from (k + 1) h))
    (passes_from p (k + 1) i h e found (ap (λ n. p (numbered_as n e)) number ∙ passes))

first_of_some : (n : ℕ) (rs : List Record) → 1 ≤ n → 1 ≤ length rs → 1 ≤ length (take n rs)
first_of_some zero rs low some = absurd (omega arith)
first_of_some (suc n) [] low some = some
first_of_some (suc n) (r ∷ rs) low some = omega arith

both : (a b : Bool) → a ≡ true → b ≡ true → (a && b) ≡ true
both true b h k = k
both false b h k = absurd (cc)

none_within : (h : List Entry) (i : ℕ) → slice_get h i ≡ None → i < length h → ⊥
none_within [] i none within = omega arith
none_within (e ∷ h) zero none within = cc
none_within (e ∷ h) (suc i) none within = none_within h i none (omega arith)

-- an entry behind the number that concerns the firm
pub one_concerns : (house : List ℕ) (h : List Entry) (f : List ℕ) (after i : ℕ) (o : Option Entry) → slice_get h i ≡ o
    → after ≤ i → i < length h → IfSome o (λ e. concerns house h f e.firm e.command ≡ true)
    → 1 ≤ length (entries_for house h f after)
one_concerns house h f after i None there behind within concerned = absurd (none_within h i there within)
one_concerns house h f after i (Some e) there behind within concerned =
    let above : after < 1 + i = omega (arith, behind) in
    first_of_some 100 (filter (λ r. nat_lt after r.number && concerns house h f r.firm r.command) (records h))
    (omega arith)
    (passes_from (λ r. nat_lt after r.number && concerns house h f r.firm r.command) 1 i h e there
    (both (nat_lt after (1 + i)) (concerns house h f e.firm e.command) ((Decides-ltb after (1 + i)).1 above) concerned))

some_concerns : (b : Bool) (o : Option Report) (r : Report) → Some r ≡ cond b o None → b ≡ true
some_concerns true o r h = refl
some_concerns false o r h = absurd (cc)

told_concerns : (house : List ℕ) (h : List Entry) (f : List ℕ) (i : ℕ) (r : Report) (o : Option Entry)
    → Some (Some r) ≡ option_map (λ e. told house h f (numbered_as (i + 1) e)) o
    → IfSome o (λ e. concerns house h f e.firm e.command ≡ true)
told_concerns house h f i r None tells = tt
told_concerns house h f i r (Some e) tells =
    let is : Some r ≡ told house h f (numbered_as (i + 1) e) = cc in
    some_concerns (concerns house h f e.firm e.command) (report_of h f (numbered_as (i + 1) e) e.command) r is

-- an entry of which something is told concerns the firm
pub one_told : (house : List ℕ) (h : List Entry) (f : List ℕ) (after i : ℕ) (r : Report) → after ≤ i → i < length h
    → TellsOf (told house h f) h i (Some r) → 1 ≤ length (entries_for house h f after)
one_told house h f after i r behind within tells =
    one_concerns house h f after i (slice_get h i) refl behind within
    (told_concerns house h f i r (slice_get h i) tells)

-- what holds in any case holds of an error
pub on_err : {A E : Type 0} (P : Type 0) (r : Result A E) → P → OnErr r P
on_err P (Ok x) p = tt
on_err P (Err e) p = p
