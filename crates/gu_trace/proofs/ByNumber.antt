-- A reading by numbers that are kept.
use Rattle.std.proofs.Common.{◌≡◌, ℕ, zero, suc, ◌+◌, ◌-◌, ◌<◌, ◌≤◌, Bool, true, false, cond, List, [], ◌∷◌, ◌++◌, refl}
use Rattle.std.proofs.Common.{sym, ◌∙◌, ap, subst, arith, length, take, drop, Option, append_assoc}
use Rattle.std.specs.Prelude.{Some, None, map, filter, nat_lt, slice_get, option_and_then}
use Rattle.std.specs.List.{All, filter_map, cons_option}
use Rattle.std.proofs.lemmas.Bool.{ltb-false}
use Rattle.std.proofs.lemmas.Bool.Decides.{Decides-ltb}
use Rattle.std.proofs.lemmas.List.{length-append}
use Rattle.std.proofs.lemmas.List.Elements.{All-nil, All-cons, All-head, All-tail, All-take, All-drop}
use Rattle.std.proofs.lemmas.List.Elements.{filter_map-append}
use Rattle.gu_base.specs.History.{numbered_as, numbered_from, records}
use Rattle.gu_base.specs.declared.entry.Entry.{Entry}
use Rattle.gu_base.specs.declared.entry.Record.{Record}
use Rattle.gu_base.specs.declared.report.Report.{Report}
use Rattle.gu_trace.specs.Concerns.{concerns}
use Rattle.gu_trace.specs.Filling.{told_at, told_from, told_of_numbers}
use Rattle.gu_trace.specs.Index.{numbers_for, RiseWithin}
use Rattle.gu_trace.specs.Reports.{report_of, told}
use Rattle.gu_trace.proofs.Walk.{behind}

-- ---- filters, one after the other

swap_by : (p q : Record → Bool) (r : Record) (rs ss : List Record) (a b : Bool) → p r ≡ a → q r ≡ b → filter p rs
    ≡ filter q ss
    → filter p (cond b (r ∷ rs) rs) ≡ filter q (cond a (r ∷ ss) ss)
swap_by p q r rs ss true true is isn same = rw (is, isn) (ap (λ ks. r ∷ ks) same)
swap_by p q r rs ss true false is isn same = rw isn same
swap_by p q r rs ss false true is isn same = rw is same
swap_by p q r rs ss false false is isn same = same

swapped : (p q : Record → Bool) (rs : List Record) → filter p (filter q rs) ≡ filter q (filter p rs)
swapped p q [] = refl
swapped p q (r ∷ rs) = swap_by p q r (filter q rs) (filter p rs) (p r) (q r) refl refl (swapped p q rs)

numbers_by : (after : ℕ) (r : Record) (rs : List Record) (b : Bool)
    → filter (λ n. nat_lt after n) (map (λ (q : Record). q.number) rs)
    ≡ map (λ (q : Record). q.number) (filter (λ q. nat_lt after q.number) rs)
    → cond b (r.number ∷ filter (λ n. nat_lt after n) (map (λ (q : Record). q.number) rs))
    (filter (λ n. nat_lt after n) (map (λ (q : Record). q.number) rs))
    ≡ map (λ (q : Record). q.number) (cond b (r ∷ filter (λ q. nat_lt after q.number) rs)
    (filter (λ q. nat_lt after q.number) rs))
numbers_by after r rs true same = ap (λ ns. r.number ∷ ns) same
numbers_by after r rs false same = same

numbers_above : (after : ℕ) (rs : List Record) → filter (λ n. nat_lt after n) (map (λ (r : Record). r.number) rs)
    ≡ map (λ (r : Record). r.number) (filter (λ r. nat_lt after r.number) rs)
numbers_above after [] = refl
numbers_above after (r ∷ rs) = numbers_by after r rs (nat_lt after r.number) (numbers_above after rs)

take_numbered : (n k : ℕ) (h : List Entry) → take n (numbered_from k h) ≡ numbered_from k (take n h)
take_numbered zero k h = refl
take_numbered (suc n) k [] = refl
take_numbered (suc n) k (e ∷ h) = ap (λ rs. numbered_as k e ∷ rs) (take_numbered n (k + 1) h)

-- ---- what is told of a number

abbrev told_of : List ℕ → List Entry → List ℕ → ℕ → Option Report
told_of house h f n = told_at house h f (n - 1)

-- the record is told at its place
abbrev IsAtPlace : List ℕ → List Entry → List ℕ → Record → Type 0
IsAtPlace house h f r = told_of house h f r.number ≡ told house h f r

got : (before behind : List Entry) (e : Entry) → slice_get (before ++ e ∷ behind) (length before) ≡ Some e
got [] behind e = refl
got (x ∷ before) behind e = got before behind e

all_there : (house : List ℕ) (h before rest : List Entry) (f : List ℕ) → h ≡ before ++ rest
    → All (IsAtPlace house h f) (numbered_from (1 + length before) rest)
all_there house h before [] f cut = All-nil (IsAtPlace house h f)
all_there house h before (e ∷ rest) f cut =
    let next : 1 + length (before ++ e ∷ []) ≡ 1 + length before + 1 = omega (arith, length-append before (e ∷ [])) in
    let place : 1 + length before - 1 ≡ length before = omega arith in
    let number : length before + 1 ≡ 1 + length before = omega arith in
    let there : slice_get h (length before) ≡ Some e = ap (λ (l : List Entry). slice_get l (length before)) cut
    ∙ got before rest e in
    All-cons (IsAtPlace house h f) (numbered_as (1 + length before) e) (numbered_from (1 + length before + 1) rest)
    (ap (λ i. told_at house h f i) place
    ∙ (ap (option_and_then (λ d. told house h f (numbered_as (length before + 1) d))) there
    ∙ ap (λ n. told house h f (numbered_as n e)) number))
    (subst (λ (m : ℕ). All (IsAtPlace house h f) (numbered_from m rest)) next
    (all_there house h (before ++ e ∷ []) rest f (cut ∙ sym (append_assoc before (e ∷ []) rest))))

told_one : (house : List ℕ) (h : List Entry) (f : List ℕ) (r : Record) (ks rs : List Record) (b : Bool)
    → concerns house h f r.firm r.command ≡ b → IsAtPlace house h f r
    → filter_map (told_of house h f) (map (λ (q : Record). q.number) ks) ≡ filter_map (told house h f) rs
    → filter_map (told_of house h f) (map (λ (q : Record). q.number) (cond b (r ∷ ks) ks))
    ≡ filter_map (told house h f) (r ∷ rs)
told_one house h f r ks rs true is here same =
    ap (λ o. cons_option o (filter_map (told_of house h f) (map (λ (q : Record). q.number) ks))) here
    ∙ ap (cons_option (told house h f r)) same
told_one house h f r ks rs false is here same =
    same ∙ sym (ap (λ c. cons_option (cond c (report_of h f r r.command) None) (filter_map (told house h f) rs)) is)

-- by their numbers those that concern the firm are told what all of them are
told_numbers : (house : List ℕ) (h : List Entry) (f : List ℕ) (rs : List Record) → All (IsAtPlace house h f) rs
    → filter_map (told_of house h f)
    (map (λ (q : Record). q.number) (filter (λ r. concerns house h f r.firm r.command) rs))
    ≡ filter_map (told house h f) rs
told_numbers house h f [] all = refl
told_numbers house h f (r ∷ rs) all =
    told_one house h f r (filter (λ q. concerns house h f q.firm q.command) rs) rs
    (concerns house h f r.firm r.command) refl
    (All-head (IsAtPlace house h f) r rs all) (told_numbers house h f rs (All-tail (IsAtPlace house h f) r rs all))

above_records : (after n : ℕ) (h : List Entry) → filter (λ r. nat_lt after r.number) (take n (records h))
    ≡ drop after (take n (records h))
above_records after n h =
    ap (filter (λ r. nat_lt after r.number)) (take_numbered n 1 h)
    ∙ (behind after (take n h) ∙ ap (drop after) (sym (take_numbered n 1 h)))

-- what is told of the numbers that are kept, above a number
abbrev pub told_above : List ℕ → List Entry → List ℕ → ℕ → ℕ → List Report
told_above house h f n after = told_of_numbers house h f (filter (λ m. nat_lt after m) (numbers_for house h n f))

told_filed : (house : List ℕ) (h : List Entry) (f : List ℕ) (n after : ℕ) → told_above house h f n after
    ≡ filter_map (told house h f) (drop after (take n (records h)))
told_filed house h f n after =
    let concerning : Record → Bool = λ r. concerns house h f r.firm r.command in
    let above : Record → Bool = λ r. nat_lt after r.number in
    let there = All-drop (IsAtPlace house h f) after (take n (records h))
    (All-take (IsAtPlace house h f) n (records h) (all_there house h [] h f refl)) in
    ap (filter_map (told_of house h f)) (numbers_above after (filter concerning (take n (records h))))
    ∙ (ap (λ rs. filter_map (told_of house h f) (map (λ (r : Record). r.number) rs))
    (swapped above concerning (take n (records h)))
    ∙ (ap (λ rs. filter_map (told_of house h f) (map (λ (r : Record). r.number) (filter concerning rs)))
    (above_records after n h)
    ∙ told_numbers house h f (drop after (take n (records h))) there))

-- ---- what is filed and what isn't

cut_below : (after n : ℕ) (rs : List Record) → after ≤ n → drop after rs ≡ drop after (take n rs) ++ drop n rs
cut_below zero zero rs under = refl
cut_below zero (suc n) [] under = refl
cut_below zero (suc n) (r ∷ rs) under = ap (λ qs. r ∷ qs) (cut_below zero n rs (omega arith))
cut_below (suc after) zero rs under = absurd (omega (arith, under))
cut_below (suc after) (suc n) [] under = refl
cut_below (suc after) (suc n) (r ∷ rs) under = cut_below after n rs (omega (arith, under))

none_above : (after n : ℕ) (rs : List Record) → n ≤ after → drop after (take n rs) ≡ []
none_above zero zero rs under = refl
none_above zero (suc n) rs under = absurd (omega (arith, under))
none_above (suc after) zero rs under = refl
none_above (suc after) (suc n) [] under = refl
none_above (suc after) (suc n) (r ∷ rs) under = none_above after n rs (omega (arith, under))

by_place : (house : List ℕ) (h : List Entry) (f : List ℕ) (n after rest : ℕ) (b : Bool) → nat_lt n after ≡ b → rest
    ≡ cond b after n
    → told_above house h f n after ++ told_from house h f rest ≡ told_from house h f after
by_place house h f n after rest true over is =
    let under : n < after = (Decides-ltb n after).0 over in
    ap (λ ts. ts ++ told_from house h f rest) (told_filed house h f n after ∙ ap (filter_map (told house h f))
    (none_above after n (records h) (omega (arith, under))))
    ∙ ap (told_from house h f) is
by_place house h f n after rest false over is =
    let under : after ≤ n = ltb-false n after over in
    ap (λ ts. ts ++ told_from house h f rest) (told_filed house h f n after)
    ∙ (ap (λ i. filter_map (told house h f) (drop after (take n (records h))) ++ told_from house h f i) is
    ∙ (sym (filter_map-append (told house h f) (drop after (take n (records h))) (drop n (records h)))
    ∙ ap (filter_map (told house h f)) (sym (cut_below after n (records h) under))))

-- what is told of the entries above a number is what is told of those that are filed, and then of the others
pub told_in_two : (house : List ℕ) (h : List Entry) (f : List ℕ) (n after rest : ℕ) → rest
    ≡ cond (nat_lt n after) after n
    → told_above house h f n after ++ told_from house h f rest ≡ told_from house h f after
told_in_two house h f n after rest is = by_place house h f n after rest (nat_lt n after) refl is

-- ---- the numbers above a number

abbrev pub IsAbove : ℕ → ℕ → ℕ → Type 0
IsAbove after high n = (after < n) × (n ≤ high)

kept_above : (after high n : ℕ) (ns : List ℕ) (b : Bool) → nat_lt after n ≡ b → n ≤ high → All (IsAbove after high) ns
    → All (IsAbove after high) (cond b (n ∷ ns) ns)
kept_above after high n ns true over under all = All-cons (IsAbove after high) n ns
    ((Decides-ltb after n).0 over, under) all
kept_above after high n ns false over under all = all

pub all_above : (after low high : ℕ) (ns : List ℕ) → RiseWithin low high ns
    → All (IsAbove after high) (filter (λ n. nat_lt after n) ns)
all_above after low high [] rise = All-nil (IsAbove after high)
all_above after low high (n ∷ ns) rise = kept_above after high n (filter (λ m. nat_lt after m) ns)
    (nat_lt after n) refl rise.1 (all_above after n high ns rise.2)
