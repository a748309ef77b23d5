-- The numbers that an index keeps for a firm.
use Rattle.std.proofs.Common.{◌≡◌, ℕ, zero, suc, ◌+◌, ◌<◌, ◌≤◌, Bool, true, false, cond, List, [], ◌∷◌, ◌++◌, refl, sym}
use Rattle.std.proofs.Common.{◌∙◌, ap, subst, arith, length, take, drop, get_or, ltb, leb, leb-true, leb-false, ne_eqb}
use Rattle.std.proofs.Common.{eq-eqb, append_assoc, append-nil}
use Rattle.std.specs.Prelude.{Some, Result, Ok, Err, OnOk, OnErr, map, filter, nat_lt, slice_get}
use Rattle.std.specs.List.{AllWithin}
use Rattle.std.specs.List.Sorted.{IsNonDecreasingBy}
use Rattle.std.proofs.lemmas.Bool.{false_from_ne_true}
use Rattle.std.proofs.lemmas.Bool.Decides.{Decides-ltb}
use Rattle.std.proofs.lemmas.List.{take-append-le, length-append}
use Rattle.gu_base.specs.House.{House}
use Rattle.gu_base.specs.History.{numbered_as, numbered_from, records}
use Rattle.gu_base.specs.Answers.{Call, answer_to, after, after_by}
use Rattle.gu_base.specs.Runs.{IsRunFrom}
use Rattle.gu_base.specs.declared.entry.Answer.{Answer}
use Rattle.gu_base.specs.declared.entry.Answer.TheVariants.{Accepted, Repeated, Refused}
use Rattle.gu_base.specs.declared.entry.Entry.{Entry}
use Rattle.gu_base.specs.declared.entry.Record.{Record}
use Rattle.gu_base.proofs.Accepted.{allowed}
use Rattle.gu_base.proofs.Numbered.{length_numbered}
use Rattle.gu_book.specs.Seen.{HouseAndHistory}
use Rattle.gu_trace.specs.Concerns.{concerns}
use Rattle.gu_trace.specs.Index.{numbers_for, RiseWithin, ends_with, filed, IsIndexOf}
use Rattle.gu_trace.specs.declared.index.ConcernIndex.{ConcernIndex}
use Rattle.gu_trace.proofs.Found.{numbered_append}
use Rattle.gu_trace.proofs.Passed.{run_before, concerns_stay, kept_same}

-- ---- numbers that rise

above_low : (low high : ℕ) (ns : List ℕ) (j d : ℕ) → RiseWithin low high ns → j < length ns → low < get_or ns j d
above_low low high [] j d rise within = absurd (omega (arith, within))
above_low low high (n ∷ ns) zero d rise within = rise.0
above_low low high (n ∷ ns) (suc j) d rise within =
    let first = rise.0 in
    let on = above_low n high ns j d rise.2 (omega (arith, within)) in
    omega (arith, first, on)

-- none of them is below one before it
pub non_decreasing : (low high : ℕ) (ns : List ℕ) → RiseWithin low high ns → IsNonDecreasingBy (λ (n : ℕ). n) ns
non_decreasing low high [] rise i j d under within = absurd (omega (arith, within))
non_decreasing low high (n ∷ ns) rise zero zero d under within = omega arith
non_decreasing low high (n ∷ ns) rise zero (suc j) d under within = let on = above_low n high ns j d rise.2
    (omega (arith, within)) in omega (arith, on)
non_decreasing low high (n ∷ ns) rise (suc i) zero d under within = absurd (omega (arith, under))
non_decreasing low high (n ∷ ns) rise (suc i) (suc j) d under within = non_decreasing n high ns rise.2 i j d
    (omega (arith, under)) (omega (arith, within))

-- those behind the place that parts them are those above the number
pub from_point : (after i : ℕ) (ns : List ℕ) → AllWithin (λ n. leb n after ≡ true) ns 0 i
    → AllWithin (λ n. leb n after ≡ false) ns i (length ns)
    → drop i ns ≡ filter (λ n. nat_lt after n) ns
from_point after zero [] first second = refl
from_point after (suc i) [] first second = refl
from_point after zero (n ∷ ns) first second =
    let above : after < n = leb-false n after (second 0 n (omega arith) (omega arith)) in
    rw ((Decides-ltb after n).1 above)
    (ap (λ ms. n ∷ ms) (from_point after zero ns (λ k d low high. absurd (omega (arith, high)))
    (λ k d low high. second (suc k) d (omega arith) (omega (arith, high)))))
from_point after (suc i) (n ∷ ns) first second =
    let below : n ≤ after = leb-true n after (first 0 n (omega arith) (omega arith)) in
    rw (false_from_ne_true (ltb after n) (λ s. let above : after < n = (Decides-ltb after n).0 s in omega
    (arith, above, below)))
    (from_point after i ns (λ k d low high. first (suc k) d (omega arith) (omega (arith, high)))
    (λ k d low high. second (suc k) d (omega (arith, low)) (omega (arith, high))))

-- a number above all of them isn't the last
pub not_last : (low high n : ℕ) (ns : List ℕ) → RiseWithin low high ns → high < n → ends_with n ns ≡ false
not_last low high n [] rise over = refl
not_last low high n (m ∷ []) rise over = let under = rise.1 in ne_eqb m n (λ same. omega (arith, under, over, same))
not_last low high n (m ∷ k ∷ ms) rise over = not_last m high n (k ∷ ms) rise.2 over

rise_by : (p : Record → Bool) (low high k : ℕ) (e : Entry) (rs : List Record) (b : Bool) → low < k → k ≤ high
    → RiseWithin k high (map (λ (r : Record). r.number) rs) → RiseWithin low high (map (λ (r : Record). r.number) rs)
    → RiseWithin low high (map (λ (r : Record). r.number) (cond b (numbered_as k e ∷ rs) rs))
rise_by p low high k e rs true over under here there = (over, under, here)
rise_by p low high k e rs false over under here there = there

-- the numbers of some of the records rise
rise_from : (p : Record → Bool) (low high k n : ℕ) (h : List Entry) → low < k → k + n ≤ high + 1
    → RiseWithin low high (map (λ (r : Record). r.number) (filter p (take n (numbered_from k h))))
rise_from p low high k zero h over under = tt
rise_from p low high k (suc n) [] over under = tt
rise_from p low high k (suc n) (e ∷ h) over under =
    rise_by p low high k e (filter p (take n (numbered_from (k + 1) h))) (p (numbered_as k e)) over
    (omega (arith, under))
    (rise_from p k high (k + 1) n h (omega arith) (omega (arith, under)))
    (rise_from p low high (k + 1) n h (omega (arith, over)) (omega (arith, under)))

-- those that concern a firm, of the first n
pub numbers_rise : (house : List ℕ) (h : List Entry) (n : ℕ) (f : List ℕ) → RiseWithin 0 n (numbers_for house h n f)
numbers_rise house h n f = rise_from (λ r. concerns house h f r.firm r.command) 0 n 1 n h (omega arith) (omega arith)

-- ---- one entry more

numbers_by : (r : Record) (rs ss : List Record) (z : List ℕ) (b : Bool) → map (λ (q : Record). q.number) rs
    ≡ map (λ (q : Record). q.number) ss ++ z
    → map (λ (q : Record). q.number) (cond b (r ∷ rs) rs) ≡ map (λ (q : Record). q.number) (cond b (r ∷ ss) ss) ++ z
numbers_by r rs ss z true same = ap (λ ns. r.number ∷ ns) same
numbers_by r rs ss z false same = same

alone : (r : Record) (b : Bool) → map (λ (q : Record). q.number) (cond b (r ∷ []) []) ≡ cond b (r.number ∷ []) []
alone r true = refl
alone r false = refl

one_more_from : (p : Record → Bool) (k i : ℕ) (h : List Entry) (e : Entry) → slice_get h i ≡ Some e
    → map (λ (r : Record). r.number) (filter p (take (suc i) (numbered_from k h)))
    ≡ map (λ (r : Record). r.number) (filter p (take i (numbered_from k h)))
    ++ cond (p (numbered_as (k + i) e)) ((k + i) ∷ []) []
one_more_from p k i [] e there = absurd (cc)
one_more_from p k zero (x ∷ h) e there =
    let here : x ≡ e = cc in
    let number : k + 0 ≡ k = omega arith in
    alone (numbered_as k x) (p (numbered_as k x))
    ∙ (ap (λ y. cond (p (numbered_as k y)) (k ∷ []) []) here
    ∙ ap (λ n. cond (p (numbered_as n e)) (n ∷ []) []) (sym number))
one_more_from p k (suc i) (x ∷ h) e there =
    let number : k + 1 + i ≡ k + suc i = omega arith in
    numbers_by (numbered_as k x) (filter p (take (suc i) (numbered_from (k + 1) h)))
    (filter p (take i (numbered_from (k + 1) h))) (cond (p (numbered_as (k + suc i) e)) ((k + suc i) ∷ []) [])
    (p (numbered_as k x))
    (one_more_from p (k + 1) i h e there ∙ ap (λ n. map (λ (r : Record). r.number)
    (filter p (take i (numbered_from (k + 1) h))) ++ cond (p (numbered_as n e)) (n ∷ []) []) number)

put_by : (n : ℕ) (b : Bool) (ns : List ℕ) → ends_with n ns ≡ false → filed n b ns ≡ ns ++ cond b (n ∷ []) []
put_by n true ns new = rw new refl
put_by n false ns new = sym (append-nil ns)

-- the number of the next entry is filed for those whom it concerns
pub filed_next : (house : List ℕ) (h : List Entry) (i : ℕ) (e : Entry) (f : List ℕ) → slice_get h i ≡ Some e
    → filed (i + 1) (concerns house h f e.firm e.command) (numbers_for house h i f) ≡ numbers_for house h (i + 1) f
filed_next house h i e f there =
    let number : 1 + i ≡ i + 1 = omega arith in
    let long : suc i ≡ i + 1 = omega arith in
    put_by (i + 1) (concerns house h f e.firm e.command) (numbers_for house h i f)
    (not_last 0 i (i + 1) (numbers_for house h i f) (numbers_rise house h i f) (omega arith))
    ∙ (ap (λ n. numbers_for house h i f ++ cond (concerns house h f e.firm e.command) (n ∷ []) []) (sym number)
    ∙ (sym (one_more_from (λ r. concerns house h f r.firm r.command) 1 i h e there)
    ∙ ap (λ n. numbers_for house h n f) long))

-- ---- a number that is put twice is put once

pub ends_pushed : (n : ℕ) (ns : List ℕ) → ends_with n (ns ++ n ∷ []) ≡ true
ends_pushed n [] = eq-eqb n n refl
ends_pushed n (m ∷ []) = eq-eqb n n refl
ends_pushed n (m ∷ k ∷ ms) = ends_pushed n (k ∷ ms)

pub ends_put : (n : ℕ) (ns : List ℕ) (b : Bool) → ends_with n ns ≡ b → ends_with n (cond b ns (ns ++ n ∷ [])) ≡ true
ends_put n ns true is = is
ends_put n ns false is = ends_pushed n ns

-- ---- a longer history

filter_stays : (t : House) (h k before rest : List Entry) (f : List ℕ) (n : ℕ) → IsRunFrom t [] h → h ≡ before ++ rest
    → filter (λ r. concerns t.house (h ++ k) f r.firm r.command) (take n (numbered_from (1 + length before) rest))
    ≡ filter (λ r. concerns t.house h f r.firm r.command) (take n (numbered_from (1 + length before) rest))
filter_stays t h k before rest f zero run cut = refl
filter_stays t h k before [] f (suc n) run cut = refl
filter_stays t h k before (e ∷ rest) f (suc n) run cut =
    let next : 1 + length (before ++ e ∷ []) ≡ 1 + length before + 1 = omega (arith, length-append before (e ∷ [])) in
    let free = allowed t before e (length before + 1) (run.accepted before rest e cut (omega arith)) in
    let others = filter_stays t h k (before ++ e ∷ []) rest f n run (cut ∙ sym (append_assoc before (e ∷ []) rest)) in
    kept_same (concerns t.house (h ++ k) f e.firm e.command) (concerns t.house h f e.firm e.command)
    (numbered_as (1 + length before) e)
    (filter (λ r. concerns t.house (h ++ k) f r.firm r.command) (take n (numbered_from (1 + length before + 1) rest)))
    (filter (λ r. concerns t.house h f r.firm r.command) (take n (numbered_from (1 + length before + 1) rest)))
    (concerns_stay t h k before rest e f e.command run cut refl free.lawful)
    (subst (λ (m : ℕ). filter (λ r. concerns t.house (h ++ k) f r.firm r.command) (take n (numbered_from m rest))
    ≡ filter (λ r. concerns t.house h f r.firm r.command) (take n (numbered_from m rest))) next others)

-- the numbers of the first entries that concern a firm stay
numbers_stay : (t : House) (h k : List Entry) (n : ℕ) (f : List ℕ) → IsRunFrom t [] h → n ≤ length h
    → numbers_for t.house (h ++ k) n f ≡ numbers_for t.house h n f
numbers_stay t h k n f run within =
    let long = length_numbered 1 h in
    ap (λ rs. map (λ (r : Record). r.number) (filter (λ r. concerns t.house (h ++ k) f r.firm r.command) (take n rs)))
    (numbered_append 1 h k)
    ∙ (ap (λ rs. map (λ (r : Record). r.number) (filter (λ r. concerns t.house (h ++ k) f r.firm r.command) rs))
    (take-append-le n (records h) (numbered_from (1 + length h) k) (omega (arith, within, long)))
    ∙ ap (map (λ (r : Record). r.number)) (filter_stays t h k [] h f n run refl))

-- an index of a history is one of each longer history
pub index_stays : (t : House) (h k : List Entry) (i : ConcernIndex) → IsRunFrom t [] (h ++ k) → IsIndexOf t.house h i
    → IsIndexOf t.house (h ++ k) i
index_stays t h k i run was =
    let within = was.within in
    record {
      within = omega (arith, within, length-append h k);
      numbers = λ f. was.numbers f ∙ sym (numbers_stay t h k i.filed f (run_before t h k run) within);
    }

stays_by : (t : House) (h : List Entry) (c : Call) (a : Answer) (i : ConcernIndex) → IsRunFrom t [] (after_by h c a)
    → IsIndexOf t.house h i → IsIndexOf t.house (after_by h c a) i
stays_by t h c (Accepted n s) i run was = index_stays t h _ i run was
stays_by t h c (Repeated n s) i run was = was
stays_by t h c (Refused r) i run was = was

-- an index goes with its book behind a call, of which `apply` says this
pub index_kept : {E : Type 0} (old new : HouseAndHistory) (c : Call) (r : Result Answer E) (i : ConcernIndex)
    → OnOk r (new ≡ record { house = old.house; history = after old.house old.history c }) → OnErr r (new ≡ old)
    → IsRunFrom new.house [] new.history → IsIndexOf old.house.house old.history i
    → IsIndexOf new.house.house new.history i
index_kept old new c (Ok a) i kept unchanged run was =
    subst (λ (b : HouseAndHistory). IsIndexOf b.house.house b.history i) (sym kept)
    (stays_by old.house old.history c (answer_to old.house old.history c) i
    (subst (λ (b : HouseAndHistory). IsRunFrom b.house [] b.history) kept run) was)
index_kept old new c (Err e) i kept unchanged run was =
    subst (λ (b : HouseAndHistory). IsIndexOf b.house.house b.history i) (sym unchanged) was
