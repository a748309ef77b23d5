-- What a reading has passed over concerns its firm neither then nor later, so a reading that begins where it ended
-- tells the same.
use Rattle.std.proofs.Common.{◌≡◌, ℕ, zero, suc, ◌+◌, ◌<◌, ◌≤◌, Bool, true, false, ◌&&◌, List, [], ◌∷◌, ◌++◌, refl, sym}
use Rattle.std.proofs.Common.{◌∙◌, ap, subst, arith, Option, cond, length, take, append_assoc}
use Rattle.std.specs.Prelude.{Some, None, map, filter, nat_lt}
use Rattle.std.specs.List.{filter_map}
use Rattle.std.proofs.lemmas.Bool.Decides.{Decides-ltb}
use Rattle.std.proofs.lemmas.Bool.{ltb-false}
use Rattle.std.proofs.lemmas.List.{length-append, length-map}
use Rattle.gu_base.specs.Numbers.{EntryPart}
use Rattle.gu_base.specs.House.{House, knows_firm}
use Rattle.gu_base.specs.History.{numbered_as, numbered_from, records}
use Rattle.gu_base.specs.Nodes.{node_of}
use Rattle.gu_base.specs.Refusals.{unless, first}
use Rattle.gu_base.specs.Answers.{entry_of, answer_to, on_change, initiate_rest, decline_rest, reverse_rest}
use Rattle.gu_base.specs.Answers.{command_refusal}
use Rattle.gu_base.specs.Runs.{IsRunFrom, call_of}
use Rattle.gu_base.specs.declared.command.Command.{Command}
use Rattle.gu_base.specs.declared.command.Command.TheVariants.{Trade, Split, Claim, Refuse, Cancel, Agree, Raise}
use Rattle.gu_base.specs.declared.command.Command.TheVariants.{Initiate, Decline, Reverse}
use Rattle.gu_base.specs.declared.entry.Answer.TheVariants.{Accepted}
use Rattle.gu_base.specs.declared.entry.Entry.{Entry}
use Rattle.gu_base.specs.declared.entry.Record.{Record}
use Rattle.gu_base.specs.declared.refusal.Refusal.{Refusal}
use Rattle.gu_base.specs.declared.refusal.Refusal.TheVariants.{UnknownFirm}
use Rattle.gu_base.specs.declared.report.Report.{Report}
use Rattle.gu_base.proofs.Accepted.{allowed, first_none, open_from_none}
use Rattle.gu_tree.specs.Shown.{named_node}
use Rattle.gu_trace.specs.Between.{last_number, last_told, looked_to, NoneBetween, HasLooked, Grow, told_above_sent}
use Rattle.gu_trace.specs.Between.{told_above_looked}
use Rattle.gu_trace.specs.Concerns.{is_between, change_concerns, record_concerns, concerns}
use Rattle.gu_trace.specs.Reports.{report_of, most_reports, entries_for, reports_for}
use Rattle.gu_trace.proofs.Each.{each_told}
use Rattle.gu_trace.proofs.Found.{cut_at, entry_more, node_later, named_there}

-- the numbers of records
abbrev numbers : List Record → List ℕ
numbers rs = map (λ (q : Record). q.number) rs

-- ---- the numbers of what is kept rise

-- each of these records that is kept has a number above d
abbrev Above : (Record → Bool) → ℕ → ℕ → Type 0
Above p k d = (j : ℕ) (x : Entry) → k ≤ j → p (numbered_as j x) ≡ true → d < j

-- also from a higher number on
above_next : (p : Record → Bool) (k d : ℕ) → Above p k d → Above p (k + 1) d
above_next p k d above = λ j x low kept. above j x (omega (arith, low)) kept

above_own : (p : Record → Bool) (k : ℕ) → Above p (k + 1) k
above_own p k = λ j x low kept. omega (arith, low)

-- one record more
grows_by : (p : Record → Bool) (k d : ℕ) (x : Entry) (fs : List Record) (b : Bool) → p (numbered_as k x) ≡ b
    → Above p k d → k ≤ last_number k (numbers fs) → d ≤ last_number d (numbers fs)
    → d ≤ last_number d (numbers (cond b (numbered_as k x ∷ fs) fs))
grows_by p k d x fs true kept above here there =
    let low : d < k = above k x (omega arith) kept in
    let goal : d ≤ last_number k (numbers fs) = omega (arith, low, here) in goal
grows_by p k d x fs false kept above here there = there

grows : (p : Record → Bool) (k d : ℕ) (h : List Entry) → Above p k d
    → d ≤ last_number d (numbers (filter p (numbered_from k h)))
grows p k d [] above = omega arith
grows p k d (x ∷ h) above =
    grows_by p k d x (filter p (numbered_from (k + 1) h)) (p (numbered_as k x)) refl above
    (grows p (k + 1) k h (above_own p k)) (grows p (k + 1) d h (above_next p k d above))

-- the first record, or a later one
kept_here : (n k d : ℕ) (e : Entry) (fs : List Record) (b : Bool) → b ≡ true → n ≤ last_number k (numbers fs)
    → n ≤ last_number d (numbers (cond b (numbered_as k e ∷ fs) fs))
kept_here n k d e fs true kept low = low
kept_here n k d e fs false kept low = absurd (cc)

kept_later : (n k d : ℕ) (x : Entry) (fs : List Record) (b : Bool) → n ≤ last_number k (numbers fs)
    → n ≤ last_number d (numbers fs) → n ≤ last_number d (numbers (cond b (numbered_as k x ∷ fs) fs))
kept_later n k d x fs true here there = here
kept_later n k d x fs false here there = there

-- a record that is kept has no higher number than the last
member : (p : Record → Bool) (k d : ℕ) (before behind : List Entry) (e : Entry) → Above p k d
    → p (numbered_as (k + length before) e) ≡ true
    → k + length before ≤ last_number d (numbers (filter p (numbered_from k (before ++ e ∷ behind))))
member p k d [] behind e above kept =
    let number : k + 0 ≡ k = omega arith in
    let low = grows p (k + 1) k behind (above_own p k) in
    kept_here (k + 0) k d e (filter p (numbered_from (k + 1) behind)) (p (numbered_as k e))
    (ap (λ n. p (numbered_as n e)) (sym number) ∙ kept) (omega (arith, low))
member p k d (x ∷ before) behind e above kept =
    let number : k + 1 + length before ≡ k + suc (length before) = omega arith in
    let kept' = ap (λ n. p (numbered_as n e)) number ∙ kept in
    let here = member p (k + 1) k before behind e (above_own p k) kept' in
    let there = member p (k + 1) d before behind e (above_next p k d above) kept' in
    kept_later (k + suc (length before)) k d x (filter p (numbered_from (k + 1) (before ++ e ∷ behind)))
    (p (numbered_as k x)) (omega (arith, here)) (omega (arith, there))

-- ---- a reading that isn't full has looked at all

-- fewer than asked for are all
all_taken : (n : ℕ) (rs : List Record) → length (take n rs) < n → take n rs ≡ rs
all_taken zero rs few = absurd (omega (arith, few))
all_taken (suc n) [] few = refl
all_taken (suc n) (r ∷ rs) few = ap (λ qs. r ∷ qs) (all_taken n rs (omega (arith, few)))

-- of tests
both_true : (a c : Bool) → a ≡ true → c ≡ true → (a && c) ≡ true
both_true true c h k = k
both_true false c h k = absurd (cc)

first_true : (a c : Bool) → (a && c) ≡ true → a ≡ true
first_true true c h = refl
first_true false c h = absurd (cc)

false_or : (c : Bool) → (c ≡ true → ⊥) → c ≡ false
false_or true never = absurd (never refl)
false_or false never = refl

-- behind the last that a reading tells of nothing concerns the firm, where the reading isn't full
none_behind : (house : List ℕ) (h : List Entry) (f : List ℕ) (after : ℕ)
    → length (entries_for house h f after) < most_reports
    → NoneBetween house h f (last_number after (numbers (entries_for house h f after))) (length h)
none_behind house h f after few before behind e cut low high =
    let p : Record → Bool = λ r. nat_lt after r.number && concerns house h f r.firm r.command in
    let all : take most_reports (filter p (records h)) ≡ filter p (records h) =
    all_taken most_reports (filter p (records h)) few in
    let above : Above p 1 after =
    λ j x from kept. (Decides-ltb after j).0 (first_true (nat_lt after j) (concerns house h f x.firm x.command) kept) in
    let same : last_number after (numbers (entries_for house h f after))
    ≡ last_number after (numbers (filter p (records h))) =
    ap (λ rs. last_number after (numbers rs)) all in
    let least : after ≤ last_number after (numbers (filter p (records h))) = grows p 1 after h above in
    false_or (concerns house h f e.firm e.command) (λ c.
    let behind_it : after < 1 + length before = omega (arith, low, same, least) in
    let kept = both_true (nat_lt after (1 + length before)) (concerns house h f e.firm e.command)
    ((Decides-ltb after (1 + length before)).1 behind_it) c in
    let within = member p 1 after before behind e above kept in
    let within' : 1 + length before ≤ last_number after (numbers (filter p (records h))) =
    subst (λ (l : List Entry). 1 + length before ≤ last_number after (numbers (filter p (records l)))) (sym cut)
    within in
    omega (arith, within', low, same))

-- ---- a reading from the one number tells what one from the other tells

-- one record is told by both, or by neither
same_by : (low high n : ℕ) (c a b : Bool) → nat_lt low n ≡ a → nat_lt high n ≡ b → low ≤ high
    → (low < n → n ≤ high → c ≡ false) → (a && c) ≡ (b && c)
same_by low high n c true true x y under none = refl
same_by low high n c false false x y under none = refl
same_by low high n c true false x y under none =
    none ((Decides-ltb low n).0 x) (ltb-false high n y)
same_by low high n c false true x y under none =
    let above : high < n = (Decides-ltb high n).0 y in
    let below : n ≤ low = ltb-false low n x in
    absurd (omega (arith, above, below, under))

pub kept_same : (a b : Bool) (r : Record) (rs qs : List Record) → a ≡ b → rs ≡ qs → cond a (r ∷ rs) rs
    ≡ cond b (r ∷ qs) qs
kept_same a b r rs qs same others = ap (λ x. cond x (r ∷ rs) rs) same ∙ ap (λ ks. cond b (r ∷ ks) ks) others

same_kept : (house : List ℕ) (h : List Entry) (f : List ℕ) (low high : ℕ) (before rest : List Entry) → low ≤ high
    → NoneBetween house h f low high → h ≡ before ++ rest
    → filter (λ r. nat_lt low r.number && concerns house h f r.firm r.command) (numbered_from (1 + length before) rest)
    ≡ filter (λ r. nat_lt high r.number && concerns house h f r.firm r.command) (numbered_from (1 + length before) rest)
same_kept house h f low high before [] under none cut = refl
same_kept house h f low high before (e ∷ rest) under none cut =
    let n = 1 + length before in
    let next : 1 + length (before ++ e ∷ []) ≡ n + 1 = omega (arith, length-append before (e ∷ [])) in
    let others =
    same_kept house h f low high (before ++ e ∷ []) rest under none (cut ∙ sym (append_assoc before (e ∷ []) rest)) in
    kept_same (nat_lt low n && concerns house h f e.firm e.command)
    (nat_lt high n && concerns house h f e.firm e.command) (numbered_as n e)
    (filter (λ r. nat_lt low r.number && concerns house h f r.firm r.command) (numbered_from (n + 1) rest))
    (filter (λ r. nat_lt high r.number && concerns house h f r.firm r.command) (numbered_from (n + 1) rest))
    (same_by low high n (concerns house h f e.firm e.command) (nat_lt low n) (nat_lt high n) refl refl under
    (λ from to. none before rest e cut (omega (arith, from)) (omega (arith, to))))
    (subst (λ (m : ℕ). filter (λ r. nat_lt low r.number && concerns house h f r.firm r.command) (numbered_from m rest)
    ≡ filter (λ r. nat_lt high r.number && concerns house h f r.firm r.command) (numbered_from m rest))
    next others)

-- where none between two numbers concerns the firm, it is told the same above the one and above the other
same_reading : (house : List ℕ) (h : List Entry) (f : List ℕ) (low high : ℕ) → low ≤ high
    → NoneBetween house h f low high → reports_for house h f low ≡ reports_for house h f high
same_reading house h f low high under none =
    ap (λ rs. filter_map (λ r. report_of h f r r.command) (take most_reports rs))
    (same_kept house h f low high [] h under none refl)

-- ---- whom an entry concerns stays

-- a front of a run is one
pub run_before : (t : House) (h k : List Entry) → IsRunFrom t [] (h ++ k) → IsRunFrom t [] h
run_before t h k run = record {
  begins = (h, refl);
  accepted = λ before rest e same long.
      run.accepted before (rest ++ k) e (ap (λ (l : List Entry). l ++ k) same ∙ append_assoc before (e ∷ rest) k) long;
}

-- of a node that is there, and of a change
node_stays : (t : House) (h k before behind : List Entry) (e : Entry) (f : List ℕ) (n : EntryPart) → IsRunFrom t [] h
    → h ≡ before ++ e ∷ behind → named_node e.command ≡ Some n
    → is_between f (node_of (records (h ++ k)) n) ≡ is_between f (node_of (records h) n)
node_stays t h k before behind e f n run cut names =
    let named = named_there t h before behind e n run cut names in
    ap (is_between f) (node_later h k n named.node named.there ∙ sym named.there)

change_stays : (t : House) (h k before behind : List Entry) (e : Entry) (f : List ℕ) (c : Command) → IsRunFrom t [] h
    → h ≡ before ++ e ∷ behind → e.command ≡ c
    → change_concerns t.house (h ++ k) f e.firm c ≡ change_concerns t.house h f e.firm c
change_stays t h k before behind e f (Trade _ _ _ _ _) run cut is = refl
change_stays t h k before behind e f (Split _ _) run cut is = refl
change_stays t h k before behind e f (Claim n _) run cut is =
    node_stays t h k before behind e f n run cut (ap named_node is)
change_stays t h k before behind e f (Refuse n) run cut is =
    node_stays t h k before behind e f n run cut (ap named_node is)
change_stays t h k before behind e f (Cancel n) run cut is =
    node_stays t h k before behind e f n run cut (ap named_node is)
change_stays t h k before behind e f (Agree _ _ _ _) run cut is = refl
change_stays t h k before behind e f (Raise _ _) run cut is = refl
change_stays t h k before behind e f (Initiate _) run cut is = refl
change_stays t h k before behind e f (Decline _) run cut is = refl
change_stays t h k before behind e f (Reverse _) run cut is = refl

-- the change of this number, which an accepted Initiate, Decline or Reverse names
record IsOpened (h : List Entry) (n : ℕ) : Type 0 where
  change : Record
  found : entry_of h n ≡ Some change

abbrev first_row : House → List Entry → List ℕ → (Record → Option Refusal) → ℕ → Option Refusal
first_row t h by own n = first (unless (knows_firm t by) UnknownFirm ∷ on_change t h by own (entry_of h n) ∷ [])

-- where it is accepted
opened : (t : House) (h before behind : List Entry) (e : Entry) (n : ℕ) (own : Record → Option Refusal)
    → h ≡ before ++ e ∷ behind → first_row t before e.firm own n ≡ None → IsOpened h n
opened t h before behind e n own cut free =
    let a = first_none (unless (knows_firm t e.firm) UnknownFirm)
    (on_change t before e.firm own (entry_of before n) ∷ []) free in
    let b = first_none (on_change t before e.firm own (entry_of before n)) [] a.1 in
    let o = open_from_none t before e.firm own (entry_of before n) b.0 in
    record {
      change = o.0;
      found = ap (λ (es : List Entry). entry_of es n) cut ∙ entry_more before (e ∷ behind) n o.0 o.1.found;
    }

named_stays : (t : House) (h k : List Entry) (f : List ℕ) (n : ℕ) → IsRunFrom t [] h → IsOpened h n
    → record_concerns t.house (h ++ k) f (entry_of (h ++ k) n) ≡ record_concerns t.house h f (entry_of h n)
named_stays t h k f n run opening =
    let r = opening.change in
    let c = cut_at n h r opening.found in
    let same = change_stays t h k c.before c.behind c.entry f c.entry.command run c.cut refl in
    let same' : change_concerns t.house (h ++ k) f r.firm r.command ≡ change_concerns t.house h f r.firm r.command =
    subst
    (λ (q : Record). change_concerns t.house (h ++ k) f q.firm q.command ≡ change_concerns t.house h f q.firm q.command)
    c.is same in
    ap (record_concerns t.house (h ++ k) f) (entry_more h k n r opening.found)
    ∙ (same' ∙ ap (record_concerns t.house h f) (sym opening.found))

-- of each command
pub concerns_stay : (t : House) (h k before behind : List Entry) (e : Entry) (f : List ℕ) (c : Command)
    → IsRunFrom t [] h → h ≡ before ++ e ∷ behind → e.command ≡ c
    → command_refusal t before e.firm c ≡ None → concerns t.house (h ++ k) f e.firm c ≡ concerns t.house h f e.firm c
concerns_stay t h k before behind e f (Trade a b i s l) run cut is free = refl
concerns_stay t h k before behind e f (Split n ps) run cut is free = refl
concerns_stay t h k before behind e f (Claim n a) run cut is free =
    change_stays t h k before behind e f (Claim n a) run cut is
concerns_stay t h k before behind e f (Refuse n) run cut is free =
    change_stays t h k before behind e f (Refuse n) run cut is
concerns_stay t h k before behind e f (Cancel n) run cut is free =
    change_stays t h k before behind e f (Cancel n) run cut is
concerns_stay t h k before behind e f (Agree _ _ _ _) run cut is free = refl
concerns_stay t h k before behind e f (Raise _ _) run cut is free = refl
concerns_stay t h k before behind e f (Initiate n) run cut is free =
    named_stays t h k f n run (opened t h before behind e n (initiate_rest before e.firm) cut free)
concerns_stay t h k before behind e f (Decline n) run cut is free =
    named_stays t h k f n run (opened t h before behind e n (decline_rest before) cut free)
concerns_stay t h k before behind e f (Reverse n) run cut is free =
    named_stays t h k f n run (opened t h before behind e n (reverse_rest t before) cut free)

-- a longer history is cut within its beginning
record IsCutWithin (h before : List Entry) (e : Entry) : Type 0 where
  behind : List Entry
  is : h ≡ before ++ e ∷ behind

-- that front
cut_within : (h k before behind : List Entry) (e : Entry) → h ++ k ≡ before ++ e ∷ behind → length before < length h
    → IsCutWithin h before e
cut_within [] k before behind e cut short = absurd (omega arith)
cut_within (x ∷ h) k [] behind e cut short = record { behind = h; is = ap (λ (y : Entry). y ∷ h) (cc) }
cut_within (x ∷ h) k (y ∷ before) behind e cut short =
    let head : x ≡ y = cc in
    let tail : h ++ k ≡ before ++ e ∷ behind = cc in
    let c = cut_within h k before behind e tail (omega (arith, short)) in
    record { behind = c.behind; is = ap (λ (z : Entry). z ∷ h) head ∙ ap (λ (l : List Entry). y ∷ l) c.is }

-- what concerned nobody between two numbers of a history concerns nobody later
none_later : (t : House) (h k : List Entry) (f : List ℕ) (low high : ℕ) → IsRunFrom t [] (h ++ k) → high ≤ length h
    → NoneBetween t.house h f low high → NoneBetween t.house (h ++ k) f low high
none_later t h k f low high run short none before behind e cut from to =
    let first = run_before t h k run in
    let c = cut_within h k before behind e cut (omega (arith, to, short)) in
    let free = allowed t before e (length before + 1) (first.accepted before c.behind e c.is (omega arith)) in
    concerns_stay t h k before c.behind e f e.command first c.is refl free.lawful ∙ none before c.behind e c.is from to

-- ---- the reading as a whole

-- no number that is kept is above that of the last entry, nor one of the first of them
taken_by : (top k d n : ℕ) (x : Entry) (fs : List Record) (b : Bool)
    → ((m : ℕ) → last_number k (numbers (take m fs)) < top) → ((m : ℕ) → last_number d (numbers (take m fs)) < top)
    → d < top → last_number d (numbers (take n (cond b (numbered_as k x ∷ fs) fs))) < top
taken_by top k d zero x fs b here there low = low
taken_by top k d (suc n) x fs true here there low = here n
taken_by top k d (suc n) x fs false here there low = there (suc n)

-- so the last of the first n
taken_top : (p : Record → Bool) (k d n : ℕ) (h : List Entry) → d < k + length h
    → last_number d (numbers (take n (filter p (numbered_from k h)))) < k + length h
taken_top p k d zero [] low = low
taken_top p k d (suc n) [] low = low
taken_top p k d n (x ∷ h) low =
    let d' : d < k + 1 + length h = omega (arith, low) in
    let k' : k < k + 1 + length h = omega arith in
    taken_by (k + suc (length h)) k d n x (filter p (numbered_from (k + 1) h)) (p (numbered_as k x))
    (λ m. let here = taken_top p (k + 1) k m h k' in omega (arith, here))
    (λ m. let there = taken_top p (k + 1) d m h d' in omega (arith, there)) low

-- there is a report of each entry that concerns the firm
as_many : (t : House) (h : List Entry) (f : List ℕ) (after : ℕ) → IsRunFrom t [] h
    → length (reports_for t.house h f after) ≡ length (entries_for t.house h f after)
as_many t h f after run =
    let e = ap (λ (ns : List ℕ). length ns) (each_told t h f after run) in
    omega (
      arith,
      e,
      length-map (reports_for t.house h f after) (λ (p : Report). p.number),
      length-map (entries_for t.house h f after) (λ (q : Record). q.number),
    )

looked_by : (t : House) (h : List Entry) (f : List ℕ) (after : ℕ) (b : Bool) → IsRunFrom t [] h
    → nat_lt (length (reports_for t.house h f after)) most_reports ≡ b
    → NoneBetween t.house h f (last_told after (reports_for t.house h f after))
    (cond b (length h) (last_told after (reports_for t.house h f after)))
looked_by t h f after true run few =
    let short : length (reports_for t.house h f after) < most_reports =
    (Decides-ltb (length (reports_for t.house h f after)) most_reports).0 few in
    let many = as_many t h f after run in
    subst (λ (n : ℕ). NoneBetween t.house h f n (length h)) (sym (ap (last_number after) (each_told t h f after run)))
    (none_behind t.house h f after (omega (arith, short, many)))
looked_by t h f after false run full = λ before behind e cut low high. absurd (omega (arith, low, high))

-- what a reading has looked at, and told nothing of, doesn't concern the firm
none_passed : (t : House) (h : List Entry) (f : List ℕ) (after : ℕ) → IsRunFrom t [] h
    → NoneBetween t.house h f (last_told after (reports_for t.house h f after))
    (looked_to after (length h) (reports_for t.house h f after))
none_passed t h f after run =
    looked_by t h f after (nat_lt (length (reports_for t.house h f after)) most_reports) run refl

rises_by : (last long : ℕ) (b : Bool) → last ≤ long → (last ≤ cond b long last) × (cond b long last ≤ long)
rises_by last long true low = (low, omega arith)
rises_by last long false low = (omega arith, low)

-- a reading looks at least up to the last that it tells of, and at most to the end
rises : (t : House) (h : List Entry) (f : List ℕ) (after : ℕ) → IsRunFrom t [] h → after ≤ length h
    → (last_told after (reports_for t.house h f after) ≤ looked_to after (length h) (reports_for t.house h f after))
    × (looked_to after (length h) (reports_for t.house h f after) ≤ length h)
rises t h f after run within =
    let p : Record → Bool = λ r. nat_lt after r.number && concerns t.house h f r.firm r.command in
    let same : last_told after (reports_for t.house h f after)
    ≡ last_number after (numbers (entries_for t.house h f after)) =
    ap (last_number after) (each_told t h f after run) in
    let low : last_number after (numbers (take most_reports (filter p (records h)))) < 1 + length h =
    taken_top p 1 after most_reports h (omega (arith, within)) in
    rises_by (last_told after (reports_for t.house h f after)) (length h)
    (nat_lt (length (reports_for t.house h f after)) most_reports) (omega (arith, same, low))

-- of two ranges that meet
joined_by : (low mid high i : ℕ) (c b : Bool) → nat_lt i mid ≡ b → (low ≤ i → i < mid → c ≡ false)
    → (mid ≤ i → i < high → c ≡ false) → low ≤ i → i < high → c ≡ false
joined_by low mid high i c true place first second from to = first from ((Decides-ltb i mid).0 place)
joined_by low mid high i c false place first second from to = second (ltb-false i mid place) to

joined : (house : List ℕ) (h : List Entry) (f : List ℕ) (low mid high : ℕ) → NoneBetween house h f low mid
    → NoneBetween house h f mid high → NoneBetween house h f low high
joined house h f low mid high first second before behind e cut =
    joined_by low mid high (length before) (concerns house h f e.firm e.command) (nat_lt (length before) mid) refl
    (first before behind e cut) (second before behind e cut)

-- where a connection stands behind a reading that tells these reports
looked_on : (house : List ℕ) (h : List Entry) (f : List ℕ) (sent looked : ℕ) (told : List Report)
    → HasLooked house h f sent looked → NoneBetween house h f (last_told looked told) (looked_to looked (length h) told)
    → last_told looked told ≤ looked_to looked (length h) told → looked_to looked (length h) told ≤ length h
    → HasLooked house h f (last_told sent told) (looked_to looked (length h) told)
looked_on house h f sent looked [] was none low high =
    let above = was.above in
    let within = was.within in
    record {
      above = omega (arith, above, within);
      within = omega arith;
      none = joined house h f sent looked (length h) was.none none;
    }
looked_on house h f sent looked (p ∷ told) was none low high = record { above = low; within = high; none = none }

-- a connection that has looked up to an entry has looked behind its next reading up to that one's
pub has_read : (t : House) (h : List Entry) (f : List ℕ) (sent looked : ℕ) → IsRunFrom t [] h
    → HasLooked t.house h f sent looked
    → HasLooked t.house h f (last_told sent (reports_for t.house h f looked))
    (looked_to looked (length h) (reports_for t.house h f looked))
has_read t h f sent looked run was =
    let up = rises t h f looked run was.within in
    looked_on t.house h f sent looked (reports_for t.house h f looked) was (none_passed t h f looked run) up.0 up.1

-- it has looked as far in a longer history
pub has_looked_later : (t : House) (h k : List Entry) (f : List ℕ) (sent looked : ℕ) → IsRunFrom t [] (h ++ k)
    → HasLooked t.house h f sent looked → HasLooked t.house (h ++ k) f sent looked
has_looked_later t h k f sent looked run was =
    let within = was.within in
    record {
      above = was.above;
      within = omega (arith, within, length-append h k);
      none = none_later t h k f sent looked run was.within was.none;
    }

-- its next reading tells what one above the last report tells
pub reads_the_same : (house : List ℕ) (h : List Entry) (f : List ℕ) (sent looked : ℕ) → HasLooked house h f sent looked
    → reports_for house h f looked ≡ reports_for house h f sent
reads_the_same house h f sent looked was = sym (same_reading house h f sent looked was.above was.none)

-- ---- all readings of a connection

run_on_by : (t : House) (h g : List Entry) → IsRunFrom t [] h → IsRunFrom t h g → (before behind : List Entry)
    (e : Entry) → g ≡ before ++ e ∷ behind → (b : Bool) → nat_lt (length before) (length h) ≡ b
    → answer_to t before (call_of e) ≡ Accepted (length before + 1) e.status
run_on_by t h g first on before behind e cut true place =
    let c = cut_within h on.begins.0 before behind e (sym on.begins.1 ∙ cut)
    ((Decides-ltb (length before) (length h)).0 place) in
    first.accepted before c.behind e c.is (omega arith)
run_on_by t h g first on before behind e cut false place =
    on.accepted before behind e cut (ltb-false (length before) (length h) place)

-- what goes on from a history of a run is one
run_on : (t : House) (h g : List Entry) → IsRunFrom t [] h → IsRunFrom t h g → IsRunFrom t [] g
run_on t h g first on = record {
  begins = (g, refl);
  accepted =
      λ before behind e cut low. run_on_by t h g first on before behind e cut (nat_lt (length before) (length h)) refl;
}

-- from one reading on
same_from : (t : House) (h : List Entry) (f : List ℕ) (sent looked : ℕ) (hs : List (List Entry)) → IsRunFrom t [] h
    → HasLooked t.house h f sent looked → Grow t h hs
    → told_above_looked t.house f looked hs ≡ told_above_sent t.house f sent hs
same_from t h f sent looked [] run was grow = refl
same_from t h f sent looked (g ∷ gs) run was grow =
    let on = run_on t h g run grow.0 in
    let k = grow.0.begins in
    let begins : HasLooked t.house g f sent looked =
    subst (λ (l : List Entry). HasLooked t.house l f sent looked) (sym k.1)
    (has_looked_later t h k.0 f sent looked (subst (λ (l : List Entry). IsRunFrom t [] l) k.1 on) was) in
    let told = reads_the_same t.house g f sent looked begins in
    ap (λ rs. reports_for t.house g f looked ∷ rs)
    (same_from t g f (last_told sent (reports_for t.house g f looked))
    (looked_to looked (length g) (reports_for t.house g f looked)) gs on (has_read t g f sent looked on begins) grow.1)
    ∙ ap (λ (rs : List Report). rs ∷ told_above_sent t.house f (last_told sent rs) gs) told

-- a connection before its first reading
none_yet : (house : List ℕ) (h : List Entry) (f : List ℕ) → HasLooked house h f 0 0
none_yet house h f = record {
  above = omega arith;
  within = omega arith;
  none = λ before behind e cut low high. absurd (omega (arith, high));
}

-- all its readings tell the same by the one way and the other
pub all_the_same : (t : House) (h : List Entry) (f : List ℕ) (hs : List (List Entry)) → IsRunFrom t [] h → Grow t h hs
    → told_above_looked t.house f 0 hs ≡ told_above_sent t.house f 0 hs
all_the_same t h f hs run grow = same_from t h f 0 0 hs run (none_yet t.house h f) grow
