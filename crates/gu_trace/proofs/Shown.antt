-- The parts that a report shows.
use Rattle.std.proofs.Common.{◌≡◌, ℕ, zero, suc, ◌+◌, ◌<◌, ◌≤◌, ◌^◌, Bool, true, false, ◌||◌, List, [], ◌∷◌, ◌++◌, refl}
use Rattle.std.proofs.Common.{sym, ◌∙◌, ap, arith, cond, length, drop, get_or, append_assoc}
use Rattle.std.specs.Prelude.{filter, sum_by, Some, None, slice_get, bytes_eq}
use Rattle.std.specs.List.{All, cons_option}
use Rattle.std.proofs.lemmas.List.Elements.{All-nil, All-cons, All-head, All-tail, All-filter}
use Rattle.std.proofs.lemmas.Option.{slice_get_read}
use Rattle.std.proofs.lemmas.List.Sums.{sum_by-le, length-filter, count_by-le-length}
use Rattle.gu_base.specs.declared.command.Part.{Part}
use Rattle.gu_base.specs.declared.report.ReportPart.{ReportPart}
use Rattle.gu_book.specs.Limits.{PartsWithinLimits}
use Rattle.gu_trace.specs.Reports.{report_part, report_parts, parts_shown, shown_or_not}

-- the parts from a place on: the one there, and then the others
pub part_step : (n i j : ℕ) (by : List ℕ) (ps : List Part) (p : Part) → slice_get ps j ≡ Some p
    → report_parts n (i + j) by (drop j ps)
    ≡ report_part n (i + j) by p ∷ report_parts n (i + j + 1) by (drop (j + 1) ps)
part_step n i j by [] p found = absurd (cc)
part_step n i zero by (q ∷ ps) p found =
    let here : q ≡ p = cc in ap (λ x. report_part n (i + 0) by x ∷ report_parts n (i + 0 + 1) by ps) here
part_step n i (suc j) by (q ∷ ps) p found =
    let e : i + suc j ≡ i + 1 + j = omega arith in
    let d : suc (j + 1) ≡ suc j + 1 = omega arith in
    ap (λ m. report_parts n m by (drop j ps)) e
    ∙ (part_step n (i + 1) j by ps p found
    ∙ (ap (λ m. report_part n m by p ∷ report_parts n (m + 1) by (drop (j + 1) ps)) (sym e)
    ∙ ap (λ m. report_part n (i + suc j) by p ∷ report_parts n (i + suc j + 1) by (drop m (q ∷ ps))) d))

as_many : (n i : ℕ) (by : List ℕ) (ps : List Part) → length (report_parts n i by ps) ≡ length ps
as_many n i by [] = refl
as_many n i by (p ∷ ps) = ap suc (as_many n (i + 1) by ps)

each_small : (n i : ℕ) (by : List ℕ) (ps : List Part) → All (λ p. p.lots ≤ 10000000) ps
    → All (λ p. p.lots ≤ 10000000) (report_parts n i by ps)
each_small n i by [] all = All-nil (λ p. p.lots ≤ 10000000)
each_small n i by (p ∷ ps) all =
    All-cons (λ p. p.lots ≤ 10000000) (report_part n i by p) (report_parts n (i + 1) by ps)
    (All-head (λ p. p.lots ≤ 10000000) p ps all)
    (each_small n (i + 1) by ps (All-tail (λ p. p.lots ≤ 10000000) p ps all))

-- no more parts are shown than there are
pub shown_few : (f : List ℕ) (n : ℕ) (by : List ℕ) (ps : List Part) → length (parts_shown f n by ps) ≤ length ps
shown_few f n by ps =
    let p : ReportPart → Bool = λ q. bytes_eq by f || bytes_eq q.firm f in
    let a = length-filter p (report_parts n 1 by ps) in
    let b = count_by-le-length p (report_parts n 1 by ps) in
    let c = as_many n 1 by ps in
    omega (arith, a, b, c)

-- their lots fit
pub shown_fit : (f : List ℕ) (n : ℕ) (by : List ℕ) (ps : List Part) → PartsWithinLimits ps
    → sum_by (λ p. p.lots) (parts_shown f n by ps) < 2 ^ 64
shown_fit f n by ps within =
    let all = All-filter (λ q. bytes_eq by f || bytes_eq q.firm f) (λ q. q.lots ≤ 10000000) (report_parts n 1 by ps)
    (each_small n 1 by ps within.small) in
    let a = sum_by-le (λ q. q.lots) 10000000 (parts_shown f n by ps) all in
    let b = shown_few f n by ps in
    let c = within.few in
    omega (arith, a, b, c)

-- the parts from a place on that are shown
abbrev pub rest_shown : List ℕ → ℕ → List ℕ → List Part → ℕ → List ReportPart
rest_shown f n by ps i = filter (λ p. bytes_eq by f || bytes_eq p.firm f) (report_parts n (1 + i) by (drop i ps))

one_more : (b : Bool) (r : ReportPart) (rs : List ReportPart)
    → cond b (r ∷ rs) rs ≡ cons_option (cond b (Some r) None) rs
one_more true r rs = refl
one_more false r rs = refl

next_shown : (f : List ℕ) (n : ℕ) (by : List ℕ) (ps : List Part) (i : ℕ) (p : Part) → slice_get ps i ≡ Some p
    → rest_shown f n by ps i ≡ cons_option (shown_or_not f n (i + 1) by p) (rest_shown f n by ps (i + 1))
next_shown f n by ps i p found =
    let test : ReportPart → Bool = λ q. bytes_eq by f || bytes_eq q.firm f in
    let here : 1 + i ≡ i + 1 = omega arith in
    let behind : 1 + i + 1 ≡ 1 + (i + 1) = omega arith in
    ap (filter test) (part_step n 1 i by ps p found)
    ∙ (one_more (bytes_eq by f || bytes_eq p.firm f) (report_part n (1 + i) by p)
    (filter test (report_parts n (1 + i + 1) by (drop (i + 1) ps)))
    ∙ (ap (λ m. cons_option (shown_or_not f n m by p) (filter test (report_parts n (1 + i + 1) by (drop (i + 1) ps))))
    here
    ∙ ap (λ m. cons_option (shown_or_not f n (i + 1) by p) (filter test (report_parts n m by (drop (i + 1) ps))))
    behind))

-- one part more is shown, or passed over
pub showing : (f : List ℕ) (n : ℕ) (by : List ℕ) (ps : List Part) (i : ℕ) (p : Part) (q : ReportPart)
    (before whole : List ReportPart) → i < length ps → p ≡ get_or ps i p → shown_or_not f n (i + 1) by p ≡ Some q
    → before ++ rest_shown f n by ps i ≡ whole → (before ++ q ∷ []) ++ rest_shown f n by ps (i + 1) ≡ whole
showing f n by ps i p q before whole within is shows so_far =
    append_assoc before (q ∷ []) (rest_shown f n by ps (i + 1))
    ∙ (ap (λ o. before ++ cons_option o (rest_shown f n by ps (i + 1))) (sym shows)
    ∙ (ap (λ rs. before ++ rs) (sym (next_shown f n by ps i p (slice_get_read ps (length ps) i p refl within is)))
    ∙ so_far))

pub passing : (f : List ℕ) (n : ℕ) (by : List ℕ) (ps : List Part) (i : ℕ) (p : Part) (before whole : List ReportPart)
    → i < length ps → p ≡ get_or ps i p → shown_or_not f n (i + 1) by p ≡ None
    → before ++ rest_shown f n by ps i ≡ whole → before ++ rest_shown f n by ps (i + 1) ≡ whole
passing f n by ps i p before whole within is shows so_far =
    ap (λ o. before ++ cons_option o (rest_shown f n by ps (i + 1))) (sym shows)
    ∙ (ap (λ rs. before ++ rs) (sym (next_shown f n by ps i p (slice_get_read ps (length ps) i p refl within is)))
    ∙ so_far)
