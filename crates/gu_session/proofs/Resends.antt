-- What is sent again: each number of its span once, and what was sent with it.
use Rattle.std.proofs.Common.{◌≡◌, ℕ, zero, suc, ◌+◌, ◌-◌, ◌<◌, ◌≤◌, true, nat_lt, nat_le, ◌&&◌, List, [], ◌∷◌, ◌++◌}
use Rattle.std.proofs.Common.{length, map, drop, refl, subst, arith, append-nil}
use Rattle.std.specs.Prelude.{Option, Some, None, IfSome}
use Rattle.std.specs.List.{All, AllByRecursion, Contains}
use Rattle.std.proofs.lemmas.Bool.{ltb-true}
use Rattle.std.proofs.lemmas.Bool.Decides.{nat_tests}
use Rattle.std.proofs.lemmas.List.Elements.{All-nil, All-cons, All-append, All-weaker, All-drop, All-filter}
use Rattle.std.proofs.lemmas.List.Elements.{recursion_from_All, Contains-append_left, Contains-append_right}
use Rattle.gu_session.specs.Keeping.{Kept}
use Rattle.gu_session.specs.declared.kept.AppType.{AppType}
use Rattle.gu_session.specs.declared.verdict.Span.{Span}
use Rattle.gu_session.specs.Going.{Going}
use Rattle.gu_session.specs.Steps.{resent, filling, gap_fill, with_gaps, within, resends, kept_from, last_kept, new}
use Rattle.gu_session.specs.Runs.{Covers, CoversSpan}
use Rattle.gu_base.proofs.Basics.{either_way}

-- ---- the kept messages' numbers rise, from one number to below another

abbrev pub RisesTo : ℕ → List Kept → ℕ → Type 0
RisesTo low [] high = low ≤ high
RisesTo low (m ∷ ms) high = (low ≤ m.number) × RisesTo (m.number + 1) ms high

-- of other bounds
rises_lower : (low lower high : ℕ) (ms : List Kept) → lower ≤ low → RisesTo low ms high → RisesTo lower ms high
rises_lower low lower high [] le h = omega arith
rises_lower low lower high (m ∷ ms) le h = (omega (arith, h.0), h.1)

pub rises_higher : (low high higher : ℕ) (ms : List Kept) → high ≤ higher → RisesTo low ms high → RisesTo low ms higher
rises_higher low high higher [] le h = omega arith
rises_higher low high higher (m ∷ ms) le h = (h.0, rises_higher (m.number + 1) high higher ms le h.1)

-- of two lists, of the last ones, of new ones
rises_append : (low mid high : ℕ) (xs ys : List Kept) → RisesTo low xs mid → RisesTo mid ys high
    → RisesTo low (xs ++ ys) high
rises_append low mid high [] ys h k = rises_lower mid low high ys h k
rises_append low mid high (m ∷ ms) ys h k = (h.0, rises_append (m.number + 1) mid high ms ys h.1 k)

rises_drop : (n low high : ℕ) (ms : List Kept) → RisesTo low ms high → RisesTo low (drop n ms) high
rises_drop zero low high ms h = h
rises_drop (suc n) low high [] h = h
rises_drop (suc n) low high (m ∷ ms) h =
    rises_drop n low high ms (rises_lower (m.number + 1) low high ms (omega (arith, h.0)) h.1)

rises_fresh : (time : List ℕ) (n : ℕ) (xs : List (AppType × List ℕ))
    → RisesTo n (kept_from time n xs) (n + length (kept_from time n xs))
rises_fresh time n [] = omega arith
rises_fresh time n (x ∷ xs) =
    let rest = rises_fresh time (n + 1) xs in
    let e : n + 1 + length (kept_from time (n + 1) xs) ≡ n + suc (length (kept_from time (n + 1) xs)) = omega arith in
    (omega arith, subst (RisesTo (n + 1) (kept_from time (n + 1) xs)) e rest)

pub rises_last : (low next : ℕ) (kept : List Kept) (time : List ℕ) (xs : List (AppType × List ℕ))
    → RisesTo low kept next
    → RisesTo low (last_kept (kept ++ kept_from time next xs)) (next + length (kept_from time next xs))
rises_last low next kept time xs h =
    rises_drop (length (kept ++ kept_from time next xs) - 256) low _ (kept ++ kept_from time next xs)
    (rises_append low next _ kept (kept_from time next xs) h (rises_fresh time next xs))

-- ---- each number once

-- messages with numbers from one to below another, which rise
abbrev Inside : ℕ → ℕ → List Kept → Type 0
Inside from next [] = Unit {0}
Inside from next (m ∷ ms) = (from ≤ m.number) × (m.number < next) × Inside (m.number + 1) next ms

-- the kept messages of a span
is_inside : (from next n : ℕ) → (nat_le from n && nat_lt n next) ≡ true → (from ≤ n) × (n < next)
is_inside from next n h = (grind (arith, nat_tests), grind (arith, nat_tests))

inside : (from next at low high : ℕ) (ms : List Kept) → ((n : ℕ) → low ≤ n → from ≤ n → at ≤ n) → RisesTo low ms high
    → Inside at next (within from next ms)
inside from next at low high [] f h = tt
inside from next at low high (m ∷ ms) f h =
    either_way (Inside at next) (nat_le from m.number && nat_lt m.number next) _ _
    (λ t. let is = is_inside from next m.number t in
    (f m.number h.0 is.0, is.1, inside from next (m.number + 1) (m.number + 1) high ms (λ n l g. l) h.1))
    (λ t. inside from next at (m.number + 1) high ms (λ n l g. f n (omega (arith, h.0)) g) h.1)

-- with the gaps between them
covers_gap : (time : List ℕ) (from number next : ℕ) (rest : List Going) → from ≤ number → Covers number rest next
    → Covers from (gap_fill time from number ++ rest) next
covers_gap time from number next rest le h =
    either_way (λ (t : List Going). Covers from (t ++ rest) next) (nat_lt from number) _ _
    (λ t. (refl, ltb-true _ _ t, h))
    (λ t. let e : number ≡ from = grind (arith, nat_tests) in subst (λ (n : ℕ). Covers n rest next) e h)

covers_gaps : (time : List ℕ) (from next : ℕ) (ms : List Kept) → from ≤ next → Inside from next ms
    → Covers from (with_gaps time from next ms) next
covers_gaps time from next [] le h =
    subst (λ (t : List Going). Covers from t next) (append-nil (gap_fill time from next))
    (covers_gap time from next next [] le refl)
covers_gaps time from next (m ∷ ms) le h =
    covers_gap time from m.number next (resent m ∷ with_gaps time (m.number + 1) next ms) h.0
    (refl, omega arith, covers_gaps time (m.number + 1) next ms (omega (arith, h.1)) h.2)

pub covers_span : (time : List ℕ) (kept : List Kept) (span : Option Span) (low high : ℕ) → RisesTo low kept high
    → IfSome span (λ s. s.from ≤ s.next) → CoversSpan span (resends time kept span)
covers_span time kept None low high h le = refl
covers_span time kept (Some span) low high h le =
    covers_gaps time span.from span.next (within span.from span.next kept) le
    (inside span.from span.next span.from low high kept (λ n l f. f) h)

-- ---- as it was sent

-- the message as it is sent for the first time
abbrev pub as_new : Going → Going
as_new m = record m { first = None }

-- a message that fills a gap, or one that was sent before at the time that it tells as its first
pub data IsEcho (sent : List (List ℕ × Going)) (m : Going) : Type 0 where
  Fills : (time : List ℕ) → (from next : ℕ) → m ≡ filling time from next → IsEcho sent m
  Repeats : (time : List ℕ) → m.first ≡ Some time → Contains sent (time, as_new m) → IsEcho sent m

-- a kept message was sent, at the time that is kept with it
abbrev pub WasSent : List (List ℕ × Going) → Kept → Type 0
WasSent sent k = Contains sent (k.sent, new k)

pub sent_more : (sent more : List (List ℕ × Going)) (kept : List Kept) → All (WasSent sent) kept
    → All (WasSent (sent ++ more)) kept
sent_more sent more kept h =
    All-weaker (WasSent sent) (WasSent (sent ++ more)) (λ k c. Contains-append_left sent more (k.sent, new k) c) kept h

-- new messages at a time
abbrev pub at_time : List ℕ → List Going → List (List ℕ × Going)
at_time time ms = map (λ m. (time, m)) ms

fresh_sent : (time : List ℕ) (n : ℕ) (xs : List (AppType × List ℕ))
    → All (WasSent (at_time time (map new (kept_from time n xs)))) (kept_from time n xs)
fresh_sent time n [] = All-nil (WasSent [])
fresh_sent time n (x ∷ xs) =
    let k : Kept = record { kind = x.0; number = n; sent = time; body = x.1 } in
    let rest = kept_from time (n + 1) xs in
    let later = at_time time (map new rest) in
    All-cons (WasSent ((time, new k) ∷ later)) k rest (0, omega arith, refl)
    (All-weaker (WasSent later) (WasSent ((time, new k) ∷ later))
    (λ m c. Contains-append_right ((time, new k) ∷ []) later (m.sent, new m) c) rest (fresh_sent time (n + 1) xs))

pub last_sent : (sent : List (List ℕ × Going)) (kept : List Kept) (time : List ℕ) (n : ℕ) (xs : List (AppType × List ℕ))
    → All (WasSent sent) kept
    → All (WasSent (sent ++ at_time time (map new (kept_from time n xs)))) (last_kept (kept ++ kept_from time n xs))
last_sent sent kept time n xs h =
    let fresh = kept_from time n xs in
    let more = at_time time (map new fresh) in
    let late = All-weaker (WasSent more) (WasSent (sent ++ more))
    (λ k c. Contains-append_right sent more (k.sent, new k) c) fresh (fresh_sent time n xs) in
    All-drop (WasSent (sent ++ more)) (length (kept ++ fresh) - 256) (kept ++ fresh)
    (All-append (WasSent (sent ++ more)) kept fresh (sent_more sent more kept h) late)

-- gaps, messages, and all of a span
gap_fills : (sent : List (List ℕ × Going)) (time : List ℕ) (from next : ℕ) → All (IsEcho sent) (gap_fill time from next)
gap_fills sent time from next =
    either_way (All (IsEcho sent)) (nat_lt from next) _ _
    (λ _. All-cons (IsEcho sent) _ [] (Fills time from next refl) (All-nil (IsEcho sent))) (λ _. All-nil (IsEcho sent))

gaps_again : (sent : List (List ℕ × Going)) (time : List ℕ) (from next : ℕ) (ms : List Kept)
    → AllByRecursion (WasSent sent) ms → All (IsEcho sent) (with_gaps time from next ms)
gaps_again sent time from next [] h = gap_fills sent time from next
gaps_again sent time from next (m ∷ ms) h =
    All-append (IsEcho sent) (gap_fill time from m.number) (resent m ∷ with_gaps time (m.number + 1) next ms)
    (gap_fills sent time from m.number)
    (All-cons (IsEcho sent) (resent m) (with_gaps time (m.number + 1) next ms) (Repeats m.sent refl h.0)
    (gaps_again sent time (m.number + 1) next ms h.1))

pub resends_again : (sent : List (List ℕ × Going)) (time : List ℕ) (kept : List Kept) (span : Option Span)
    → All (WasSent sent) kept → All (IsEcho sent) (resends time kept span)
resends_again sent time kept None h = All-nil (IsEcho sent)
resends_again sent time kept (Some span) h =
    gaps_again sent time span.from span.next (within span.from span.next kept)
    (recursion_from_All (WasSent sent) (within span.from span.next kept)
    (All-filter (λ (m : Kept). nat_le span.from m.number && nat_lt m.number span.next) (WasSent sent) kept h))
