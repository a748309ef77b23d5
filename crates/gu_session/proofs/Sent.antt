-- What is new, and what was sent before, among the messages that a step sends.
use Rattle.std.proofs.Common.{◌≡◌, ℕ, ◌+◌, nat_lt, List, [], ◌∷◌, ◌++◌, map, ap, ◌∙◌, refl, append-nil}
use Rattle.std.specs.Prelude.{Option, Some, None, is_none, is_some}
use Rattle.std.proofs.lemmas.List.Elements.{filter-append}
use Rattle.gu_codec.specs.Messages.{Message}
use Rattle.gu_session.specs.Keeping.{Kept}
use Rattle.gu_session.specs.declared.verdict.Span.{Span}
use Rattle.gu_session.specs.declared.verdict.Say.{Say}
use Rattle.gu_session.specs.Going.{Going}
use Rattle.gu_session.specs.Steps.{resent, gap_fill, with_gaps, within, resends, sayings, new}
use Rattle.gu_session.specs.Runs.{new_of, again_of}
use Rattle.gu_base.proofs.Basics.{either_way}

-- ---- none of what is sent again is new

no_gap_new : (time : List ℕ) (from next : ℕ) → new_of (gap_fill time from next) ≡ []
no_gap_new time from next =
    either_way (λ (t : List Going). new_of t ≡ []) (nat_lt from next) _ _ (λ _. refl) (λ _. refl)

none_new : (time : List ℕ) (from next : ℕ) (ms : List Kept) → new_of (with_gaps time from next ms) ≡ []
none_new time from next [] = no_gap_new time from next
none_new time from next (m ∷ ms) =
    filter-append (λ (g : Going). is_none g.first) (gap_fill time from m.number)
    (resent m ∷ with_gaps time (m.number + 1) next ms)
    ∙ ap (λ (t : List Going). t ++ new_of (with_gaps time (m.number + 1) next ms)) (no_gap_new time from m.number)
    ∙ none_new time (m.number + 1) next ms

resends_new : (time : List ℕ) (kept : List Kept) (span : Option Span) → new_of (resends time kept span) ≡ []
resends_new time kept None = refl
resends_new time kept (Some span) = none_new time span.from span.next (within span.from span.next kept)

-- ---- and all of it was sent before

gap_again : (time : List ℕ) (from next : ℕ) → again_of (gap_fill time from next) ≡ gap_fill time from next
gap_again time from next =
    either_way (λ (t : List Going). again_of t ≡ t) (nat_lt from next) _ _ (λ _. refl) (λ _. refl)

all_again : (time : List ℕ) (from next : ℕ) (ms : List Kept)
    → again_of (with_gaps time from next ms) ≡ with_gaps time from next ms
all_again time from next [] = gap_again time from next
all_again time from next (m ∷ ms) =
    filter-append (λ (g : Going). is_some g.first) (gap_fill time from m.number)
    (resent m ∷ with_gaps time (m.number + 1) next ms)
    ∙ ap (λ (t : List Going). t ++ resent m ∷ again_of (with_gaps time (m.number + 1) next ms))
    (gap_again time from m.number)
    ∙ ap (λ (t : List Going). gap_fill time from m.number ++ resent m ∷ t) (all_again time (m.number + 1) next ms)

resends_again : (time : List ℕ) (kept : List Kept) (span : Option Span)
    → again_of (resends time kept span) ≡ resends time kept span
resends_again time kept None = refl
resends_again time kept (Some span) = all_again time span.from span.next (within span.from span.next kept)

-- ---- what is said is new

sayings_new : (came : Option Message) (number : ℕ) (s : Option Say)
    → new_of (sayings came number s) ≡ sayings came number s
sayings_new came number None = refl
sayings_new came number (Some s) = refl

sayings_again : (came : Option Message) (number : ℕ) (s : Option Say) → again_of (sayings came number s) ≡ []
sayings_again came number None = refl
sayings_again came number (Some s) = refl

-- ---- of a step

pub acts_new : (time : List ℕ) (kept : List Kept) (span : Option Span) (came : Option Message) (number : ℕ)
    (s : Option Say) → new_of (resends time kept span ++ sayings came number s) ≡ sayings came number s
acts_new time kept span came number s =
    filter-append (λ (g : Going). is_none g.first) (resends time kept span) (sayings came number s)
    ∙ ap (λ (t : List Going). t ++ new_of (sayings came number s)) (resends_new time kept span)
    ∙ sayings_new came number s

pub acts_again : (time : List ℕ) (kept : List Kept) (span : Option Span) (came : Option Message) (number : ℕ)
    (s : Option Say) → again_of (resends time kept span ++ sayings came number s) ≡ resends time kept span
acts_again time kept span came number s =
    filter-append (λ (g : Going). is_some g.first) (resends time kept span) (sayings came number s)
    ∙ ap (λ (t : List Going). again_of (resends time kept span) ++ t) (sayings_again came number s)
    ∙ append-nil (again_of (resends time kept span)) ∙ resends_again time kept span

pub tells_new : (ms : List Kept) → new_of (map new ms) ≡ map new ms
tells_new [] = refl
tells_new (m ∷ ms) = ap (λ (t : List Going). new m ∷ t) (tells_new ms)

pub tells_again : (ms : List Kept) → again_of (map new ms) ≡ []
tells_again [] = refl
tells_again (m ∷ ms) = tells_again ms
