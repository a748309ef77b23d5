-- What holds of every list of steps: numbers, calls, the Logon and the close.
use Rattle.std.proofs.Common.{◌≡◌, ℕ, zero, suc, ◌+◌, ◌<◌, ◌≤◌, Bool, true, false, List, [], ◌∷◌, ◌++◌, length, map}
use Rattle.std.proofs.Common.{refl, sym, ap, subst, ◌∙◌, arith}
use Rattle.std.specs.Prelude.{Option, Some, None, IfSome, option_map}
use Rattle.std.specs.List.{All, cons_option}
use Rattle.std.proofs.lemmas.List.Elements.{All-nil, All-cons}
use Rattle.jiff.specs.Types.{Timestamp}
use Rattle.gu_session.specs.Steps.{Seen, Event, Called, idle, step_of, opening}
use Rattle.gu_session.specs.Runs.{outcomes, sent_anew, numbers_from, called, Rises, NeverFalls, IsToSomebody, IsOver}
use Rattle.gu_session.specs.Runs.{EndsOnce, waits_for, unless_closed, awaited_behind, IsAwaited, NewAreNumbered}
use Rattle.gu_session.specs.Runs.{CallsRise, ExpectedNeverFalls, SpeaksWithinTheSession, CallsAreAwaited}
use Rattle.gu_session.proofs.Lines.{IsEarly}
use Rattle.gu_session.proofs.Stepping.{moves_step}

-- before the Logon the number 1 is expected, or none has come, and no call waits
abbrev pub Early : Seen → Type 0
Early s = IsEarly s.link.firm s.link.expected s.link.waiting

-- ---- new messages

numbers_join : (n a b : ℕ) → numbers_from n a ++ numbers_from (n + a) b ≡ numbers_from n (a + b)
numbers_join n zero b =
    let e : n + 0 ≡ n = omega arith in
    let f : 0 + b ≡ b = omega arith in
    rw (e, f) refl
numbers_join n (suc a) b =
    let e : n + suc a ≡ n + 1 + a = omega arith in
    let f : suc a + b ≡ suc (a + b) = omega arith in
    rw (e, f) (ap (λ (t : List ℕ). n ∷ t) (numbers_join (n + 1) a b))

-- the new numbers of steps follow one another
numbered : (s : Seen) (es : List (Timestamp × Event)) → Early s
    → (k : ℕ) × (sent_anew (outcomes s es) ≡ numbers_from s.link.next k)
numbered s [] early = (0, refl)
numbered s (e ∷ es) early =
    let o = step_of e.0 s e.1 in
    let m = moves_step e.0 s e.1 early in
    let rest = numbered o.after es m.early in
    let tail : sent_anew (outcomes o.after es) ≡ numbers_from (s.link.next + m.many) rest.0 =
    rest.1 ∙ ap (λ (n : ℕ). numbers_from n rest.0) m.next in (
      m.many + rest.0,
      ap (λ (t : List ℕ). t ++ sent_anew (outcomes o.after es)) m.new
          ∙ ap (λ (t : List ℕ). numbers_from s.link.next m.many ++ t) tail ∙ numbers_join s.link.next m.many rest.0,
    )

length_numbers : (n k : ℕ) → length (numbers_from n k) ≡ k
length_numbers n zero = refl
length_numbers n (suc k) = ap suc (length_numbers (n + 1) k)

pub new_are_numbered : NewAreNumbered
new_are_numbered t never es =
    let n = numbered (opening t never) es (omega arith, refl) in
    n.1 ∙ ap (numbers_from 1) (sym (ap length n.1 ∙ length_numbers 1 n.0))

-- ---- numbers that come

-- the number of a call that is handed out, or none
rise_first : (c : Option Called) (rest : List ℕ) (low mid high : ℕ)
    → IfSome c (λ c. (mid ≤ c.number) × (c.number < high)) → low ≤ mid → mid ≤ high
    → ((k : ℕ) → k ≤ high → Rises k rest) → Rises low (cons_option (option_map (λ c. c.number) c) rest)
rise_first None rest low mid high h l m f = f low (omega arith)
rise_first (Some c) rest low mid high h l m f = (omega (arith, h.0), f (c.number + 1) (omega (arith, h.1)))

-- calls rise, and the expected number never falls
rise : (s : Seen) (es : List (Timestamp × Event)) (low : ℕ) → Early s → low ≤ s.link.expected
    → Rises low (called (outcomes s es))
rise s [] low early le = tt
rise s (e ∷ es) low early le =
    let o = step_of e.0 s e.1 in
    let m = moves_step e.0 s e.1 early in
    rise_first o.call (called (outcomes o.after es)) low s.link.expected o.after.link.expected m.call le m.expected
    (λ k h. rise o.after es k m.early h)

pub calls_rise : CallsRise
calls_rise t never es = rise (opening t never) es 1 (omega arith, refl) (omega arith)

never_falls : (s : Seen) (es : List (Timestamp × Event)) (low : ℕ) → Early s → low ≤ s.link.expected
    → NeverFalls low (map (λ o. o.after.link.expected) (outcomes s es))
never_falls s [] low early le = tt
never_falls s (e ∷ es) low early le =
    let o = step_of e.0 s e.1 in
    let m = moves_step e.0 s e.1 early in
    let here : low ≤ o.after.link.expected = omega (arith, m.expected) in
    (here, never_falls o.after es o.after.link.expected m.early (omega arith))

pub expected_never_falls : ExpectedNeverFalls
expected_never_falls t never es = never_falls (opening t never) es 1 (omega arith, refl) (omega arith)

-- ---- the Logon and the close

-- nothing goes to nobody
to_somebody : (s : Seen) (es : List (Timestamp × Event)) → Early s → All IsToSomebody (outcomes s es)
to_somebody s [] early = All-nil IsToSomebody
to_somebody s (e ∷ es) early =
    let o = step_of e.0 s e.1 in
    let m = moves_step e.0 s e.1 early in
    All-cons IsToSomebody o (outcomes o.after es) m.mute (to_somebody o.after es m.early)

-- a closed session does nothing
idle_when_closed : (now : Timestamp) (s : Seen) (e : Event) → s.link.closed ≡ true → step_of now s e ≡ idle now s
idle_when_closed now s e h = rw h refl

idle_is_over : (now : Timestamp) (s : Seen) → s.link.closed ≡ true → IsOver (idle now s)
idle_is_over now s h = record { closed = h; send = refl; call = refl; close = refl }

all_over : (s : Seen) (es : List (Timestamp × Event)) → s.link.closed ≡ true → All IsOver (outcomes s es)
all_over s [] h = All-nil IsOver
all_over s (e ∷ es) h =
    let o = step_of e.0 s e.1 in
    let is = idle_when_closed e.0 s e.1 h in
    let over : IsOver o = subst IsOver (sym is) (idle_is_over e.0 s h) in
    All-cons IsOver o (outcomes o.after es) over (all_over o.after es over.closed)

ends_once : (s : Seen) (es : List (Timestamp × Event)) → Early s → EndsOnce (outcomes s es)
ends_once s [] early = tt
ends_once s (e ∷ es) early =
    let o = step_of e.0 s e.1 in
    let m = moves_step e.0 s e.1 early in
    (λ h. all_over o.after es (m.closes h), ends_once o.after es m.early)

pub speaks_within_the_session : SpeaksWithinTheSession
speaks_within_the_session t never es =
    (to_somebody (opening t never) es (omega arith, refl), ends_once (opening t never) es (omega arith, refl))

-- ---- calls and replies

-- no call waits behind the close
abbrev IsFree : Seen → Type 0
IsFree s = s.link.closed ≡ true → waits_for s ≡ None

-- one step
awaits_step : (now : Timestamp) (s : Seen) (e : Event) (b : Bool) → s.link.closed ≡ b → Early s → IsFree s
    → waits_for (step_of now s e).after ≡ awaited_behind e (step_of now s e) (waits_for s)
awaits_step now s e true h early free =
    let is = idle_when_closed now s e h in
    rw is (free h ∙ rw h refl)
awaits_step now s e false h early free = (moves_step now s e early).waits h

free_then : (o : Option (List ℕ)) (b c : Bool) (rest : Option (List ℕ)) → b ≡ c → o ≡ unless_closed b rest → c ≡ true
    → o ≡ None
free_then o true c rest is h t = h
free_then o false c rest is h t = absurd (cc)

-- along the steps
awaited : (s : Seen) (es : List (Timestamp × Event)) (id : Option (List ℕ)) → waits_for s ≡ id → Early s → IsFree s
    → IsAwaited id es (outcomes s es)
awaited s [] id is early free = tt
awaited s (e ∷ es) id is early free =
    let o = step_of e.0 s e.1 in
    let m = moves_step e.0 s e.1 early in
    let here : waits_for o.after ≡ awaited_behind e.1 o id =
    awaits_step e.0 s e.1 s.link.closed refl early free ∙ ap (awaited_behind e.1 o) is in (
      here,
      awaited o.after es (awaited_behind e.1 o id) here m.early
          (λ h. free_then (waits_for o.after) o.after.link.closed o.after.link.closed _ refl here h),
    )

pub calls_are_awaited : CallsAreAwaited
calls_are_awaited t never es = awaited (opening t never) es None refl (omega arith, refl) (λ h. refl)
