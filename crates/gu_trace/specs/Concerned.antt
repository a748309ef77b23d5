-- The firms that an entry concerns, found at once.
use Rattle.std.specs.Prelude.{ℕ, Bool, false, ◌||◌, List, bytes_eq}
use Rattle.std.specs.List.{list_any}
use Rattle.gu_trace.specs.declared.concern.Concerned.{Concerned}
use Rattle.gu_trace.specs.declared.concern.Concerned.TheVariants.{Nobody, Two, Parts}

-- whether the firm is one of them
abbrev pub is_among : List ℕ → Concerned → Bool
is_among f Nobody = false
is_among f (Two a b) = bytes_eq a f || bytes_eq b f
is_among f (Parts by parts) = bytes_eq by f || list_any (λ p. bytes_eq p.firm f) parts.now
