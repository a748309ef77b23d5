-- Of which messages an operator is told no drop.
use Rattle.std.proofs.Common.{◌≡◌, ℕ, ◌≤◌, Bool, false, nat_lt, ◌&&◌, List, refl, arith}
use Rattle.std.specs.Prelude.{Option, Some, None, Result, Ok, Err, bytes_eq}
use Rattle.std.proofs.lemmas.Bool.Decides.{nat_tests}
use Rattle.gu_base.proofs.Basics.{either_way}
use Rattle.gu_message.specs.declared.heading.Heading.{Heading}
use Rattle.gu_message.specs.declared.fault.Reject.{Reject}
use Rattle.gu_message.specs.declared.inbound.Inbound.{Inbound}
use Rattle.gu_session.specs.declared.line.TableLine.{TableLine}
use Rattle.gu_session.specs.declared.link.LinkState.{LinkState}
use Rattle.gu_session.specs.Noting.{is_above_gap, is_dropped}
use Rattle.gu_session.specs.Table.{line_by_number, reset_to}

-- a line is no gap's
abbrev IsKept : TableLine → Type 0
IsKept line = is_above_gap line ≡ false

not_above : (l : LinkState) (h : Heading) (reset : Option ℕ) (is_logout : Bool) → h.number ≤ l.expected
    → IsKept (line_by_number l h reset is_logout)
not_above l h (Some next) is_logout few = refl
not_above l h None is_logout few =
    either_way IsKept (nat_lt h.number l.expected && h.poss_dup) _ _ (λ _. refl) (λ _.
    either_way IsKept (nat_lt h.number l.expected) _ _ (λ _. refl) (λ _.
    either_way IsKept (nat_lt l.expected h.number && is_logout) _ _ (λ _. refl) (λ _.
    either_way IsKept (nat_lt l.expected h.number) _ _ (λ above. absurd (grind (arith, nat_tests, above, few)))
    (λ _. refl))))

-- its number isn't above the expected one
pub few_are_kept : (l : LinkState) (firm : Option (List ℕ)) (h : Heading) (meaning : Result Inbound Reject)
    (is_logout : Bool) → h.number ≤ l.expected → is_dropped l firm (Ok h) meaning is_logout ≡ false
few_are_kept l None h meaning is_logout few = refl
few_are_kept l (Some firm) h meaning is_logout few =
    either_way IsKept (bytes_eq h.firm firm) _ _ (λ _. not_above l h (reset_to meaning) is_logout few) (λ _. refl)

-- its header is refused
pub refused_is_kept : (l : LinkState) (firm : Option (List ℕ)) (fault : Reject) (meaning : Result Inbound Reject)
    (is_logout : Bool) → is_dropped l firm (Err fault) meaning is_logout ≡ false
refused_is_kept l None fault meaning is_logout = refl
refused_is_kept l (Some firm) fault meaning is_logout = refl
