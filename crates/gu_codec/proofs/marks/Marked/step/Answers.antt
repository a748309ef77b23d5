use Rattle.std.proofs.Common.{◌≡◌, ◌+◌, ◌-◌, ◌^◌, ◌<◌, ℕ, List, Some, length, take, drop, sym, ap, ◌∙◌, arith}
use Rattle.std.proofs.Common.{length-drop}
use Rattle.std.specs.List.{position_or_len}
use Rattle.std.proofs.lemmas.List.{take_all, drop-drop}
use lib.Count.{count_trailing_zeros}
use Rattle.gu_codec.specs.Fields.{is_soh, field_at}
use Rattle.gu_codec.proofs.FieldEnds.{field_unended}
use Rattle.gu_codec.proofs.Marking.{Lowest, lowest, nothing_left}
use Rattle.gu_codec.proofs.marks.Marked.step.Goals as goal
use Rattle.gu_codec.proofs.marks.Marked.step.Goals.{After-advance-base}

-- where the next SOH stands
abbrev place : After-advance-base → ℕ
place c = c.advance-base.result.0 + count_trailing_zeros 64 c.advance-base.result.1

first_soh : (c : After-advance-base) → 0 < c.advance-base.result.1
    → Lowest c.self.inside.bytes.now c.self.inside.at c.advance-base.result.0 c.advance-base.result.1 (place c)
first_soh c some =
    let fits : c.advance-base.result.1 < 2 ^ 64 = omega arith in
    lowest c.self.inside.bytes.now c.self.inside.at c.advance-base.result.0 c.advance-base.result.1
    c.advance-base.ensures.marked some fits

-- the slice of what is left
slice_is : (bytes : List ℕ) (at : ℕ) → take (length bytes - at) (drop at bytes) ≡ drop at bytes
slice_is bytes at = take_all (length bytes - at) (drop at bytes) (omega (arith, length-drop at bytes))

pub returns-then-marks-eq0-clause-field : goal.returns-then-marks-eq0-clause-field
returns-then-marks-eq0-clause-field c =
    let bytes = c.self.inside.bytes.now in
    let at = c.self.inside.at in
    let none = nothing_left bytes at c.advance-base.result.0 c.advance-base.result.1 c.advance-base.ensures.marked
    c.if-marks-eq0.true (c.advance-base.ensures.all c.if-marks-eq0.true) in
    sym (field_unended (drop at bytes) none) ∙ ap field_at c.self.view_is

pub overflow_sub-end : goal.overflow_sub-end
overflow_sub-end c = (first_soh (goal.at.overflow_sub-end c).After-advance-base (omega arith)).from

pub field_to-requires-clause-inside : goal.field_to-requires-clause-inside
field_to-requires-clause-inside c =
    let soh = first_soh (goal.at.field_to-requires-clause-inside c).After-advance-base (omega arith) in
    let bytes = c.self.inside.bytes.now in
    let at = c.self.inside.at in
    omega (arith, soh.from, soh.inside, ap length (slice_is bytes at), length-drop at bytes)

pub field_to-requires-clause-first : goal.field_to-requires-clause-first
field_to-requires-clause-first c =
    let soh = first_soh (goal.at.field_to-requires-clause-first c).After-advance-base (omega arith) in
    sym soh.first ∙ ap (position_or_len is_soh) (sym (slice_is c.self.inside.bytes.now c.self.inside.at))

pub invariant_of-self : goal.invariant_of-self
invariant_of-self c = (first_soh (goal.at.invariant_of-self c).After-advance-base (omega arith)).left

pub returns-clause-field : goal.returns-clause-field
returns-clause-field c =
    let soh = first_soh (goal.at.returns-clause-field c).After-advance-base (omega arith) in
    let bytes = c.self.inside.bytes.now in
    let at = c.self.inside.at in
    let end = c.advance-base.result.0 + count_trailing_zeros 64 c.advance-base.result.1 in
    let f : ℕ × List ℕ = (c.in_ok-field.field.0, c.in_ok-field.field.1.now) in
    let sum : at + (end - at + 1) ≡ end + 1 = omega (arith, soh.from) in
    let left : drop (end - at + 1) (take (length bytes - at) (drop at bytes)) ≡ drop (end + 1) bytes =
    ap (drop (end - at + 1)) (slice_is bytes at) ∙ drop-drop (end - at + 1) at bytes
    ∙ ap (λ (n : ℕ). drop n bytes) sum in
    ap (λ (t : List ℕ). Some (f, t)) (sym left) ∙ c.in_ok-field.ensures
    ∙ ap field_at (slice_is bytes at ∙ c.self.view_is)
