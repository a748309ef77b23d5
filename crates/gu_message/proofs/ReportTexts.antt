-- The text of a report.
use Rattle.std.proofs.Common.{◌≡◌, ℕ, ◌+◌, ◌*◌, ◌<◌, ◌≤◌, List, [], ◌∷◌, ◌++◌, length, refl, sym, ap, ◌∙◌, arith}
use Rattle.std.proofs.Common.{append_assoc, length-append}
use Rattle.std.specs.Prelude.{codes, decimal}
use Rattle.std.specs.List.{flat_map}
use Rattle.gu_base.specs.declared.report.ReportPart.{ReportPart}
use Rattle.gu_codec.specs.Writing.{field, fields_text}
use Rattle.gu_codec.proofs.ReadBack.{text_join}
use Rattle.gu_message.specs.AllocationReport.{part_fields, shown_parts}

-- part by part
pub text_flat : (ps : List ReportPart)
    → fields_text (flat_map part_fields ps) ≡ flat_map (λ p. fields_text (part_fields p)) ps
text_flat [] = refl
text_flat (p ∷ ps) =
    text_join (part_fields p) (flat_map part_fields ps)
    ∙ ap (λ (t : List ℕ). fields_text (part_fields p) ++ t) (text_flat ps)

-- their number, and then each
pub shown_text : (ps : List ReportPart) (old mid new : List ℕ) → 0 < length ps
    → mid ≡ old ++ field 78 (decimal (length ps)) → new ≡ mid ++ flat_map (λ p. fields_text (part_fields p)) ps
    → new ≡ old ++ fields_text (shown_parts ps)
shown_text [] old mid new h e k = absurd (omega arith)
shown_text (p ∷ ps) old mid new h e k =
    k ∙ ap (λ (t : List ℕ). t ++ flat_map (λ p. fields_text (part_fields p)) (p ∷ ps)) e
    ∙ append_assoc old (field 78 (decimal (length (p ∷ ps)))) (flat_map (λ p. fields_text (part_fields p)) (p ∷ ps))
    ∙ ap (λ (t : List ℕ). old ++ (field 78 (decimal (length (p ∷ ps))) ++ t)) (sym (text_flat (p ∷ ps)))

-- the tag and `=`, the entry, a dot, the part, and the end
pub node_joined : (old tag e p o1 o2 o3 o4 o5 o6 : List ℕ) → o1 ≡ old ++ tag → o2 ≡ o1 ++ 61 ∷ [] → o3 ≡ o2 ++ e
    → o4 ≡ o3 ++ codes "." → o5 ≡ o4 ++ p → o6 ≡ o5 ++ 1 ∷ []
    → o6 ≡ old ++ (tag ++ 61 ∷ ((e ++ codes "." ++ p) ++ 1 ∷ []))
node_joined old tag e p o1 o2 o3 o4 o5 o6 e1 e2 e3 e4 e5 e6 = rw (e6, e5, e4, e3, e2, e1) (simp append_assoc)

-- a report is short
pub both_short : (a b c e s : List ℕ) (n : ℕ) → b ≡ a ++ e → c ≡ b ++ s → length b ≤ length a + 700
    → length c ≤ length b + (52 + 256 * n) → n ≤ 100 → length (e ++ s) ≤ 65000
both_short a b c e s n f g h k few =
    omega (
      arith,
      ap (λ (t : List ℕ). length t) f,
      ap (λ (t : List ℕ). length t) g,
      length-append a e,
      length-append b s,
      length-append e s,
    )
