use Rattle.std.proofs.Common.{◌≡◌, ◌⊎◌, inl, inr, true, false, ◌∙◌, ap, eqb, ◌≢◌, w32}
use Rattle.std.specs.Prelude.{bit_or, ◌*◌, ◌%◌, ◌^◌}
use Rattle.std.proofs.lemmas.Bool.Decides.{eqb_tells}
use Rattle.std.proofs.lemmas.Nat.Bits.{bit_at_set_same, bit_at_set_other}
use Rattle.gu_ids.specs.Marks.{is_marked}
use Rattle.gu_ids.proofs.ids.marked.Goals as goal

pub returns-clause-own : goal.returns-clause-own
returns-clause-own c = ap (λ n. eqb n 1) (bit_at_set_same w32 c.args.marks c.args.bit c.requires)

pub returns-clause-others : goal.returns-clause-others
returns-clause-others c b had = by_bit (eqb_tells b c.args.bit)
  where
    by_bit : ((eqb b c.args.bit ≡ true) × (b ≡ c.args.bit)) ⊎ ((eqb b c.args.bit ≡ false) × (b ≢ c.args.bit))
        → is_marked (bit_or c.args.marks (1 * 2 ^ c.args.bit % 4294967296)) b ≡ true
    by_bit (inl e) =
        ap (λ i. is_marked (bit_or c.args.marks (1 * 2 ^ c.args.bit % 4294967296)) i) e.1
        ∙ ap (λ n. eqb n 1) (bit_at_set_same w32 c.args.marks c.args.bit c.requires)
    by_bit (inr e) = ap (λ n. eqb n 1) (bit_at_set_other w32 c.args.marks c.args.bit c.requires b e.1) ∙ had
