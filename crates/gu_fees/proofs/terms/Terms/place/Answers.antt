use Rattle.gu_fees.proofs.terms.Terms.place.Goals as goal
use Rattle.{gu_base.specs.declared.house.Pair.Pair, gu_fees.specs.{Pairs.PairView, Rows.is_pair, Terms.AreApart}}
use Rattle.std.proofs.Common.{length, List, Option, rules, sym, ℕ, ◌<◌, ◌≡◌}
use Rattle.std.specs.{Map.lookup, Prelude.{IfSome, None, Some}}

-- a place that is kept is one of a row
low : (places : List (Pair × ℕ)) (pairs : List PairView) → AreApart places pairs → (g k : List ℕ) (o : Option ℕ)
    → lookup (is_pair g k) places ≡ o → IfSome o (λ i. i < length pairs)
low places pairs apart g k None is = tt
low places pairs apart g k (Some i) is = apart.there g k i is

pub returns-clause-there : goal.returns-clause-there
returns-clause-there c =
    rw (← c.self.view_is)
    (low _ _ c.self.invariant.apart c.args.giver.now c.args.taker.now
    c.copied.result (sym (first_of (search rules, cc))))
