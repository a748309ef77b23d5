use Rattle.std.proofs.Common.{◌&&◌}
use Rattle.std.specs.Prelude.{bytes_eq}
use Rattle.gu_base.specs.declared.house.Pair.{Pair}
use Rattle.gu_parties.specs.Kept.{table}
use Rattle.gu_parties.proofs.InRange.{found_in_range}
use Rattle.gu_parties.proofs.Lawful.{fixed_in_range}
use Rattle.gu_parties.proofs.house.House.terms_are_in_range.Goals as goal

pub returns : goal.returns
returns c = λ giver taker.
    rw (← c.self.view_is)
    (found_in_range (λ (p : Pair). bytes_eq giver p.giver && bytes_eq taker p.taker) c.self.inside.agreements.entries
    (fixed_in_range (table c.self.inside) c.self.invariant))
