use Rattle.gu_parties.specs.Kept.{table}
use Rattle.gu_parties.proofs.Lawful.{lawful_still, with_firm}
use Rattle.gu_parties.proofs.house.House.add_firm.Goals as goal

pub invariant_of-self-2 : goal.invariant_of-self-2
invariant_of-self-2 c =
    rw c.in-Ok.ensures.keys
    (lawful_still (table c.self.inside) _ (with_firm (table c.self.inside) c.in-Some.firm) c.self.invariant)
