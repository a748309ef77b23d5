use Rattle.std.proofs.Common.{◌≡◌, ◌&&◌, ℕ, Bool, List, rules, subst, IsTrue}
use Rattle.std.specs.Prelude.{bytes_eq}
use Rattle.std.specs.Map.{lookup}
use Rattle.gu_base.specs.House.{House}
use Rattle.gu_base.specs.declared.house.Pair.{Pair}
use Rattle.gu_parties.specs.Kept.{table}
use Rattle.gu_parties.specs.Terms.{has_terms_in_range}
use Rattle.gu_parties.proofs.InRange.{found_in_range}
use Rattle.gu_parties.proofs.Lawful.{fixed_in_range}
use Rattle.gu_parties.proofs.house.House.agreement.Goals as goal

abbrev pair_is : List ℕ → List ℕ → Pair → Bool
pair_is giver taker p = bytes_eq giver p.giver && bytes_eq taker p.taker

pub returns-clause-in_range : goal.returns-clause-in_range
returns-clause-in_range c =
    let value : c.copied.result ≡ lookup (pair_is c.args.giver.now c.args.taker.now) c.self.inside.agreements.entries =
    search rules in
    rw value
    (found_in_range (pair_is c.args.giver.now c.args.taker.now) c.self.inside.agreements.entries
    (fixed_in_range (table c.self.inside) c.self.invariant))

pub returns-clause-all_in_range : goal.returns-clause-all_in_range
returns-clause-all_in_range c =
    subst (λ (t : House). IsTrue (has_terms_in_range t)) c.self.view_is
    (fixed_in_range (table c.self.inside) c.self.invariant)

pub returns-clause-value : goal.returns-clause-value
returns-clause-value c = search rules
