use Rattle.std.proofs.Common.{◌≡◌, ◌∙◌, true, false, is_some, refl, rules, ap}
use Rattle.std.specs.Prelude.{bytes_eq}
use Rattle.std.specs.Map.{lookup}
use Rattle.gu_base.specs.House.{House, knows_firm, agreement, same_pair}
use Rattle.gu_parties.proofs.Added.{insert_new}
use Rattle.gu_parties.specs.Kept.{table}
use Rattle.gu_parties.proofs.Lawful.{can_make, with_agreement}
use Rattle.gu_parties.proofs.house.House.add_terms.Goals as goal

pub invariant_of-self-2 : goal.invariant_of-self-2
invariant_of-self-2 c =
    let t = table c.self.inside in
    let other : bytes_eq c.args.giver c.args.taker ≡ false = search rules in
    let giver : knows_firm c.args.self.now c.args.giver ≡ true = search rules in
    let taker : knows_firm c.args.self.now c.args.taker ≡ true = search rules in
    let absent : is_some
    (lookup (same_pair (record { giver = c.args.giver; taker = c.args.taker })) c.self.inside.agreements.entries)
    ≡ false =
    search rules in
    let can = can_make t c.args.giver c.args.taker c.args.agreement
    (ap (λ (u : House). knows_firm u c.args.giver) c.self.view_is ∙ giver)
    (ap (λ (u : House). knows_firm u c.args.taker) c.self.view_is ∙ taker) other c.requires.in_range in
    rw (
      c.in-Ok.ensures.entries,
      insert_new same_pair c.self.inside.agreements.entries (record { giver = c.args.giver; taker = c.args.taker })
          c.args.agreement absent,
    )
    (with_agreement t (record { giver = c.args.giver; taker = c.args.taker }, c.args.agreement)
    (ap (λ (u : House). u.opening) c.self.view_is ∙ c.requires.none_made) can absent c.self.invariant)

pub returns-clause-does : goal.returns-clause-does
returns-clause-does c =
    let other : bytes_eq c.args.giver c.args.taker ≡ false = search rules in
    let giver : knows_firm c.args.self.now c.args.giver ≡ true = search rules in
    let taker : knows_firm c.args.self.now c.args.taker ≡ true = search rules in
    let fresh : is_some (agreement c.args.self.now c.args.giver c.args.taker) ≡ false = search rules in
    let absent : is_some
    (lookup (same_pair (record { giver = c.args.giver; taker = c.args.taker })) c.self.inside.agreements.entries)
    ≡ false =
    search rules in
    rw (
      other,
      giver,
      taker,
      fresh,
      ← c.self.view_is,
      c.in-Ok.ensures.entries,
      insert_new same_pair c.self.inside.agreements.entries (record { giver = c.args.giver; taker = c.args.taker })
          c.args.agreement absent,
    )
    refl
