use Rattle.std.proofs.Common.{◌≡◌, ◌<◌, ◌-◌, suc, length, sym, ◌∙◌, ap, subst, arith, eqb}
use Rattle.std.specs.Prelude.{Some}
use Rattle.std.proofs.lemmas.Bool.{and_parts}
use Rattle.gu_ids.specs.Chains.{Stands}
use Rattle.gu_ids.specs.Newest.{is_of}
use Rattle.gu_ids.proofs.Walk.{count_is, walk_goes_on, walk_sinks, walk_finds, is_read, not_here, read_before}
use Rattle.gu_ids.proofs.ids.Ids.walk.Goals.{After-index-entries-place}
use Rattle.gu_ids.proofs.ids.Ids.walk.Goals as goal

-- the number isn't 0, so the walk stands on an entry
on_entry : (c : After-index-entries-place) → record {
  number : c.loop-number.number ≡ suc (c.loop-number.number - 1);
  stands : Stands c.args.self.now c.args.entries.now c.args.firm.now c.args.id.now (suc (c.loop-number.number - 1));
  there : c.loop-number.number - 1 < length c.args.self.now.links.items;
}
on_entry c =
    let ids = c.args.self.now in
    let some = c.loop-number-test.true in
    let number : c.loop-number.number ≡ suc (c.loop-number.number - 1) = omega (arith, some) in
    let within = c.loop-number.invariant.within in
    let many = count_is ids c.args.entries.now c.requires.ids in
    record {
      number = number;
      stands = subst (Stands ids c.args.entries.now c.args.firm.now c.args.id.now) number c.loop-number.invariant;
      there = omega (arith, number, within, many);
    }

pub returns-then-is_of : goal.returns-then-is_of
returns-then-is_of c =
    let ids = c.args.self.now in
    let k = c.loop-number.number - 1 in
    let on = on_entry (goal.at.returns-then-is_of c).After-index-entries-place in
    let asked = and_parts (eqb c.index-link.result.now.hash c.args.hash)
    (is_of c.args.firm.now c.args.id.now c.index-entries-place.result) (sym c.is_of.ensures ∙ c.if-is_of.true) in
    let here =
    is_read ids c.args.entries.now c.args.firm.now c.args.id.now c.requires.ids k c.index-entries-place.result
    c.index-entries-place.is (omega (arith, on.stands.within))
    ∙ asked.1 in
    let made : c.at_place.result ≡ suc k = omega (arith, c.at_place.ensures) in
    ap Some made ∙ sym (walk_finds ids c.args.entries.now c.args.firm.now c.args.id.now c.requires.ids k on.stands here)

pub loop-number-smaller : goal.loop-number-smaller
loop-number-smaller c =
    let ids = c.args.self.now in
    let k = c.loop-number.number - 1 in
    let on = on_entry (goal.at.loop-number-smaller c).After-index-entries-place in
    let least = walk_sinks ids c.args.entries.now c.args.firm.now c.args.id.now c.requires.ids k on.stands
    c.index-link.result.now.before
    (read_before ids c.args.entries.now c.args.firm.now c.args.id.now c.requires.ids k c.index-link.result.now
    c.index-link.ensures on.there) in
    omega (arith, on.number, least)

pub loop-number-preserved : goal.loop-number-preserved
loop-number-preserved c =
    let ids = c.args.self.now in
    let k = c.loop-number.number - 1 in
    let on = on_entry (goal.at.loop-number-preserved c).After-index-entries-place in
    walk_goes_on ids c.args.entries.now c.args.firm.now c.args.id.now c.requires.ids k on.stands
    c.index-link.result.now.before
    (read_before ids c.args.entries.now c.args.firm.now c.args.id.now c.requires.ids k c.index-link.result.now
    c.index-link.ensures on.there)
    (not_here ids c.args.entries.now c.args.firm.now c.args.id.now c.requires.ids k c.index-link.result.now
    c.index-entries-place.result c.args.hash c.requires.hash c.index-link.ensures on.there c.index-entries-place.is
    (sym c.is_of.ensures ∙ c.if-is_of.false))
