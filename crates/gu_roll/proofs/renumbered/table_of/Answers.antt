use Rattle.std.proofs.Common.{◌≡◌, ◌-◌, ◌≤◌, ◌<◌, ℕ, arith, subst, sym, ◌∙◌, slice_set}
use Rattle.std.specs.Prelude.{Some}
use Rattle.std.proofs.lemmas.List.{length-set}
use Rattle.gu_base.proofs.Numbered.{positive}
use Rattle.gu_roll.proofs.Table.{TellsFrom, cut_at, tells_more, tells_on}
use Rattle.gu_roll.proofs.renumbered.table_of.Goals as goal

pub loop-place-preserved-then-old-most : goal.loop-place-preserved-then-old-most
loop-place-preserved-then-old-most c =
    let numbers = c.args.numbers.now in
    let p = c.loop-place.place in
    let x = c.get.result in
    let table = c.loop-place.table.items in
    let some : 1 ≤ p = omega (arith, c.loop-place-test.true) in
    let low : 1 ≤ x = positive x c.get.ensures.in_range in
    let cut = cut_at numbers p x c.index-numbers-place.result some c.loop-place.invariant.within
    c.index-numbers-place.is c.get.ensures.value in
    let next : c.at_place.result ≡ p = omega (arith, c.at_place.ensures, some) in
    record {
      within = omega (arith, c.loop-place.invariant.within);
      long = length-set table (x - 1) (Some c.at_place.result) ∙ c.loop-place.invariant.long;
      told = subst (λ (k : ℕ). TellsFrom numbers c.args.most (p - 1) (slice_set table (x - 1) (Some k))) (sym next)
          (tells_more numbers c.args.most p x table some cut low c.loop-place.invariant.long
          c.loop-place.invariant.told);
    }

pub loop-place-preserved : goal.loop-place-preserved
loop-place-preserved c =
    let numbers = c.args.numbers.now in
    let p = c.loop-place.place in
    let x = c.get.result in
    let some : 1 ≤ p = omega (arith, c.loop-place-test.true) in
    let low : 1 ≤ x = positive x c.get.ensures.in_range in
    let past : c.args.most < x = omega (arith, c.if-old-most.false, low) in
    let cut = cut_at numbers p x c.index-numbers-place.result some c.loop-place.invariant.within
    c.index-numbers-place.is c.get.ensures.value in
    record {
      within = omega (arith, c.loop-place.invariant.within);
      long = c.loop-place.invariant.long;
      told = tells_on numbers c.args.most p x c.loop-place.table.items some cut past c.loop-place.invariant.told;
    }
