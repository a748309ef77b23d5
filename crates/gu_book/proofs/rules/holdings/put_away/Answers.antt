use Rattle.gu_book.proofs.rules.holdings.put_away.Goals as goal
use Rattle.gu_book.proofs
use proofs.HoldingRows.{given_cut, put_err}
use proofs.Vocabulary.{ap, arith, counted_at, drop, filter_map, Holding, part_away, refl, sum_by, sym, ℕ}

pub loop-part-init : goal.loop-part-init
loop-part-init c = record {
  done = refl;
  firm = refl;
  instrument = refl;
  room = c.requires.room;
  put = λ at side. refl;
  moved = omega arith;
  fits = let room = c.requires.room c.args.whole.now.key c.args.whole.now.side in omega arith;
}

pub returns-then-is_err-clause-put : goal.returns-then-is_err-clause-put
returns-then-is_err-clause-put c = λ at side.
    let f = part_away c.args.whole.now c.args.by.now in
    let same = put_err _ (sym c.is_err.ensures.value) c.if-is_err.true c.put.ensures.same at side in
    let cut = given_cut f (counted_at at side) c.loop-part.done c.args.parts.now in
    let here =
    ap (λ i. sum_by (counted_at at side) (filter_map f (drop i c.args.parts.now))) c.loop-part.invariant.done in
    let put = c.loop-part.invariant.put at side in
    omega arith

pub returns-then-is_err-clause-moved : goal.returns-then-is_err-clause-moved
returns-then-is_err-clause-moved c =
    let f = part_away c.args.whole.now c.args.by.now in
    let lots : Holding → ℕ = λ h. h.lots in
    let cut = given_cut f lots c.loop-part.done c.args.parts.now in
    let here = ap (λ i. sum_by lots (filter_map f (drop i c.args.parts.now))) c.loop-part.invariant.done in
    let moved = c.loop-part.invariant.moved in
    omega arith
