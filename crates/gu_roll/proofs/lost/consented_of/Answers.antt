use Rattle.std.proofs.Common.{◌≡◌, ◌∙◌, [], ap, sym, arith, drop}
use Rattle.std.proofs.lemmas.List.{drop_all}
use Rattle.std.specs.BTreeSet.{contains}
use Rattle.std.specs.Ordering.{nat_cmp}
use Rattle.gu_roll.proofs.Consented.{consented_after, consented_told}
use Rattle.gu_roll.proofs.lost.consented_of.Goals as goal

pub returns : goal.returns
returns c n =
    let h = c.args.history.now in
    let at = c.loop-entry.entry-index in
    let done : drop at h ≡ [] = drop_all at h (omega (arith, c.loop-entry-test.false)) in
    sym (ap (consented_after n (contains nat_cmp c.loop-entry.consented n)) done) ∙ c.loop-entry.invariant n
    ∙ consented_told n h
