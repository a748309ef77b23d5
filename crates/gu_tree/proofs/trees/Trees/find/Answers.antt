use Rattle.gu_tree.proofs.trees.Trees.find.Goals as goal
use Rattle.gu_tree.proofs
use proofs.Groves.{next_absent, next_there, no_above, no_root, only_place, root_place}
use proofs.{Parts.height_of_at, Vocabulary.{ap, arith, option_copied, sym, [], ◌-◌, ◌∙◌, ◌∷◌}}

pub returns-then-part-eq0-clause-found : goal.returns-then-part-eq0-clause-found
returns-then-part-eq0-clause-found g c =
    rw (c.entry-trade.ensures, c.clear.ensures) (root_place _ c.args.name (rw c.self.view_is at c.self.invariant)
    (sym c.part.ensures.value ∙ c.if-part-eq0.true) c.in-Some.tree.now
    (rw c.entry-trade.ensures at (sym c.tree.ensures ∙ ap option_copied c.in-Some.is)))

pub returns-then-part-eq0-clause-only : goal.returns-then-part-eq0-clause-only
returns-then-part-eq0-clause-only g c =
    only_place _ c.args.name _ _ (rw c.self.view_is at c.self.invariant)
    (rw (c.entry-trade.ensures, c.clear.ensures) (root_place _ c.args.name (rw c.self.view_is at c.self.invariant)
    (sym c.part.ensures.value ∙ c.if-part-eq0.true) c.in-Some.tree.now
    (rw c.entry-trade.ensures at (sym c.tree.ensures ∙ ap option_copied c.in-Some.is))))

pub returns-in_default-clause-absent : goal.returns-in_default-clause-absent
returns-in_default-clause-absent g c =
    no_root _ c.args.name (rw c.self.view_is at c.self.invariant) (sym c.part.ensures.value ∙ c.if-part-eq0.true)
    (rw c.entry-trade.ensures at (sym c.tree.ensures ∙ ap option_copied c.in_default.is))

pub returns-in_default-named-clause-absent : goal.returns-in_default-named-clause-absent
returns-in_default-named-clause-absent g c =
    no_above _ c.args.name (rw c.self.view_is at c.self.invariant)
    (λ none. c.if-part-eq0.false (c.part.ensures.value ∙ none))
    (rw c.entry.ensures at (rw c.in_default-named.is at c.named.ensures.absent))

pub returns-in_default-part-clause-absent : goal.returns-in_default-part-clause-absent
returns-in_default-part-clause-absent g c =
    next_absent _ c.args.name c.in-Some-named.above.trade c.named.new.path.items c.in-Some-named.above.node.now
    (rw c.in-Some-named.is at c.named.ensures.node) (rw c.self.view_is at c.self.invariant)
    (λ none. c.if-part-eq0.false (c.part.ensures.value ∙ none))
    (rw c.entry.ensures at (rw c.in-Some-named.is at c.named.ensures.found))
    (rw c.in_default-part.is at c.part-2.ensures.absent)

pub push-requires : goal.push-requires
push-requires g c = (
  omega arith,
  omega (
    arith,
    (rw c.in-Some-named.is at c.named.ensures.low),
    height_of_at ((c.args.name.part - 1) ∷ []) _ _ (rw c.in-Some-part.is at c.part-2.ensures.found),
  ),
)

pub returns : goal.returns
returns g c =
    let next = next_there _ c.args.name c.in-Some-named.above.trade c.named.new.path.items
    c.in-Some-named.above.node.now (rw c.in-Some-named.is at c.named.ensures.node)
    c.in-Some-part.node.now (rw c.in-Some-part.is at c.part-2.ensures.found)
    (rw c.in-Some-part.is at c.part-2.ensures.name) in
    rw (c.push.ensures.items, c.part-3.ensures.value) (record {
      found = next.0;
      only = only_place _ c.args.name _ _ (rw c.self.view_is at c.self.invariant) next.0;
      node = next.1;
      absent = tt;
    })
