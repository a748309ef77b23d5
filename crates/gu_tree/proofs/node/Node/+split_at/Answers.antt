use Rattle.gu_tree.proofs.node.Node.+split_at.Goals as goal
use Rattle.gu_tree.proofs
use proofs.{Parts.{goes_parted, lots_tried, step_down, step_kept, step_up}, Vocabulary.{refl, rules, split_node}}

pub split_at-requires : goal.split_at-requires
split_at-requires g t c κs within = (
  search rules,
  (
    search rules,
    (
      step_down _ _ _ _ _ _ _ c.in-Some.ensures.cases.0 (rw c.in-Parted.is at c.self-2.view_is) _ _
          c.index_mut.ensures.value c.requires.leaf,
      (c.requires.some, c.requires.most),
    ),
  ),
)

pub invariant_of-self : goal.invariant_of-self
invariant_of-self g t c =
    goes_parted _ c.in-Some.ensures.cases.0 (rw c.in-Parted.is at c.self-2.view_is) _ _ _ c.requires.leaf
    c.index_mut.ensures.value (lots_tried (split_node c.args.entry c.args.parts.now) (λ v. refl) _ _ _ c.split_at.result
    c.split_at.ensures.node c.split_at.ensures.err) (rw c.in-Parted.is at c.self-2.invariant)

pub returns-clause-name : goal.returns-clause-name
returns-clause-name g t c =
    step_up _ _ _ _ _ _ _ c.in-Some.ensures.cases.0 (rw c.in-Parted.is at c.self-2.view_is) _ _ _
    c.index_mut.ensures.value c.requires.leaf c.split_at.ensures.name

pub returns-clause-err : goal.returns-clause-err
returns-clause-err g t c =
    step_kept _ _ _ _ _ _ _ c.in-Some.ensures.cases.0 (rw c.in-Parted.is at c.self-2.view_is) _ _ c.split_at.result
    c.index_mut.ensures.value c.split_at.ensures.err
