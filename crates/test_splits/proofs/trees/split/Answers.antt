use Rattle.std.proofs.Common.{rules, ◌≡◌, true, IsTrue, sym, ◌∙◌, subst}
use Rattle.std.proofs.lemmas.Bool.{not-false}
use Rattle.gu_tree.specs.Rose.{head_of}
use Rattle.gu_tree.specs.Changes.{own_parts_have_accounts}
use Rattle.test_splits.proofs.There.{there}
use Rattle.test_splits.proofs.trees.split.Goals as goal

pub split-requires-clause-accounts : goal.split-requires-clause-accounts
split-requires-clause-accounts g c =
    let placed : c.can_place.result ≡ true = first_of (cc, search (rules, not-false)) in
    there (λ v. IsTrue (own_parts_have_accounts c.args.parts.now (head_of v))) _ _ c.in-Some.spot.node.now
    c.in-Some.ensures.node
    (subst (λ h. IsTrue (own_parts_have_accounts c.args.parts.now h)) c.head.ensures.head
    (sym c.can_place.ensures ∙ placed))
