use Rattle.std.proofs.Common.{rules, ◌≡◌, true, IsTrue, sym, ◌∙◌}
use Rattle.gu_tree.specs.Changes.{own_parts_have_accounts}
use Rattle.gu_tree.proofs.Conditions.{at_head}
use Rattle.test_splits.proofs.split.Goals as goal
use Rattle.std.proofs.lemmas.Bool.{not-false}

pub split-requires-clause-accounts : goal.split-requires-clause-accounts
split-requires-clause-accounts g c =
    let placed : c.can_place.result ≡ true = first_of (cc, search (rules, not-false)) in
    at_head (λ h. IsTrue (own_parts_have_accounts c.args.parts.now h)) c.in-Some.path.items c.args.tree.now
    c.head.result.now c.head.ensures.head (sym c.can_place.ensures ∙ placed)
