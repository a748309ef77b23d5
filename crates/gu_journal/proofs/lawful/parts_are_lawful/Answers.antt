use Rattle.gu_journal.proofs.lawful.parts_are_lawful.Goals as goal
use Rattle.gu_journal.proofs.{Groups.all_more, Vocabulary.{AllByRecursion, ap, drop, drop_more, IsNamedPart, length}}
use Rattle.gu_journal.proofs.Vocabulary.{Part, rules, subst, sym, take_all, ◌+◌, ◌∙◌, ◌∷◌, ◌≡◌, ◌≤◌}

pub loop-part-preserved : goal.loop-part-preserved
loop-part-preserved c =
    let i = c.loop-part.part-index in
    let item = c.part-item.result in
    let rest = drop (i + 1) c.args.parts.now in
    let dropped : drop i c.args.parts.now ≡ item ∷ rest =
    drop_more c.args.parts.now i item c.loop-part-test.true ∙ ap (λ (p : Part). p ∷ rest) (sym c.part-item.is) in
    all_more IsNamedPart c.args.parts.now i item rest dropped c.loop-part.invariant c.part_is_lawful.ensures

pub returns : goal.returns
returns c =
    let all : length c.args.parts.now ≤ c.loop-part.part-index = search rules in
    subst (AllByRecursion IsNamedPart) (take_all c.loop-part.part-index c.args.parts.now all) c.loop-part.invariant
