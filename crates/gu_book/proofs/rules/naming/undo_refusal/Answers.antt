use Rattle.gu_book.proofs.rules.naming.undo_refusal.Goals as goal
use Rattle.gu_book.proofs
use proofs.LastRefusal.{last_kept, last_of_row, live_row}
use proofs.Vocabulary.{arith, common_steps, given, is_among, live, None, parties_of, reversal_of, rules, true, ◌∙◌, ◌≡◌}
use Rattle.gu_book.specs.Front.{IsStandingOn, rest_of}

pub returns : goal.returns
returns c =
    let t = c.at.inside.house.now in
    let h = c.at.inside.entries.now.items in
    let by = c.args.by.now in
    let command = c.args.command.now in
    let is = rw (← c.at.view_is) at c.requires.undo in
    let r = is.change in
    let parties = parties_of t (live h) r.firm r.command in
    let number = is.at.number in
    let named = rw (← c.at.view_is) at c.requires.standing in
    let standing : IsStandingOn t (live h) command r.number c.at.inside.standing =
    rw (← number) at named in
    let unreversed : reversal_of h r.number ≡ None = rw (← number) at is.at.unreversed in
    let party : is_among by parties ≡ true = first_of (cc, search rules, grind (arith, common_steps)) in
    rw (← c.at.view_is, live_row t h c.args.number r is.at by (rest_of t h by command))
    ((rw (is.kind.parties, ← number) at c.own_refusal.ensures)
    ∙ (last_kept t h (given c.at.inside.consents.now) c.at.invariant.consented by command r c.at.inside.standing
    standing unreversed
    ∙ last_of_row (is_among by parties) (rest_of t h by command r) party))
