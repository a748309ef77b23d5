use Rattle.gu_book.proofs.found.seek_reversed.Goals as goal
use Rattle.gu_book.proofs
use proofs.{ByNumber.live_found, Visited.parts_of_named, Vocabulary.{ap, arith, Entry, House, IsLiveAt}}
use proofs.Vocabulary.{List, live, named_place, option_and_then, Record, Reverse, rises_later, sym, Undo, ℕ, ◌∙◌, ◌≡◌}
use Rattle.gu_book.specs.{Undo.IsOfKind, Visits.parts_named}
use Rattle.gu_depend.{proofs.ReadOff.nothing_placed, specs.Under.deals_under}

-- the parts that it makes are those of the change that a Reverse names
its_parts : {t : House} {h : List Entry} {n : ℕ} {r : Record} {u : Undo} → IsLiveAt h n r
    → IsOfKind t (live h) r.firm r.command u → u.parts ≡ parts_named (live h) (Reverse n)
its_parts {h = h} {n = n} {r = r} is kind =
    kind.parts ∙ sym (parts_of_named (live h) n r (live_found h n r is))

pub seek_change-requires-clause-parts : goal.seek_change-requires-clause-parts
seek_change-requires-clause-parts c =
    rw c.of-changes.ensures
    (its_parts (rw c.in-Ok.is at c.look_up.ensures) (rw c.of-changes.ensures at c.of-undo.ensures.kind))

pub returns-in-Ok-clause-standing : goal.returns-in-Ok-clause-standing
returns-in-Ok-clause-standing c =
    let standing = rw c.of-changes.ensures at c.seek_change.ensures.standing in
    standing c.args.house.now c.requires.legal c.requires.dealt

pub returns-in-Ok-clause-most : goal.returns-in-Ok-clause-most
returns-in-Ok-clause-most c =
    let parts = its_parts (rw c.in-Ok.is at c.look_up.ensures) (rw c.of-changes.ensures at c.of-undo.ensures.kind) in
    let every = rw c.of-changes.ensures at c.seek_change.ensures.most in
    let most = every c.args.house.now c.requires.dealt in
    omega (arith, parts, most)

pub returns-in-Ok-clause-least : goal.returns-in-Ok-clause-least
returns-in-Ok-clause-least c = λ placed.
    let parts = its_parts (rw c.in-Ok.is at c.look_up.ensures) (rw c.of-changes.ensures at c.of-undo.ensures.kind) in
    let every = rw c.of-changes.ensures at c.seek_change.ensures.least in
    let least = every placed in
    omega (arith, parts, least)

pub returns-in-Err-clause-undone : goal.returns-in-Err-clause-undone
returns-in-Err-clause-undone c =
    let is = rw c.in-Err.is at c.look_up.ensures in
    rw c.requires.nothing.undone (ap (option_and_then (λ (r : Record). named_place r.number r.command)) is.none)

-- nothing stands on what isn't there
pub returns-in-Err-clause-standing : goal.returns-in-Err-clause-standing
returns-in-Err-clause-standing c =
    let t = c.args.house.now in
    let l = live c.args.entries.now in
    let are = c.requires.trees in
    let is = rw c.in-Err.is at c.look_up.ensures in
    let placeless =
    are.filed.places c.args.number ∙ ap (option_and_then (λ (r : Record). named_place r.number r.command)) is.none in
    c.requires.nothing.standing
    ∙ (sym (ap (option_and_then (λ (r : Record). deals_under t l r.number r.firm r.command)) is.none)
    ∙ nothing_placed c.args.state.now.trees t l (rises_later 0 1 l (omega arith) are.rises) c.requires.legal are.filed
    c.args.number placeless)
