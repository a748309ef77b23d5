use Rattle.gu_book.proofs.rules.nodes.node_of.Goals as goal
use Rattle.gu_book.proofs
use proofs.ByNumber.{node_found}
use proofs.Vocabulary.{ap, eqb-true, find_passes, option_map, Record, record_of, sym, ◌==◌, ◌∙◌, ◌≡◌}

pub returns-in-Some : goal.returns-in-Some
returns-in-Some c =
    let n = c.args.name.now in
    let made = record_of c.in-Some.made in
    let found = sym (rw c.entry.ensures at c.change.ensures) ∙ ap (option_map record_of) c.in-Some.is in
    let its_number : made.number ≡ n.entry =
    eqb-true made.number n.entry (find_passes (λ (d : Record). d.number == n.entry) c.args.changes.now made found) in
    rw (node_found 1 c.args.changes.now n made c.requires found, its_number) c.made_by.ensures
