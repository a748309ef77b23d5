use Rattle.gu_book.proofs.found.found_at.Goals as goal
use Rattle.gu_book.proofs.found.found_at.Goals.{in-None, in-Some}
use Rattle.gu_book.proofs.{OnePlace.found_spot, Vocabulary.{ap, option_map, refl, sym, ℕ, ◌∙◌}}

pub returns-clause-found : goal.returns-clause-found
returns-clause-found c = λ l n g are place at.
    found_spot are n c.args.spot.now.trade c.args.path.now.items c.args.spot.now.node.now
    (record {
      head = c.head.result.now;
      trade = c.args.spot.now.trade;
      depth = c.len.result;
      split = c.match-parted.split;
    })
    c.parted.result place at c.head.ensures.head (sym c.len.ensures.value) refl c.parted.ensures
    (elim c.match-parted.branch [
      | in-Some w ↦ w.split-is ∙ sym (ap (option_map (λ (q : ℕ × ℕ). q.0)) w.in-Some.is)
      | in-None w ↦ w.split-is ∙ sym (ap (option_map (λ (q : ℕ × ℕ). q.0)) w.in-None.is)
    ])
