use Rattle.std.proofs.Common.{◌≡◌, ◌∙◌, ℕ, List, [], refl, subst, ap, length, rules}
use Rattle.gu_base.specs.Runs.{opening_history}
use Rattle.gu_base.specs.declared.entry.Entry.{Entry}
use Rattle.gu_image.specs.Image.{seen_of, leaves}
use Rattle.gu_journal.specs.Counting.{Recovers}
use Rattle.gu_journal.specs.Keeping.{Keeps}
use Rattle.gu_roll.proofs.Empty.{empty_opens}
use Rattle.gu_roll.proofs.anew.begun.Goals as goal

pub returns-in-Ok-clause-keeps : goal.returns-in-Ok-clause-keeps
returns-in-Ok-clause-keeps c =
    let t = c.args.house in
    let pin = c.args.pin.now.bytes in
    let h = c.in-Ok.field-0.book.history in
    let none : seen_of c.new-disk.result ≡ [] = c.new-disk.ensures ∙ c.requires in
    let opens : h ≡ opening_history t =
    empty_opens t pin h (subst (λ (f : List ℕ). Recovers t pin f h) none (c.in-Ok.ensures.book refl)) in
    subst (λ (k : List Entry). Keeps seen_of leaves t pin k c.in-Ok.field-0.journal) opens (c.in-Ok.ensures.keeps refl)

pub returns-in-Ok-clause-have : goal.returns-in-Ok-clause-have
returns-in-Ok-clause-have c =
    let t = c.args.house in
    let pin = c.args.pin.now.bytes in
    let h = c.in-Ok.field-0.book.history in
    let none : seen_of c.new-disk.result ≡ [] = c.new-disk.ensures ∙ c.requires in
    let opens : h ≡ opening_history t =
    empty_opens t pin h (subst (λ (f : List ℕ). Recovers t pin f h) none (c.in-Ok.ensures.book refl)) in
    let same : c.history-have.result.now ≡ h = search rules in
    ap length (same ∙ opens)
