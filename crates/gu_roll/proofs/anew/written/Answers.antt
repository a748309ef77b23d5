use Rattle.std.proofs.Common.{◌≡◌, ◌≤◌, ◌∙◌, ℕ, List, length, take, sym, ap, subst, arith}
use Rattle.gu_base.specs.Runs.{opening_history}
use Rattle.gu_base.specs.declared.entry.Entry.{Entry}
use Rattle.gu_image.specs.Image.{seen_of, leaves}
use Rattle.gu_journal.specs.Keeping.{Keeps}
use Rattle.gu_roll.proofs.Between.{begins_with}
use Rattle.gu_roll.proofs.anew.written.Goals as goal

pub returns-in-Ok-commit_groups-clause-again : goal.returns-in-Ok-commit_groups-clause-again
returns-in-Ok-commit_groups-clause-again c =
    let t = c.args.house in
    let pin = c.args.pin.now.bytes in
    let h = c.args.history.now in
    let o = opening_history t in
    let low : length o ≤ c.in-Ok.begun.1 = omega (arith, c.in-Ok.ensures.have) in
    let front : o ≡ take c.in-Ok.begun.1 h =
    sym (ap (λ (n : ℕ). take n h) c.in-Ok.ensures.have ∙ (begins_with t o h c.requires.run).1) in
    let before : Keeps seen_of leaves t pin (take c.in-Ok.begun.1 h) c.in-Ok.begun.0 =
    subst (λ (k : List Entry). Keeps seen_of leaves t pin k c.in-Ok.begun.0) front c.in-Ok.ensures.keeps in
    let kept = c.in-Ok-commit_groups.ensures t pin o c.requires.run low before in
    (c.kept_is_read.ensures.starts t pin h c.commit_groups.new.journal c.into_bytes.result.items kept
    (c.into_bytes.ensures ∙ ap seen_of c.into_disk.ensures)).0

pub returns-in-Ok-commit_groups-clause-part : goal.returns-in-Ok-commit_groups-clause-part
returns-in-Ok-commit_groups-clause-part c =
    let t = c.args.house in
    let pin = c.args.pin.now.bytes in
    let h = c.args.history.now in
    let o = opening_history t in
    let low : length o ≤ c.in-Ok.begun.1 = omega (arith, c.in-Ok.ensures.have) in
    let front : o ≡ take c.in-Ok.begun.1 h =
    sym (ap (λ (n : ℕ). take n h) c.in-Ok.ensures.have ∙ (begins_with t o h c.requires.run).1) in
    let before : Keeps seen_of leaves t pin (take c.in-Ok.begun.1 h) c.in-Ok.begun.0 =
    subst (λ (k : List Entry). Keeps seen_of leaves t pin k c.in-Ok.begun.0) front c.in-Ok.ensures.keeps in
    let kept = c.in-Ok-commit_groups.ensures t pin o c.requires.run low before in
    (c.kept_is_read.ensures.starts t pin h c.commit_groups.new.journal c.into_bytes.result.items kept
    (c.into_bytes.ensures ∙ ap seen_of c.into_disk.ensures)).1
