use Rattle.std.proofs.Common.{◌≡◌, ◌≤◌, List, length, take, subst, arith}
use Rattle.std.specs.Prelude.{OnOk}
use Rattle.gu_base.specs.declared.entry.Entry.{Entry}
use Rattle.gu_image.specs.Image.{seen_of, leaves}
use Rattle.gu_journal.specs.Keeping.{Keeps}
use Rattle.gu_roll.proofs.Between.{take_whole}
use Rattle.gu_roll.proofs.groups.commit_groups.Goals as goal

pub returns-then-done-history : goal.returns-then-done-history
returns-then-done-history c t pin opening run low kept =
    let history = c.args.history.now in
    let all : length history ≤ c.loop-group.done = omega arith in
    subst (λ (h : List Entry). Keeps seen_of leaves t pin h c.loop-group.journal)
    (take_whole history c.loop-group.done all) (c.loop-group.invariant.kept t pin opening run low kept)

pub returns : goal.returns
returns c t pin opening run low kept =
    let history = c.args.history.now in
    let whole : take (length history) history ≡ history = take_whole history (length history) (omega arith) in
    let behind : length opening ≤ c.loop-group.done = omega arith in
    let done : OnOk c.commit_between.result
    (Keeps seen_of leaves t pin (take (length history) history) c.commit_between.new.journal) =
    c.commit_between.ensures t pin opening run behind (c.loop-group.invariant.kept t pin opening run low kept) in
    subst (λ (h : List Entry). OnOk c.commit_between.result (Keeps seen_of leaves t pin h c.commit_between.new.journal))
    whole done
