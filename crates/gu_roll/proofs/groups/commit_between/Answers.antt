use Rattle.std.proofs.Common.{◌≤◌, List, length, take, subst, arith}
use Rattle.std.specs.Prelude.{OnOk}
use Rattle.gu_base.specs.declared.entry.Entry.{Entry}
use Rattle.gu_image.specs.Image.{seen_of, leaves}
use Rattle.gu_journal.specs.Keeping.{Keeps}
use Rattle.gu_roll.proofs.Between.{take_between, run_between}
use Rattle.gu_roll.proofs.groups.commit_between.Goals as goal

pub returns : goal.returns
returns c t pin opening run low kept =
    let history = c.args.history.now in
    let high : c.args.from ≤ length history = omega (arith, c.requires.order, c.requires.within) in
    subst (λ (h : List Entry). OnOk c.commit.result (Keeps seen_of leaves t pin h c.commit.new.self))
    (take_between history c.args.from c.args.to c.requires.order)
    (c.commit.ensures.kept t pin (take c.args.from history) kept
    (run_between t opening history c.args.from c.args.to run low high))
