use Rattle.std.proofs.Common.{◌≡◌, codes, rules}
use Rattle.clap.specs.Words.{app_of, new_app, with_rule}
use Rattle.gu_command.specs.Lines.{journal_rule}
use Rattle.gu_command.proofs.CommandLines.{same_rule}
use Rattle.gu_command.proofs.copies.backup_command.Goals as goal

pub returns : goal.returns
returns c =
    let app = new_app (codes "backup") in
    let bare : app_of c.about-command.result ≡ app = search rules in
    let journal = with_rule app journal_rule in
    let one = same_rule app _ _ c.with_argument-command.result c.journal_argument-journal.ensures.rule
    (c.with_argument-command.ensures app (bare, search rules)) in
    same_rule journal _ _ c.with_option.result c.copy_argument.ensures.rule (c.with_option.ensures journal one)
