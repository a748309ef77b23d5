use Rattle.clap.specs.Words.{with_rule}
use Rattle.gu_command.specs.Naming.{book_rule}
use Rattle.gu_command.proofs.CommandLines.{same_rule}
use Rattle.gu_command.proofs.naming.with_naming.Goals as goal

pub returns : goal.returns
returns c app h =
    let book = with_rule app book_rule in
    same_rule book _ _ c.with_option.result c.ask_book_option.ensures.rule
    (c.with_option.ensures book
    (same_rule app _ _ c.with_option-command.result c.book_option.ensures.rule
    (c.with_option-command.ensures app h)))
