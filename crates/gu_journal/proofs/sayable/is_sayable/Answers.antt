use Rattle.gu_journal.proofs.sayable.is_sayable.Goals as goal
use Rattle.gu_journal.proofs.{CanBeSaid.lawful_from, Vocabulary.{sym, ◌∙◌}}

pub returns-clause-lawful : goal.returns-clause-lawful
returns-clause-lawful c said = record {
  firm = c.entry_is_lawful.ensures.firm;
  id = c.entry_is_lawful.ensures.id;
  command = lawful_from _ _ (sym c.is_sayable_command.ensures ∙ said) c.entry_is_lawful.ensures.command;
}
