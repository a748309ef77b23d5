use Rattle.std.proofs.Common.{rules}
use Rattle.gu_desk.proofs.desk.Desk.read_reports.Goals as goal

pub returns-clause-read : goal.returns-clause-read
returns-clause-read g c = search rules

pub returns-clause-memory : goal.returns-clause-memory
returns-clause-memory g c = search rules

pub returns-clause-told : goal.returns-clause-told
returns-clause-told g c = search rules

pub returns-clause-lacked : goal.returns-clause-lacked
returns-clause-lacked g c = search rules
