use Rattle.gu_statement.proofs.Told.{told_alike}
use Rattle.gu_statement.proofs.Together.{seen_alike}
use Rattle.gu_statement.proofs.laws.nothing_else_is_told.Goals as goal

pub returns-clause-seen : goal.returns-clause-seen
returns-clause-seen c = told_alike

pub returns-clause-alike : goal.returns-clause-alike
returns-clause-alike c = λ t f h g after same. told_alike t.house f h g after (seen_alike t f h g same)
