use Rattle.gu_trace.proofs.Passed.{has_read, has_looked_later, reads_the_same, all_the_same}
use Rattle.gu_trace.proofs.laws.nothing_is_passed_over.Goals as goal

pub returns-clause-read : goal.returns-clause-read
returns-clause-read c = has_read

pub returns-clause-later : goal.returns-clause-later
returns-clause-later c = has_looked_later

pub returns-clause-same : goal.returns-clause-same
returns-clause-same c = λ t. reads_the_same t.house

pub returns-clause-all : goal.returns-clause-all
returns-clause-all c = all_the_same
