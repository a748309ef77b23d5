use Rattle.gu_lives.proofs.Rolled.{rolled_live, rolled_run}
use Rattle.gu_lives.proofs.Rolling.{run_from}
use Rattle.gu_lives.proofs.WholeLive.{whole_grows}
use Rattle.gu_lives.proofs.laws.a_whole_list_is_a_history.Goals as goal

pub returns-clause-run : goal.returns-clause-run
returns-clause-run c = rolled_run

pub returns-clause-alive : goal.returns-clause-alive
returns-clause-alive c = rolled_live

pub returns-clause-larger : goal.returns-clause-larger
returns-clause-larger c = whole_grows

pub returns-clause-from : goal.returns-clause-from
returns-clause-from c = run_from
