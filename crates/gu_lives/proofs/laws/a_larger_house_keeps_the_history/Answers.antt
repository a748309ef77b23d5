use Rattle.gu_lives.proofs.Larger.{opening_same, run_grows, tells_the_same}
use Rattle.gu_lives.proofs.Tested.{test_is_right}
use Rattle.gu_lives.proofs.laws.a_larger_house_keeps_the_history.Goals as goal

pub returns-clause-opening : goal.returns-clause-opening
returns-clause-opening c = λ t u ext. opening_same ext.more ext.opening

pub returns-clause-run : goal.returns-clause-run
returns-clause-run c = run_grows

pub returns-clause-same : goal.returns-clause-same
returns-clause-same c = tells_the_same

pub returns-clause-test : goal.returns-clause-test
returns-clause-test c = test_is_right
