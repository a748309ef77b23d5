use Rattle.std.proofs.Common.{◌+◌}
use Rattle.test_book.proofs.desk.keeping.attempt.Given as goal

-- the ground's own book, table and name
abbrev pub ghosts-run-J-Job : goal.ghosts-run-J-Job
ghosts-run-J-Job g a = record { table = a.ground.table; opening = a.ground.opening }

abbrev pub ghosts-run-J-Ledger : goal.ghosts-run-J-Ledger
ghosts-run-J-Ledger g a = record { name = a.ground.name; parts = a.ground.workers + 1 }
