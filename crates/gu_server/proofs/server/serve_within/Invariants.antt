use Rattle.std.proofs.Common.{◌+◌}
use Rattle.gu_server.proofs.server.serve_within.Given as goal

-- the ground's own name, table and book
abbrev pub ghosts-run_desk-J-Job : goal.ghosts-run_desk-J-Job
ghosts-run_desk-J-Job g a = record { table = a.ground.table; opening = a.ground.opening }

abbrev pub ghosts-run_desk-J-Ledger : goal.ghosts-run_desk-J-Ledger
ghosts-run_desk-J-Ledger g a = record { name = a.ground.name; parts = a.ground.workers + 1 }
