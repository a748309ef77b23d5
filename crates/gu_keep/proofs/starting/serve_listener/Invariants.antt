use Rattle.std.proofs.Common.{◌+◌}
use Rattle.gu_keep.proofs.starting.serve_listener.Given as goal

-- the ground's own name, table and book
abbrev pub ghosts-run_kept-J-Job : goal.ghosts-run_kept-J-Job
ghosts-run_kept-J-Job g a = record { table = a.ground.table; opening = a.ground.opening }

abbrev pub ghosts-run_kept-J-Ledger : goal.ghosts-run_kept-J-Ledger
ghosts-run_kept-J-Ledger g a = record { name = a.ground.name; parts = a.ground.workers + 1 }
