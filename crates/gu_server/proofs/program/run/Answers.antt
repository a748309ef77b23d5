use Rattle.gu_server.proofs.program.run.Goals as goal

-- the line was obeyed
pub returns-in-Ok-clause-does : goal.returns-in-Ok-clause-does
returns-in-Ok-clause-does g c = c.obey.ensures.does _ c.in-Ok.ensures.read
