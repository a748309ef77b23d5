use Rattle.std.proofs.Common.{rules}
use Rattle.gu_server.proofs.service.serve_port.Goals as goal

-- the book that was served is the one behind the opening calls
pub returns-in-Ok-served : goal.returns-in-Ok-served
returns-in-Ok-served g c = search rules
