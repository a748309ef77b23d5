use Rattle.std.proofs.Common.{rules}
use Rattle.gu_message.proofs.split.without_room.Goals as goal

pub returns-in-Some : goal.returns-in-Some
returns-in-Some c = search rules
