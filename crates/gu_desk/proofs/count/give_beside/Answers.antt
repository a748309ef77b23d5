use Rattle.std.proofs.Common.{rules}
use Rattle.gu_desk.proofs.Moves.{gives}
use Rattle.gu_desk.proofs.count.give_beside.Goals as goal

pub split_seat-requires : goal.split_seat-requires
split_seat-requires c = (search rules, search rules, gives _ _)
