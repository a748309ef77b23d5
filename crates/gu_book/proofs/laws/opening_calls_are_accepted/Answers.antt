use Rattle.gu_book.proofs.laws.opening_calls_are_accepted.Goals as goal
use Rattle.gu_base.proofs.Opening.{opening_length}

pub returns : goal.returns
returns c = λ few. opening_length c.args.house.now c.opening_count.ensures.lawful few
