use Rattle.std.proofs.Common.{rules, refl}
use Rattle.gu_desk.specs.Passes.{of_book}
use Rattle.gu_desk.proofs.Moves.{gives, looks_as}
use Rattle.gu_desk.proofs.count.give_out.Goals as goal

pub load-records-requires : goal.load-records-requires
load-records-requires c =
    (search rules, search rules, looks_as _ _ _ (of_book c.args.pass.now.me.0.seen) c.requires.books refl)

pub split_seat-requires : goal.split_seat-requires
split_seat-requires c = (search rules, search rules, gives _ _)
