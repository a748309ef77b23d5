use Rattle.std.proofs.Common.{rules}
use Rattle.gu_desk.proofs.Moves.{confirms_as}
use Rattle.gu_desk.proofs.count.confirm.Goals as goal

pub store-requires : goal.store-requires
store-requires c =
    let v = c.args.pass.now.me.0 in
    (search rules, search rules, confirms_as _ _ _ v.seen v.kept _ c.requires.journals c.requires.all c.requires.begins)
