use Rattle.gu_book.proofs.rules.holdings.parts_back.Goals as goal
use Rattle.gu_book.proofs.{PartsAway.moved_few, Vocabulary.{arith, Part, sum_by, ◌<◌, ◌^◌}}

pub lots_away-requires : goal.lots_away-requires
lots_away-requires c =
    let few : sum_by (λ (p : Part). p.lots) c.args.parts.now < 2 ^ 64 = rw c.requires.split.1 at c.requires.few in
    let less = moved_few c.in-Some.whole c.args.entry.now.firm c.args.parts.now in
    omega arith
