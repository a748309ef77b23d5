use Rattle.gu_archive.specs.declared.lines.Way.TheVariants.{Out}
use Rattle.gu_archive.proofs.Pieces.{said_all}
use Rattle.gu_archive.proofs.tap.Tap.say.Goals as goal

pub returns : goal.returns
returns c =
    let moment = c.front-front.ensures.moment in
    let number = c.front-front.ensures.connection in
    said_all c.args.moment.now.text c.args.self.now.number Out c.args.lines.now.items c.push_pieces.new.line.items
    c.push_rest.new.line.items c.args.bytes.now c.in_ok-told.told (rw (moment, number) at c.in_ok-told.ensures.said)
    (rw (moment, number, c.split_at.ensures.back) at c.in_ok-push_rest.ensures)
