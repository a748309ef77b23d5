use Rattle.std.proofs.Common.{false, []}
use Rattle.gu_archive.proofs.Pieces.{said_nothing, said_more}
use Rattle.gu_archive.proofs.lines.push_rest.Goals as goal

pub returns : goal.returns
returns c =
    let moment = c.args.front.moment.now.text in
    let before = c.args.line.now.items in
    said_more moment c.args.front.connection c.args.way before before c.push_piece.new.line.items [] c.args.bytes.now
    false
    (said_nothing moment c.args.front.connection c.args.way before) (c.in_ok-push_piece.ensures)
