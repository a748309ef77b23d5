use Rattle.std.proofs.Common.{subst}
use Rattle.gu_codec.specs.Answer.{Answers}
use Rattle.gu_archive.proofs.Pieces.{garbled_some}
use Rattle.gu_archive.proofs.lines.piece_at.Goals as goal

pub returns-in-Garbled-clause-some : goal.returns-in-Garbled-clause-some
returns-in-Garbled-clause-some c =
    garbled_some c.args.bytes.now c.in-Garbled.len
    (subst (λ r. Answers c.args.bytes.now r) c.in-Garbled.is c.read_frame.ensures)
