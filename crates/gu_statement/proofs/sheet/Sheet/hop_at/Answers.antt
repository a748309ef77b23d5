use Rattle.std.proofs.Common.{ℕ, ◌∙◌}
use Rattle.gu_statement.proofs.Live.{hop_told_of}
use Rattle.gu_statement.proofs.sheet.Sheet.hop_at.Goals as goal

pub returns : goal.returns
returns c =
    let book = c.args.self.now.book.now in
    c.hop_in.ensures
    ∙ hop_told_of (λ p. p.0) (λ p. p.1.now) book.house book.history c.args.self.now.whose c.args.place
    c.live_at.result c.live_at.ensures.legal c.live_at.ensures.change
