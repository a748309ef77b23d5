use Rattle.std.proofs.Common.{List, ap, drop, length, arith}
use Rattle.gu_session.specs.Keeping.{Kept}
use Rattle.gu_session.proofs.KeptLists.{length_messages}
use Rattle.gu_session.proofs.kept.KeptMessages.len.Goals as goal

pub returns : goal.returns
returns c =
    let same = ap (λ (t : List Kept). length t) c.self.view_is in
    omega (
      arith,
      c.len.ensures,
      c.self.inside.headers.ok.0,
      length_messages c.self.inside.headers.items (drop c.self.inside.gone c.self.inside.bytes.items),
      same,
    )
