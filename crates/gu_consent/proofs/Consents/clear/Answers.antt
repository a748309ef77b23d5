use Rattle.std.specs.Prelude.{None}
use Rattle.std.specs.Map.{lookup}
use Rattle.std.proofs.Common.{◌==◌}
use Rattle.gu_consent.specs.Given.{firms_in}
use Rattle.gu_consent.proofs.Replaced.{replaced}
use Rattle.gu_consent.proofs.Consents.clear.Goals as goal

pub returns : goal.returns
returns c n =
    replaced firms_in c.args.entry n None (lookup (λ m. n == m) c.args.self.now.firms.entries)
    (lookup (λ m. n == m) c.remove.new.self.entries) (rw c.get.ensures.value at c.remove.ensures.updates.0 n)
