use Rattle.std.proofs.Common.{◌≡◌, drop}
use Rattle.gu_base.specs.Consents.{missing}
use Rattle.gu_consent.specs.Given.{firms_in}
use Rattle.gu_consent.proofs.Firms.missing.Given as goal

abbrev pub invariant-loop-f : goal.invariant-loop-f
invariant-loop-f l = missing (drop l.f-index l.firms) (firms_in l.self) ≡ missing l.firms (firms_in l.self)
