use Rattle.std.proofs.Common.{◌≡◌, drop}
use Rattle.gu_status.specs.Words.{first_named}
use Rattle.gu_status.proofs.words.firm_named.Given as goal

abbrev pub invariant-loop-it : goal.invariant-loop-it
invariant-loop-it l = first_named l.words (drop l.it-index l.firms) ≡ first_named l.words l.firms
