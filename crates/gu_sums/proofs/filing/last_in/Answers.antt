use Rattle.gu_sums.proofs.filing.last_in.Goals as goal
use Rattle.{gu_sums.proofs.Filings.last_is, std.proofs.Common.{sym, ◌∙◌}}

pub returns-in-Some : goal.returns-in-Some
returns-in-Some g c =
    c.get.ensures.value ∙ sym (last_is c.args.filed.now c.in-Some.one.now (sym c.in-Some.ensures.value))
