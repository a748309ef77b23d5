-- What a line that was taken apart adds to a table.
use Rattle.std.specs.Prelude.{Result, Err}
use Rattle.gu_base.specs.House.{House}
use Rattle.gu_parties.specs.Steps.{add_firm, add_account, add_instrument, add_agreement}
use Rattle.gu_parties.specs.declared.fault.Cause.{Cause}
use Rattle.gu_parties.specs.declared.fault.Cause.TheVariants.{BadLine}
use Rattle.gu_parties.specs.declared.line.HouseLine.{HouseLine}
use Rattle.gu_parties.specs.declared.line.HouseLine.TheVariants.{Firm, Account, Instrument}
use Rattle.gu_parties.specs.declared.line.HouseLine.TheVariants.{Agreement, Other}

-- a line by its first word and its number of words
abbrev pub says : HouseLine → House → Result House Cause
says (Firm firm) t = add_firm t firm.now
says (Account firm name) t = add_account t firm.now name.now
says (Instrument name) t = add_instrument t name.now
says (Agreement giver taker rate limit) t = add_agreement t giver.now taker.now rate.now limit.now
says Other t = Err BadLine
