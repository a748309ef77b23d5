-- What an operator says of connections.
use Rattle.std.specs.Prelude.{ℕ, nat_lt, if◌then◌else◌, Option, Some, None}
use Rattle.gu_limits.specs.declared.ending.Ending.{Ending}
use Rattle.gu_limits.specs.declared.ending.Ending.TheVariants.{Stops, Refused, PutOut}
use Rattle.gu_limits.specs.declared.said.Said.{Said}

-- why a connection ends, and no call is made on it any more: where the server stops each does,
-- whoever's it is; where a firm isn't let in each of the firm's does; and else one that came in
-- before the firm's were put out last
abbrev pub ending_of : Said → ℕ → Option Ending
ending_of said before =
    if said.stops then Some Stops
    else if said.refused then Some Refused
    else if nat_lt before said.put_out then Some PutOut else None
