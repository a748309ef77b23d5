-- How much a command line may ask for. The code has constants of its own.
use Rattle.std.specs.Prelude.{ℕ, nat_le, if◌then◌else◌, List, Option, Some, None, option_and_then}
use Rattle.gu_message.specs.Values.{entry_of}

-- the greatest port
abbrev pub most_port : ℕ
most_port = 65535

-- how many workers serve where the command line doesn't say
abbrev pub usual_workers : ℕ
usual_workers = 4

-- the connections behind which a server may end
abbrev pub most_connections : ℕ
most_connections = 1000000

-- a number of 1 to so many, without leading zeros
abbrev pub up_to : ℕ → List ℕ → Option ℕ
up_to most word = option_and_then (λ n. if nat_le n most then Some n else None) (entry_of word)
