-- How long the server waits for a peer.
use Rattle.std.specs.Prelude.{ℕ, Bool, true, false}

-- for how many seconds a peer may take nothing of what it is sent
abbrev pub most_untaken : ℕ
most_untaken = 30

-- for how many it may go on behind the end of its session: for longer where it takes slowly
abbrev pub most_lingering : Bool → ℕ
most_lingering true = 30
most_lingering false = 10
