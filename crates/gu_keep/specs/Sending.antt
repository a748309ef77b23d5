-- What a turn of a connection has sent.
use Rattle.std.specs.Prelude.{◌≡◌, ◌⊎◌, ℕ, List, [], Option, false}
use Rattle.gu_base.specs.declared.entry.Entry.{Entry}
use Rattle.gu_book.specs.Seen.{HouseAndHistory}
use Rattle.gu_connection.specs.Standing.{stands}
use Rattle.gu_connection.specs.Talks.{Ticks, Breaks, Turns as TurnsOf}
use Rattle.gu_connection.specs.declared.connection.Connection.{Connection}
use Rattle.gu_connection.specs.declared.worker.Left.{Left}
use Rattle.gu_desk.specs.Views.{SeatView}
use Rattle.gu_recorder.specs.Waiting.{Outgoing, Holds}

-- one Tick, which is the same whatever a seat has seen
abbrev pub IsBeat : List ℕ → HouseAndHistory → Connection → Connection → Type 0
IsBeat house opening before behind =
    ((seat : SeatView) → Ticks (stands seat before) (stands seat behind))
    ⊎ ((seat : SeatView) → Breaks house opening (stands seat before) (stands seat behind))

-- one turn, which is the same whatever a seat has seen
abbrev pub IsStill : HouseAndHistory → Connection → Connection → Type 0
IsStill opening before behind =
    (left : Left) × (coming : Option (List ℕ)) × (left_over : Option (List ℕ)) × (l : Left)
    × ((seat : SeatView)
    → TurnsOf opening left coming left_over (stands seat before) (stands seat behind) l)

-- what one Tick made, and nothing else, waits behind the rest, if it made anything: it rests on no
-- more than that
abbrev pub Beats : List ℕ → HouseAndHistory → Connection → Outgoing → Outgoing → Type 0
Beats house opening before waits after =
    ((behind : Connection) × (before.out.items ≡ []) × IsBeat house opening before behind
    × Holds waits after behind.out.items waits.rests)
    ⊎ (after ≡ waits)

-- the same of one turn
abbrev pub Stays : HouseAndHistory → Connection → Outgoing → Outgoing → Type 0
Stays opening before waits after =
    (behind : Connection) × (before.out.items ≡ [])
    × IsStill opening (record before { tells = false }) behind
    × Holds waits after behind.out.items waits.rests

-- what was made of this history waits behind the rest, if anything was
abbrev pub Adds : Outgoing → Outgoing → List Entry → Type 0
Adds waits after h = ((out : List ℕ) × Holds waits after out h) ⊎ (after ≡ waits)

-- what a turn made waits behind the rest, if it made anything: it was made of this history, or of
-- no more than the rest
abbrev pub Turns : HouseAndHistory → Connection → Outgoing → Outgoing → List Entry → Type 0
Turns opening before waits after h = Adds waits after h ⊎ Stays opening before waits after
