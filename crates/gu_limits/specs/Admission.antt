-- What an operator lets firms have of a server.
use Rattle.std.specs.Prelude.{ℕ, ◌-◌, ◌*◌, nat_le, nat_lt, Bool, true, false, not, ◌||◌}
use Rattle.std.specs.Prelude.{if◌then◌else◌, List, codes, Option, Some, None, option_map, is_some}
use Rattle.gu_base.specs.Limits.{most_entries}
use Rattle.gu_limits.specs.declared.ending.Ending.{Ending}
use Rattle.gu_limits.specs.declared.ending.Ending.TheVariants.{Entries, Parts, Reserve, Memory}
use Rattle.gu_limits.specs.declared.ending.Ending.TheVariants.{NoMemory, Held, Connections}
use Rattle.gu_limits.specs.declared.ending.Ending.TheVariants.{Silence, Stops, Refused, PutOut}
use Rattle.gu_limits.specs.declared.limits.Limits.{Limits}
use Rattle.gu_limits.specs.declared.size.Size.{Size}
use Rattle.gu_limits.specs.Size.{memory_of, with_call}

-- so many are as many as a limit admits
abbrev pub reaches : Option ℕ → ℕ → Bool
reaches None count = false
reaches (Some most) count = nat_le most count

-- so many are more than a limit admits
abbrev pub passes : Option ℕ → ℕ → Bool
passes None count = false
passes (Some most) count = nat_lt most count

-- how many entries of a book may be others than the house's
abbrev pub unreserved : Option ℕ → Option ℕ
unreserved reserve = option_map (λ n. most_entries - n) reserve

-- how many bytes of memory a book may take, of each megabyte so many
abbrev pub memory_let : Option ℕ → ℕ → Option ℕ
memory_let most each = option_map (λ n. n * each) most

-- of a megabyte all, and nine tenths
abbrev pub megabyte : ℕ
megabyte = 1_000_000

abbrev pub nine_tenths : ℕ
nine_tenths = 900_000

-- a limit bounds the entries, or their parts
abbrev pub bounds_entries : Limits → Bool
bounds_entries limits = (is_some limits.most_entries || is_some limits.most_parts)
    || (is_some limits.reserve || is_some limits.memory)

-- why a call isn't made, with which the book takes more memory than it may: the house's has all
-- that the book may take; a firm's isn't made where the firm has as many entries as it may have, or
-- would have more parts, where the book has as many entries as may be others than the house's, or
-- would take more than nine tenths of its memory
abbrev pub excess_of_call : Limits → Bool → Size → Size → ℕ → Option Ending
excess_of_call limits true mine all parts =
    if passes (memory_let limits.memory megabyte) (memory_of (with_call all parts))
    then Some NoMemory else None
excess_of_call limits false mine all parts =
    if reaches limits.most_entries mine.entries then Some Entries
    else if passes limits.most_parts (with_call mine parts).parts then Some Parts
    else if reaches (unreserved limits.reserve) all.entries then Some Reserve
    else if passes (memory_let limits.memory nine_tenths) (memory_of (with_call all parts))
    then Some Memory else None

-- more bytes wait for a firm than may; for the house any may
abbrev pub holds_too_much : Limits → Bool → ℕ → Bool
holds_too_much limits true bytes = false
holds_too_much limits false bytes = passes (option_map (λ n. n * megabyte) limits.held) bytes

-- a firm may have a connection more; the house always may
abbrev pub has_room : Limits → Bool → ℕ → Bool
has_room limits true count = true
has_room limits false count = not (reaches limits.per_firm count)

-- the rate of a firm; the house has none
abbrev pub rate_of : Limits → Bool → Option ℕ
rate_of limits true = None
rate_of limits false = limits.rate

-- for how many seconds a firm that has logged on may say nothing: three heartbeats of an hour
abbrev pub most_silence : ℕ
most_silence = 3 * 3600

-- it has said nothing for longer
abbrev pub is_silent : ℕ → ℕ → Bool
is_silent heard now = nat_lt most_silence (now - heard)

-- the text of the Logout
abbrev pub text_of : Ending → List ℕ
text_of Entries = codes "too many entries"
text_of Parts = codes "too many parts"
text_of Reserve = codes "entries left are the house's"
text_of Memory = codes "memory left is the house's"
text_of NoMemory = codes "no memory left"
text_of Held = codes "too much waits"
text_of Connections = codes "too many connections"
text_of Silence = codes "no heartbeat"
text_of Stops = codes "server stops"
text_of Refused = codes "refused by an operator"
text_of PutOut = codes "put out by an operator"

-- the bytes that one has at most
abbrev pub most_text : ℕ
most_text = 64
