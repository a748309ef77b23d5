-- How long frames and streams may be. The code has constants of its own, and what is proved of it
-- fails where one of them differs from these.
use Rattle.std.specs.Prelude.{ℕ, ◌^◌}

-- the bytes of a frame, and so of what a feed holds
abbrev pub longest_frame : ℕ
longest_frame = 65536

-- the bytes of a body that is written
abbrev pub longest_body : ℕ
longest_body = 65000

-- the bytes of MsgType (35), SendingTime (52) and OrigSendingTime (122) that are written
abbrev pub longest_text : ℕ
longest_text = 24

-- the bytes of a stream that a feed takes
abbrev pub longest_stream : ℕ
longest_stream = 2 ^ 60
