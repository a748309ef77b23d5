-- The moment of an event.
use Rattle.std.specs.Prelude.{ℕ, ◌==◌, if◌then◌else◌, ◌++◌, length, take, drop, codes}
use Rattle.gu_log.specs.Values.{Text}

-- how many bytes a SendingTime (52) has, `20260302-09:00:00.123`
abbrev pub sent_len : ℕ
sent_len = 21

-- its date, with hyphens
abbrev pub date_text : Text → Text
date_text s = take 4 s ++ codes "-" ++ take 2 (drop 4 s) ++ codes "-" ++ take 2 (drop 6 s)

-- such a moment as `2026-03-02T09:00:00.123Z`
abbrev pub moment_text : Text → Text
moment_text s =
    if length s == sent_len then date_text s ++ codes "T" ++ drop 9 s ++ codes "Z" else s
