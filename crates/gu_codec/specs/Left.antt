-- What is left of a body whose SOH are marked.
use Rattle.std.specs.Prelude.{ℕ, List, drop}
use Rattle.gu_codec.specs.declared.marks.Marked.TheInside.{Inside}
use Rattle.gu_codec.specs.MarkBits.{IsMarked}

-- the bytes that are left
abbrev pub left_of : Inside → List ℕ
left_of m = drop m.at m.bytes.now

-- the marks are theirs
abbrev pub AreLeft : Inside → Type 0
AreLeft m = IsMarked m.bytes.now m.at m.base m.marks
