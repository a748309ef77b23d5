-- What a seat has seen only grows.
use Rattle.std.proofs.Common.{List}
use Rattle.gu_base.specs.declared.entry.Entry.{Entry}
use Rattle.gu_desk.specs.Begins.{BeginsWith}
use Rattle.gu_desk.proofs.Moves.{begins_itself, begins_with_all}

-- a history begins with itself
pub itself : (h : List Entry) → BeginsWith h h
itself h = begins_itself h

-- and with all that a beginning of it begins with
pub still : (l h seen : List Entry) → BeginsWith l h → BeginsWith h seen → BeginsWith l seen
still l h seen p q = begins_with_all l h seen p q
