-- A journal and its seat.
use Rattle.std.specs.Prelude.{List}
use Rattle.gu_base.specs.declared.entry.Entry.{Entry}

-- a journal, the history that its seat has seen, and the beginning of it that is durable
pub record Recorded (K : Type 0) : Type 0 where
  pub journal : K
  pub seen : List Entry
  pub kept : List Entry
