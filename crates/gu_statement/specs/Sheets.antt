-- What a sheet is made from.
use Rattle.std.specs.Prelude.{◌≡◌, map}
use Rattle.gu_base.specs.History.{live}
use Rattle.gu_base.specs.declared.entry.Record.{Record}
use Rattle.gu_statement.specs.declared.sheet.Sheet.{Sheet}

-- its numbers are those of the live changes of its book
abbrev pub IsSheet : Sheet → Type 0
IsSheet s = s.live.now ≡ map (λ (r : Record). r.number) (live s.book.now.history)
