-- What a history begins with.
use Rattle.std.specs.Prelude.{◌≡◌, List, ◌++◌}
use Rattle.gu_base.specs.declared.entry.Entry.{Entry}

-- h is what was seen, and perhaps more records behind it
pub record BeginsWith (h seen : List Entry) : Type 0 where
  pub rest : List Entry
  pub is : h ≡ seen ++ rest
