-- What a server makes of the book of a house.
use Rattle.std.specs.Prelude.{◌≡◌}
use Rattle.gu_base.specs.House.{House}
use Rattle.gu_base.specs.Runs.{IsRunFrom, opening_history}
use Rattle.gu_book.specs.Seen.{HouseAndHistory}

-- the book is what calls of the firms made of the opening one
abbrev pub IsServed : House → HouseAndHistory → Type 0
IsServed house b = (b.house ≡ house) × IsRunFrom house (opening_history house) b.history
