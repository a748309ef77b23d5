-- What a new book keeps of an old one.
use Rattle.std.specs.Prelude.{Bool, true, List}
use Rattle.gu_base.specs.History.{live}
use Rattle.gu_base.specs.declared.entry.Entry.{Entry}
use Rattle.gu_base.specs.declared.entry.Record.{Record}
use Rattle.gu_lives.specs.Roll.{kept}
use Rattle.gu_lives.specs.Trades.{in_trades, is_open}
use Rattle.gu_roll.specs.declared.keep.Keep.{Keep}
use Rattle.gu_roll.specs.declared.keep.Keep.TheVariants.{All, Open}

-- which live changes of a history are kept: all, or those of the trades some part of which is
-- offered and those of no trade, which are the agreements and the raises
abbrev pub keeps : Keep → List Entry → Record → Bool
keeps All h = λ _. true
keeps Open h = in_trades (live h) (is_open (live h))

-- the changes of a history that a new book gets
abbrev pub carried : Keep → List Entry → List Record
carried keep h = kept (keeps keep h) h
