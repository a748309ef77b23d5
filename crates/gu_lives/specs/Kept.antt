-- Which changes of a list may be left out together.
use Rattle.std.specs.Prelude.{◌≡◌, Bool, true, false, List, Contains}
use Rattle.gu_base.specs.declared.command.Command.{Command}
use Rattle.gu_base.specs.declared.command.Command.TheVariants.{Agree, Raise}
use Rattle.gu_base.specs.declared.entry.Record.{Record}
use Rattle.gu_depend.specs.Under.{stands_under}

-- it makes terms, or raises a limit
abbrev pub sets_terms : Command → Bool
sets_terms (Agree _ _ _ _) = true
sets_terms (Raise _ _) = true
sets_terms _ = false

-- each change that sets terms is kept, and with a change that is left out each that stands under it
-- by a node
pub record IsClosed (l : List Record) (keep : Record → Bool) : Type 0 where
  pub terms : (r : Record) → Contains l r → sets_terms r.command ≡ true → keep r ≡ true
  pub below : (k e : Record) → Contains l k → Contains l e → stands_under k e ≡ true
      → keep k ≡ false → keep e ≡ false
