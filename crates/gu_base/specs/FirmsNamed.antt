-- The firms that a command names.
use Rattle.std.specs.Prelude.{◌≡◌, ℕ, Bool, true, List}
use Rattle.std.specs.List.{All}
use Rattle.gu_base.specs.declared.command.Command.{Command}
use Rattle.gu_base.specs.declared.command.Command.TheVariants.{Trade, Split, Claim, Refuse, Cancel}
use Rattle.gu_base.specs.declared.command.Command.TheVariants.{Agree, Raise, Initiate, Decline}
use Rattle.gu_base.specs.declared.command.Command.TheVariants.{Reverse}

-- the firms that a command names pass the test
abbrev pub NamesOnly : (List ℕ → Bool) → Command → Type 0
NamesOnly p (Trade firm _ _ _ _) = p firm ≡ true
NamesOnly p (Split _ parts) = All (λ q. p q.firm ≡ true) parts
NamesOnly p (Claim _ _) = Unit {0}
NamesOnly p (Refuse _) = Unit {0}
NamesOnly p (Cancel _) = Unit {0}
NamesOnly p (Agree giver taker _ _) = (p giver ≡ true) × (p taker ≡ true)
NamesOnly p (Raise giver _) = p giver ≡ true
NamesOnly p (Initiate _) = Unit {0}
NamesOnly p (Decline _) = Unit {0}
NamesOnly p (Reverse _) = Unit {0}
