-- How much a new book lacks of an old one.
use Rattle.std.specs.Prelude.{◌≡◌, ℕ, ◌-◌, Bool, true, false, not, List, length, filter, map}
use Rattle.gu_base.specs.Answers.{is_empty}
use Rattle.gu_base.specs.Consents.{consents_of}
use Rattle.gu_base.specs.History.{live}
use Rattle.gu_base.specs.declared.command.Command.{Command}
use Rattle.gu_base.specs.declared.command.Command.TheVariants.{Reverse}
use Rattle.gu_base.specs.declared.entry.Entry.{Entry}
use Rattle.gu_roll.specs.Carried.{carried}
use Rattle.gu_roll.specs.declared.keep.Keep.{Keep}
use Rattle.gu_roll.specs.declared.lost.Lost.{Lost}

abbrev pub is_a_reverse : Command → Bool
is_a_reverse (Reverse entry) = true
is_a_reverse _ = false

-- how many changes of a history were reversed: each Reverse of it names another one
abbrev pub reversed_in : List Entry → ℕ
reversed_in h = length (filter (λ e. is_a_reverse e.command) h)

-- some firm consents to the reversal of the entry of this number
abbrev pub has_consents : List Entry → ℕ → Bool
has_consents h n = not (is_empty (consents_of h n))

-- how many changes were reversed, how many live ones aren't kept, and how many live ones have
-- consents
pub record IsLost (keep : Keep) (h : List Entry) (lost : Lost) : Type 0 where
  pub reversed : lost.reversed ≡ reversed_in h
  pub closed : lost.closed ≡ length (live h) - length (carried keep h)
  pub consented : lost.consented
      ≡ length (filter (has_consents h) (map (λ r. r.number) (live h)))
