-- The text of all positions, fees and agreements, in the order of the house file; behind the
-- agreements that are fixed those that changes made, by their numbers.
use Rattle.std.specs.Prelude.{ℕ, ◌&&◌, ◌==◌, if◌then◌else◌, List, [], ◌∷◌, ◌++◌, codes, decimal}
use Rattle.std.specs.Prelude.{flat_map, unwrap_or}
use Rattle.gu_base.specs.House.{House}
use Rattle.gu_base.specs.History.{live}
use Rattle.gu_base.specs.Positions.{position_of}
use Rattle.gu_base.specs.Fees.{paid_by, received_by}
use Rattle.gu_base.specs.Terms.{used_of, limit_of}
use Rattle.gu_base.specs.declared.house.Account.{Account}
use Rattle.gu_base.specs.declared.house.Pair.{Pair}
use Rattle.gu_base.specs.declared.house.Agreement.{Agreement}
use Rattle.gu_base.specs.declared.command.Command.{Command}
use Rattle.gu_base.specs.declared.command.Command.TheVariants.{Agree}
use Rattle.gu_base.specs.declared.entry.Entry.{Entry}
use Rattle.gu_base.specs.declared.entry.Record.{Record}
use Rattle.gu_base.specs.declared.command.Side.TheVariants.{Buy, Sell}

-- `position f/a `
abbrev pub account_words : List ℕ → List ℕ → List ℕ
account_words firm account = codes "position " ++ firm ++ codes "/" ++ account ++ codes " "

-- `i long L short S`, with LF
abbrev pub lots_words : List ℕ → ℕ → ℕ → List ℕ
lots_words instrument long short =
    instrument ++ codes " long " ++ decimal long ++ codes " short " ++ decimal short ++ 10 ∷ []

-- `position f/a i long L short S`
abbrev pub position_line : List ℕ → List ℕ → List ℕ → ℕ → ℕ → List ℕ
position_line firm account instrument long short =
    account_words firm account ++ lots_words instrument long short

-- the line of a position, where lots stand there
abbrev pub position_or_none : List ℕ → List ℕ → List ℕ → ℕ → ℕ → List ℕ
position_or_none firm account instrument long short =
    if (long == 0) && (short == 0) then [] else position_line firm account instrument long short

-- the line of an account and an instrument
abbrev pub position_in : List Record → Account → List ℕ → List ℕ
position_in l a instrument =
    position_or_none a.firm a.name instrument (position_of l a.firm a.name instrument Buy)
    (position_of l a.firm a.name instrument Sell)

-- `fees f paid P received R`, where the firm pays or receives something
abbrev pub fees_line : List ℕ → ℕ → ℕ → List ℕ
fees_line firm paid received =
    if (paid == 0) && (received == 0) then []
    else codes "fees " ++ firm ++ codes " paid " ++ decimal paid ++ codes " received "
    ++ decimal received ++ 10 ∷ []

-- the line of a firm
abbrev pub fees_of : House → List Record → List ℕ → List ℕ
fees_of t l firm = fees_line firm (paid_by t l firm) (received_by t l firm)

-- `agreement g t used U limit L`, where lots are used
abbrev pub agreement_line : List ℕ → List ℕ → ℕ → ℕ → List ℕ
agreement_line giver taker used limit =
    if used == 0 then []
    else codes "agreement " ++ giver ++ codes " " ++ taker ++ codes " used " ++ decimal used
    ++ codes " limit " ++ decimal limit ++ 10 ∷ []

-- the line of a giver and a taker, with the limit as it is raised
abbrev pub use_of : House → List Record → List ℕ → List ℕ → List ℕ
use_of t l giver taker =
    agreement_line giver taker (used_of l giver taker) (unwrap_or (limit_of t l giver taker) 0)

-- the line of an agreement that is fixed
abbrev pub fixed_line : House → List Record → Pair × Agreement → List ℕ
fixed_line t l e = use_of t l e.0.giver e.0.taker

-- the line of the agreement that a command makes, if it makes one
abbrev pub made_line : House → List Record → Command → List ℕ
made_line t l (Agree giver taker _ _) = use_of t l giver taker
made_line t l _ = []

-- a line for each account and within it each instrument
abbrev pub positions_text : House → List Record → List ℕ
positions_text t l = flat_map (λ a. flat_map (position_in l a) t.instruments) t.accounts

-- a line for each firm, the house first
abbrev pub fees_text : House → List Record → List ℕ
fees_text t l = flat_map (fees_of t l) (t.house ∷ t.firms)

-- a line for each agreement: those that are fixed, and then those that changes made, by their
-- numbers
abbrev pub agreements_text : House → List Record → List ℕ
agreements_text t l =
    flat_map (fixed_line t l) t.agreements ++ flat_map (λ r. made_line t l r.command) l

-- the three of them, over the live changes
abbrev pub totals_text : House → List Entry → List ℕ
totals_text t h = positions_text t (live h) ++ fees_text t (live h) ++ agreements_text t (live h)
