-- Who has to consent to a reversal, and who has.
use Rattle.std.specs.Prelude.{ℕ, Bool, true, false, not, ◌==◌, if◌then◌else◌, List, [], ◌∷◌, map}
use Rattle.std.specs.Prelude.{filter, find, Option, Some, None, bytes_eq}
use Rattle.std.specs.List.{list_any, after_last}
use Rattle.gu_base.specs.House.{House}
use Rattle.gu_base.specs.History.{is_reversed}
use Rattle.gu_base.specs.Nodes.{node_of}
use Rattle.gu_base.specs.declared.entry.Record.{Record}
use Rattle.gu_base.specs.declared.entry.Entry.{Entry}
use Rattle.gu_base.specs.declared.node.Kind.{Kind}
use Rattle.gu_base.specs.declared.node.Kind.TheVariants.{Given}
use Rattle.gu_base.specs.declared.node.Node.{Node}
use Rattle.gu_base.specs.declared.command.Command.{Command}
use Rattle.gu_base.specs.declared.command.Command.TheVariants.{Trade, Split, Claim, Refuse, Cancel}
use Rattle.gu_base.specs.declared.command.Command.TheVariants.{Agree, Raise, Initiate, Decline}

-- the parties of a Claim or a Refuse of a given part
abbrev pub taker_and_giver : Kind → List (List ℕ)
taker_and_giver (Given _ giver taker) = taker ∷ giver ∷ []
taker_and_giver _ = []

-- the party of a Cancel of one
abbrev pub giver_alone : Kind → List (List ℕ)
giver_alone (Given _ giver taker) = giver ∷ []
giver_alone _ = []

-- what is read of a node, and nothing where there is none
abbrev pub of_node : (Kind → List (List ℕ)) → Option Node → List (List ℕ)
of_node f None = []
of_node f (Some x) = f x.kind

-- those who have to consent to the reversal of a change of this firm, in order
abbrev pub parties_of : House → List Record → List ℕ → Command → List (List ℕ)
parties_of t l by (Trade firm _ _ _ _) = t.house ∷ firm ∷ []
parties_of t l by (Split _ _) = by ∷ []
parties_of t l by (Claim n _) = of_node taker_and_giver (node_of l n)
parties_of t l by (Refuse n) = of_node taker_and_giver (node_of l n)
parties_of t l by (Cancel n) = of_node giver_alone (node_of l n)
parties_of t l by (Agree giver taker _ _) = t.house ∷ giver ∷ taker ∷ []
parties_of t l by (Raise giver _) = by ∷ giver ∷ []
parties_of t l by _ = []

-- a command that speaks of the consents to a reversal
abbrev pub is_consenting : Command → Bool
is_consenting (Initiate _) = true
is_consenting (Decline _) = true
is_consenting _ = false

-- it consents to the reversal of this entry
abbrev pub is_initiate_of : ℕ → Command → Bool
is_initiate_of n (Initiate entry) = entry == n
is_initiate_of n _ = false

-- it clears the consents to that
abbrev pub is_decline_of : ℕ → Command → Bool
is_decline_of n (Decline entry) = entry == n
is_decline_of n _ = false

-- the firms with an Initiate of the entry after its last Decline, or with any Initiate of it where
-- it was never declined
abbrev pub consents_of : List Entry → ℕ → List (List ℕ)
consents_of h n =
    map (λ e. e.firm)
    (filter (λ e. is_initiate_of n e.command) (after_last (λ e. is_decline_of n e.command) h))

-- the consents that are left: none once the change is reversed
abbrev pub consents_left : List Entry → ℕ → List (List ℕ)
consents_left h n = if is_reversed h n then [] else consents_of h n

-- the firm is one of these
abbrev pub is_among : List ℕ → List (List ℕ) → Bool
is_among firm firms = list_any (bytes_eq firm) firms

-- the first of these firms that is not among the others
abbrev pub missing : List (List ℕ) → List (List ℕ) → Option (List ℕ)
missing firms others = find (λ f. not (is_among f others)) firms
