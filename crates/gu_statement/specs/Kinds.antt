-- The text of the lines of a kind, one after the other.
use Rattle.std.specs.Prelude.{ℕ, ◌==◌, ◌&&◌, if◌then◌else◌, List, [], ◌∷◌, ◌++◌, flat_map, Option}
use Rattle.std.specs.Prelude.{Some, None, option_map, option_and_then}
use Rattle.gu_base.specs.House.{House}
use Rattle.gu_base.specs.History.{records, live}
use Rattle.gu_base.specs.Nodes.{node_of}
use Rattle.gu_base.specs.Positions.{position_of}
use Rattle.gu_base.specs.declared.command.Command.{Command}
use Rattle.gu_base.specs.declared.command.Command.TheVariants.{Claim, Agree}
use Rattle.gu_base.specs.declared.command.Side.TheVariants.{Buy, Sell}
use Rattle.gu_base.specs.declared.entry.Entry.{Entry}
use Rattle.gu_base.specs.declared.entry.Record.{Record}
use Rattle.gu_base.specs.declared.house.Account.{Account}
use Rattle.gu_base.specs.declared.house.Agreement.{Agreement}
use Rattle.gu_base.specs.declared.house.Pair.{Pair}
use Rattle.gu_base.specs.declared.node.Charge.{Charge}
use Rattle.gu_base.specs.declared.node.Kind.{Kind}
use Rattle.gu_base.specs.declared.node.Kind.TheVariants.{Given}
use Rattle.gu_base.specs.declared.node.Node.{Node}
use Rattle.gu_statement.specs.declared.lines.HopLine.{HopLine}
use Rattle.gu_statement.specs.declared.lines.PositionLine.{PositionLine}
use Rattle.gu_statement.specs.Lines.{Whose, is_of, position_line, balance_line, agreement_line}
use Rattle.gu_statement.specs.Lines.{hop_of, cost_of}
use Rattle.gu_statement.specs.Text.{line_with, position_said, balance_said, agreement_said}
use Rattle.gu_statement.specs.Text.{hop_said}

-- the lots that stand in an account, if some do
abbrev pub position_there : List Record → Account → List ℕ → Option PositionLine
position_there l a instrument =
    if (position_of l a.firm a.name instrument Buy == 0)
    && (position_of l a.firm a.name instrument Sell == 0)
    then None
    else Some (position_line l a instrument)

-- a line, if there is one
abbrev pub position_or_none : Option PositionLine → List ℕ
position_or_none None = []
position_or_none (Some p) = line_with (position_said p)

abbrev pub position_text : List Record → Account → List ℕ → List ℕ
position_text l a instrument = position_or_none (position_there l a instrument)

-- the positions of an account, if they may be seen
abbrev pub account_text : House → List Record → Whose → Account → List ℕ
account_text t l whose a =
    if is_of whose (a.firm ∷ []) then flat_map (position_text l a) t.instruments else []

-- all positions
abbrev pub positions_text : House → List Record → Whose → List ℕ
positions_text t l whose = flat_map (account_text t l whose) t.accounts

-- the balance of a firm, if it may be seen
abbrev pub balance_text : House → List Record → Whose → List ℕ → List ℕ
balance_text t l whose f =
    if is_of whose (f ∷ []) then line_with (balance_said (balance_line t l f)) else []

-- all balances, the house first
abbrev pub balances_text : House → List Record → Whose → List ℕ
balances_text t l whose = flat_map (balance_text t l whose) (t.house ∷ t.firms)

-- the terms of two firms, if they may be seen
abbrev pub agreement_text : House → List Record → Whose → ℕ → List ℕ → List ℕ → List ℕ
agreement_text t l whose entry giver taker =
    if is_of whose (giver ∷ taker ∷ [])
    then line_with (agreement_said (agreement_line t l entry giver taker))
    else []

-- all agreements that are fixed
abbrev pub fixed_text : House → List Record → Whose → List ℕ
fixed_text t l whose =
    flat_map (λ (e : Pair × Agreement). agreement_text t l whose 0 e.0.giver e.0.taker) t.agreements

-- the terms that a command of this number made, if they may be seen
abbrev pub made_text : House → List Record → Whose → ℕ → Command → List ℕ
made_text t l whose k (Agree giver taker _ _) = agreement_text t l whose k giver taker
made_text t l whose k _ = []

-- all agreements: those that are fixed, and then those that changes made
abbrev pub agreements_text : House → List Record → Whose → List ℕ
agreements_text t l whose =
    fixed_text t l whose ++ flat_map (λ (r : Record). made_text t l whose r.number r.command) l

-- what the claim of a node of this kind costs, if it may be seen
abbrev pub charge_seen : House → List Record → Whose → ℕ → Kind → Option Charge
charge_seen t l whose lots (Given parent giver taker) =
    if is_of whose (giver ∷ taker ∷ []) then cost_of t l giver taker lots else None
charge_seen t l whose lots _ = None

-- the hop of a Claim, whose node is looked up among all entries
unfoldable pub hop_by : House → List Entry → Whose → ℕ → Command → Option HopLine
hop_by t h whose k (Claim n account) =
    option_map (λ (c : Charge). record { entry = k; node = n; charge = c })
    (option_and_then (λ (x : Node). charge_seen t (live h) whose x.lots x.kind)
    (node_of (records h) n))
hop_by t h whose k _ = None

-- a hop, if it may be seen
abbrev pub seen_hop : Whose → Option HopLine → Option HopLine
seen_hop whose None = None
seen_hop whose (Some h) =
    if is_of whose (h.charge.giver ∷ h.charge.taker ∷ []) then Some h else None

-- the hop of a record, if it is a Claim
abbrev pub hop_there : House → List Record → Whose → Record → Option HopLine
hop_there t l whose r = seen_hop whose (hop_of t l r.number r.command)

abbrev pub hop_or_none : Option HopLine → List ℕ
hop_or_none None = []
hop_or_none (Some h) = line_with (hop_said h)

abbrev pub hop_text : House → List Record → Whose → Record → List ℕ
hop_text t l whose r = hop_or_none (hop_there t l whose r)

-- all hops
abbrev pub hops_text : House → List Record → Whose → List ℕ
hops_text t l whose = flat_map (hop_text t l whose) l

-- what stands for something, if it is there
abbrev pub of_some : {A : Type 0} → (A → List ℕ) → Option A → List ℕ
of_some f None = []
of_some f (Some x) = f x
