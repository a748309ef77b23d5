-- What the claims of a list of changes cost.
use Rattle.std.specs.Prelude.{ℕ, ◌*◌, Bool, List, filter, filter_map, sum_by, Option, Some, None}
use Rattle.std.specs.Prelude.{option_map, option_and_then, bytes_eq, if◌then◌else◌}
use Rattle.gu_base.specs.House.{House}
use Rattle.gu_base.specs.Nodes.{node_of}
use Rattle.gu_base.specs.Terms.{terms_of}
use Rattle.gu_base.specs.declared.entry.Record.{Record}
use Rattle.gu_base.specs.declared.node.Kind.{Kind}
use Rattle.gu_base.specs.declared.node.Kind.TheVariants.{Given}
use Rattle.gu_base.specs.declared.node.Node.{Node}
use Rattle.gu_base.specs.declared.node.Charge.{Charge}
use Rattle.gu_base.specs.declared.command.Command.{Command}
use Rattle.gu_base.specs.declared.command.Command.TheVariants.{Claim}

-- what a claim of a given part of these lots costs, by the terms of its giver and taker
abbrev pub charge_of_kind : House → List Record → ℕ → Kind → Option Charge
charge_of_kind t l lots (Given _ giver taker) =
    option_map (λ a. record { giver = giver; taker = taker; lots = lots; rate = a.rate })
    (terms_of t l giver taker)
charge_of_kind t l lots _ = None

-- what a claim of the node costs
abbrev pub charge_of_node : House → List Record → Node → Option Charge
charge_of_node t l x = charge_of_kind t l x.lots x.kind

-- what a command costs: a Claim alone costs something
abbrev pub charge_of : House → List Record → Command → Option Charge
charge_of t l (Claim n _) = option_and_then (charge_of_node t l) (node_of l n)
charge_of t l _ = None

-- the charges of the claims, in their order
abbrev pub charges : House → List Record → List Charge
charges t l = filter_map (λ r. charge_of t l r.command) l

-- what a charge counts, if it is one that the test takes
abbrev pub counted : (Charge → Bool) → (Charge → ℕ) → Option Charge → ℕ
counted takes counts None = 0
counted takes counts (Some c) = if takes c then counts c else 0

-- what a firm pays as the taker, in hundredths
abbrev pub paid_by : House → List Record → List ℕ → ℕ
paid_by t l firm = sum_by (λ c. c.lots * c.rate) (filter (λ c. bytes_eq c.taker firm) (charges t l))

-- what a firm receives as the giver, in hundredths
abbrev pub received_by : House → List Record → List ℕ → ℕ
received_by t l firm =
    sum_by (λ c. c.lots * c.rate) (filter (λ c. bytes_eq c.giver firm) (charges t l))
