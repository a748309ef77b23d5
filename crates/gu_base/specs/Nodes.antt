-- The nodes that a list of changes makes, and which Split or decision names one.
use Rattle.std.specs.Prelude.{ℕ, ◌+◌, Bool, true, false, ◌&&◌, ◌==◌, if◌then◌else◌, List, [], ◌∷◌}
use Rattle.std.specs.Prelude.{find, flat_map, Option, Some, None, is_none, option_and_then}
use Rattle.std.specs.Prelude.{bytes_eq}
use Rattle.gu_base.specs.Numbers.{EntryPart}
use Rattle.gu_base.specs.declared.entry.Record.{Record}
use Rattle.gu_base.specs.declared.node.Kind.{Kind}
use Rattle.gu_base.specs.declared.node.Kind.TheVariants.{Root, Own, Given}
use Rattle.gu_base.specs.declared.node.Node.{Node}
use Rattle.gu_base.specs.declared.node.Deal.{Deal}
use Rattle.gu_base.specs.declared.command.Part.{Part}
use Rattle.gu_base.specs.declared.command.Command.{Command}
use Rattle.gu_base.specs.declared.command.Command.TheVariants.{Trade, Split, Claim, Refuse, Cancel}

-- the two are one node
abbrev pub same_name : EntryPart → EntryPart → Bool
same_name a b = (a.entry == b.entry) && (a.part == b.part)

-- a part of this parent: own where it names the firm that splits, else given by that firm to the
-- one that it names
abbrev pub kind_of_part : EntryPart → List ℕ → Part → Kind
kind_of_part parent maker p =
    if bytes_eq p.firm maker then Own parent maker p.account
    else Given parent maker p.firm

-- the nodes of the parts of a split, counted from this part on
abbrev pub nodes_of_parts : ℕ → ℕ → EntryPart → List ℕ → List Part → List Node
nodes_of_parts entry i parent maker [] = []
nodes_of_parts entry i parent maker (p ∷ ps) =
    record {
      name = record { entry = entry; part = i };
      lots = p.lots;
      kind = kind_of_part parent maker p;
    }
    ∷ nodes_of_parts entry (i + 1) parent maker ps

-- the nodes that a command of this number and firm makes: a trade its root, a split its parts
abbrev pub nodes_of : ℕ → List ℕ → Command → List Node
nodes_of k by (Trade firm account instrument side lots) =
    record {
      name = record { entry = k; part = 0 };
      lots = lots;
      kind = Root (record { firm = firm; account = account });
    }
    ∷ []
nodes_of k by (Split parent parts) = nodes_of_parts k 1 parent by parts
nodes_of k by _ = []

-- the nodes of a list of changes
abbrev pub nodes : List Record → List Node
nodes l = flat_map (λ r. nodes_of r.number r.firm r.command) l

-- the node of this name
abbrev pub node_of : List Record → EntryPart → Option Node
node_of l n = find (λ x. same_name x.name n) (nodes l)

-- what a Trade trades
abbrev pub deal_in : Command → Option Deal
deal_in (Trade _ _ instrument side _) = Some (record { instrument = instrument; side = side })
deal_in _ = None

-- whether a command is a Split
abbrev pub is_split : Command → Bool
is_split (Split _ _) = true
is_split _ = false

-- whether a command splits the node
abbrev pub splits : EntryPart → Command → Bool
splits n (Split m _) = same_name m n
splits n _ = false

-- whether a command claims, refuses or cancels the node
abbrev pub decides : EntryPart → Command → Bool
decides n (Claim m _) = same_name m n
decides n (Refuse m) = same_name m n
decides n (Cancel m) = same_name m n
decides n _ = false

-- the Split that names the node
abbrev pub split_of : List Record → EntryPart → Option Record
split_of l n = find (λ r. splits n r.command) l

-- the Claim, Refuse or Cancel that names the node
abbrev pub decision_of : List Record → EntryPart → Option Record
decision_of l n = find (λ r. decides n r.command) l

-- the account that a Claim names
abbrev pub claimed_account : Command → Option (List ℕ)
claimed_account (Claim _ account) = Some account
claimed_account _ = None

-- the account of the Claim that names the node, if its decision is one
abbrev pub claim_of : List Record → EntryPart → Option (List ℕ)
claim_of l n = option_and_then (λ r. claimed_account r.command) (decision_of l n)

-- the node that the Split of a part names; a root has none
abbrev pub parent : Kind → Option EntryPart
parent (Root _) = None
parent (Own n _ _) = Some n
parent (Given n _ _) = Some n

-- a part that names another firm than the one that split
abbrev pub is_given : Kind → Bool
is_given (Given _ _ _) = true
is_given _ = false

-- a node is offered where it is given and has no decision
abbrev pub is_offered : List Record → Node → Bool
is_offered l x = is_given x.kind && is_none (decision_of l x.name)
