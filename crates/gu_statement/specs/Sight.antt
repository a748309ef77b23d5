-- What a firm may see of a history.
use Rattle.std.specs.Prelude.{ℕ, if◌then◌else◌, List, [], map, filter, Option, Some, None}
use Rattle.std.specs.Prelude.{bytes_eq}
use Rattle.std.specs.List.{filter_map}
use Rattle.gu_base.specs.History.{records}
use Rattle.gu_base.specs.Nodes.{node_of, deal_in}
use Rattle.gu_base.specs.declared.command.Command.{Command}
use Rattle.gu_base.specs.declared.command.Command.TheVariants.{Split, Claim, Refuse, Cancel}
use Rattle.gu_base.specs.declared.entry.Entry.{Entry}
use Rattle.gu_base.specs.declared.entry.Record.{Record}
use Rattle.gu_base.specs.declared.node.Deal.{Deal}
use Rattle.gu_base.specs.declared.node.Node.{Node}
use Rattle.gu_base.specs.declared.report.ReportPart.{ReportPart}
use Rattle.gu_base.specs.declared.state.State.{State}
use Rattle.gu_trace.specs.Concerns.{concerns}
use Rattle.gu_trace.specs.Deals.{deal_of}
use Rattle.gu_trace.specs.Reports.{parts_shown, claimed_part}

-- an entry as a firm may see it: its number, who asked for what, the parts that it is shown, and
-- the instrument and side of the trade from which the lots come
pub record Seen : Type 0 where
  pub number : ℕ
  pub firm : List ℕ
  pub status : State
  pub command : Command
  pub parts : List ReportPart
  pub deal : Option Deal

-- a command without the parts of a Split and the account of a Claim, which are shown apart
abbrev pub without_parts : Command → Command
without_parts (Split n parts) = Split n []
without_parts (Claim n account) = Claim n []
without_parts command = command

-- of a Claim the part with its account, where the firm is the taker
abbrev pub part_taken : List ℕ → List ℕ → Option Node → List ReportPart
part_taken f account None = []
part_taken f account (Some x) = claimed_part f account x

-- the parts that a firm is shown: of its own Split all, of another's those that it is given, of a
-- Claim its own
abbrev pub parts_seen : List Entry → List ℕ → ℕ → List ℕ → Command → List ReportPart
parts_seen h f k by (Split n parts) = parts_shown f k by parts
parts_seen h f k by (Claim n account) = part_taken f account (node_of (records h) n)
parts_seen h f k by _ = []

-- the instrument and the side of what a change moves
abbrev pub deal_seen : List Entry → Command → Option Deal
deal_seen h (Split n parts) = deal_of h n
deal_seen h (Claim n account) = deal_of h n
deal_seen h (Refuse n) = deal_of h n
deal_seen h (Cancel n) = deal_of h n
deal_seen h command = deal_in command

-- what a firm may see of an entry that concerns it
abbrev pub cut : List Entry → List ℕ → Record → Seen
cut h f r = record {
  number = r.number;
  firm = r.firm;
  status = r.status;
  command = without_parts r.command;
  parts = parts_seen h f r.number r.firm r.command;
  deal = deal_seen h r.command;
}

-- an entry, where it concerns the firm
abbrev pub seen_of : List ℕ → List Entry → List ℕ → Record → Option Seen
seen_of house h f r = if concerns house h f r.firm r.command then Some (cut h f r) else None

-- what a firm may see of a history: the entries that concern it, each cut down to what it may see
abbrev pub seen : List ℕ → List Entry → List ℕ → List Seen
seen house h f = filter_map (seen_of house h f) (records h)

-- the ids of its own commands, which it alone may see
abbrev pub own_ids : List Entry → List ℕ → List (List ℕ)
own_ids h f = map (λ e. e.id) (filter (λ e. bytes_eq e.firm f) h)
