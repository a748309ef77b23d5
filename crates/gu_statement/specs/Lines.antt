-- What the lines of a statement say, of a whole book and of what one firm may see of it.
use Rattle.gu_base.specs.Runs.{IsRunFrom}
use Rattle.std.specs.Prelude.{◌≡◌, ℕ, zero, suc, ◌+◌, ◌*◌, ◌==◌, Bool, true, false, not, ◌&&◌, ◌||◌}
use Rattle.std.specs.Prelude.{if◌then◌else◌, List, []}
use Rattle.std.specs.Prelude.{◌∷◌, ◌++◌, map, filter, flat_map, length, Option, Some, None}
use Rattle.std.specs.Prelude.{option_map}
use Rattle.std.specs.Prelude.{unwrap_or, bytes_eq, is_none, option_and_then}
use Rattle.std.specs.List.{filter_map}
use Rattle.gu_base.specs.Numbers.{EntryPart}
use Rattle.gu_base.specs.House.{House}
use Rattle.gu_base.specs.History.{records, live, is_change}
use Rattle.gu_base.specs.Nodes.{nodes, nodes_of, node_of, split_of, decision_of}
use Rattle.gu_base.specs.Positions.{position_of}
use Rattle.gu_base.specs.Fees.{charge_of, paid_by, received_by}
use Rattle.gu_base.specs.Terms.{terms_of, limit_of, used_of}
use Rattle.gu_base.specs.Refusals.{is_taker, limit_row}
use Rattle.gu_base.specs.Answers.{entry_of, reversal_of}
use Rattle.gu_base.specs.Consents.{parties_of, consents_left, is_among}
use Rattle.gu_base.specs.Standing.{standing_on}
use Rattle.gu_base.specs.Rows.{Row, row_of, parts_of, rows_of}
use Rattle.gu_base.specs.declared.house.Account.{Account}
use Rattle.gu_base.specs.declared.house.Agreement.{Agreement}
use Rattle.gu_base.specs.declared.house.Pair.{Pair}
use Rattle.gu_base.specs.declared.node.Charge.{Charge}
use Rattle.gu_base.specs.declared.node.Kind.{Kind}
use Rattle.gu_base.specs.declared.node.Kind.TheVariants.{Given}
use Rattle.gu_base.specs.declared.node.Node.{Node}
use Rattle.gu_base.specs.declared.node.Place.{Place}
use Rattle.gu_base.specs.declared.command.Command.{Command}
use Rattle.gu_base.specs.declared.command.Command.TheVariants.{Trade, Claim, Agree, Raise}
use Rattle.gu_base.specs.declared.command.Command.TheVariants.{Initiate, Decline, Reverse}
use Rattle.gu_base.specs.declared.command.Side.{Side}
use Rattle.gu_base.specs.declared.command.Side.TheVariants.{Buy, Sell}
use Rattle.gu_base.specs.declared.entry.Entry.{Entry}
use Rattle.gu_base.specs.declared.entry.Record.{Record}
use Rattle.gu_base.specs.declared.refusal.Refusal.{Refusal}
use Rattle.gu_trace.specs.Concerns.{concerns}
use Rattle.gu_statement.specs.declared.lines.AgreementLine.{AgreementLine}
use Rattle.gu_statement.specs.declared.lines.BalanceLine.{BalanceLine}
use Rattle.gu_statement.specs.declared.lines.HopLine.{HopLine}
use Rattle.gu_statement.specs.declared.lines.OfferLine.{OfferLine}
use Rattle.gu_statement.specs.declared.lines.PositionLine.{PositionLine}
use Rattle.gu_statement.specs.Sight.{Seen, cut}

-- ---- whose a line is

-- the lines of a whole book, or those of one firm
abbrev pub Whose : Type 0
Whose = Option (List ℕ)

-- something between these firms is in the statement
abbrev pub is_of : Whose → List (List ℕ) → Bool
is_of None firms = true
is_of (Some f) firms = is_among f firms

-- ---- positions, balances, hops, agreements

-- lots that stand in an account
abbrev pub position_line : List Record → Account → List ℕ → PositionLine
position_line l a instrument = record {
  at = a;
  instrument = instrument;
  long = position_of l a.firm a.name instrument Buy;
  short = position_of l a.firm a.name instrument Sell;
}

-- lots stand there
abbrev pub is_used : PositionLine → Bool
is_used p = not ((p.long == 0) && (p.short == 0))

-- for each account of the house table and each instrument where lots stand
abbrev pub position_lines : House → List Record → Whose → List PositionLine
position_lines t l whose =
    filter is_used
    (flat_map (λ (a : Account). map (position_line l a) t.instruments)
    (filter (λ (a : Account). is_of whose (a.firm ∷ [])) t.accounts))

-- what a firm pays and receives
abbrev pub balance_line : House → List Record → List ℕ → BalanceLine
balance_line t l f = record { firm = f; paid = paid_by t l f; received = received_by t l f }

-- the same of each firm, the house first
abbrev pub balance_lines : House → List Record → Whose → List BalanceLine
balance_lines t l whose =
    map (balance_line t l) (filter (λ f. is_of whose (f ∷ [])) (t.house ∷ t.firms))

-- the hop of a Claim: its number, its node, and what it costs
abbrev pub hop_of : House → List Record → ℕ → Command → Option HopLine
hop_of t l k (Claim n account) =
    option_map (λ c. record { entry = k; node = n; charge = c }) (charge_of t l (Claim n account))
hop_of t l k _ = None

-- the hop of each live Claim
abbrev pub hop_lines : House → List Record → Whose → List HopLine
hop_lines t l whose =
    filter (λ (h : HopLine). is_of whose (h.charge.giver ∷ h.charge.taker ∷ []))
    (filter_map (λ (r : Record). hop_of t l r.number r.command) l)

-- the terms of two firms, with the entry that made them, or 0 where they are fixed
abbrev pub agreement_line : House → List Record → ℕ → List ℕ → List ℕ → AgreementLine
agreement_line t l entry giver taker = record {
  giver = giver;
  taker = taker;
  rate = unwrap_or (option_map (λ (a : Agreement). a.rate) (terms_of t l giver taker)) 0;
  limit = unwrap_or (limit_of t l giver taker) 0;
  used = used_of l giver taker;
  entry = entry;
}

-- the agreement that a record makes
abbrev pub made_agreement : House → List Record → ℕ → Command → Option AgreementLine
made_agreement t l k (Agree giver taker _ _) = Some (agreement_line t l k giver taker)
made_agreement t l k _ = None

-- all of them, used or not: those that are fixed, and then those that changes made
abbrev pub agreement_lines : House → List Record → Whose → List AgreementLine
agreement_lines t l whose =
    filter (λ (a : AgreementLine). is_of whose (a.giver ∷ a.taker ∷ []))
    (map (λ (e : Pair × Agreement). agreement_line t l 0 e.0.giver e.0.taker) t.agreements
    ++ filter_map (λ (r : Record). made_agreement t l r.number r.command) l)

-- ---- nodes

-- the firm made the Split of the node
abbrev pub is_split_by : List ℕ → Option Record → Bool
is_split_by f None = false
is_split_by f (Some r) = bytes_eq r.firm f

-- a place, where it is the firm's own
abbrev pub own_place : List ℕ → Option Place → Option Place
own_place f None = None
own_place f (Some p) = if bytes_eq p.firm f then Some p else None

-- a node as a firm may see it
abbrev pub row_seen : List Record → List ℕ → ℕ → Node → Row
row_seen l f depth x = record (row_of l depth x) { place = own_place f (row_of l depth x).place }

-- the parts into which the firm itself split the node
abbrev pub own_parts : List Record → List ℕ → EntryPart → List Node
own_parts l f n = if is_split_by f (split_of l n) then parts_of l n else []

-- a top and what its firm made below it, each one deeper than what it is a part of
abbrev pub rows_seen : ℕ → List Record → List ℕ → ℕ → Node → List Row
rows_seen zero l f depth x = row_seen l f depth x ∷ []
rows_seen (suc levels) l f depth x =
    row_seen l f depth x ∷ flat_map (rows_seen levels l f (depth + 1)) (own_parts l f x.name)

-- a Trade for the firm
abbrev pub is_trade_for : List ℕ → Command → Bool
is_trade_for f (Trade firm _ _ _ _) = bytes_eq firm f
is_trade_for f _ = false

-- the tops of what a firm sees: the roots of its trades, and the parts that it is given
abbrev pub tops_of : List ℕ → Record → List Node
tops_of f r =
    filter (λ (x : Node). is_trade_for f r.command || is_taker f x.kind)
    (nodes_of r.number r.firm r.command)

-- the rows of the live trades, or of what a firm sees of them
abbrev pub node_lines : List Record → Whose → List Row
node_lines l None = flat_map (λ (r : Record). rows_of l r.number) l
node_lines l (Some f) =
    flat_map (λ (r : Record). flat_map (rows_seen (length l) l f 0) (tops_of f r)) l

-- ---- what waits

-- what the claim of so many lots costs under the terms of two firms
abbrev pub cost_of : House → List Record → List ℕ → List ℕ → ℕ → Option Charge
cost_of t l giver taker lots =
    option_map
    (λ (a : Agreement). record { giver = giver; taker = taker; lots = lots; rate = a.rate })
    (terms_of t l giver taker)

-- what the claim of an offer would cost, and why it would be refused, into an account of the taker
abbrev pub offer_line : House → List Record → Node → List ℕ → List ℕ → OfferLine
offer_line t l x giver taker = record {
  node = x;
  giver = giver;
  taker = taker;
  costs = cost_of t l giver taker x.lots;
  refusal = limit_row (used_of l giver taker + x.lots) (limit_of t l giver taker);
}

-- the giver and the taker of a node, if it is given
abbrev pub pair_of : Kind → Option (List ℕ × List ℕ)
pair_of (Given parent giver taker) = Some (giver, taker)
pair_of _ = None

-- the taker of a node sees the account of its Claim
abbrev pub takes : Whose → Option (List ℕ × List ℕ) → Bool
takes whose None = is_none whose
takes whose (Some pair) = is_of whose (pair.1 ∷ [])

-- so of a command
abbrev pub shows_account : Whose → List Entry → Command → Bool
shows_account whose h (Claim n account) =
    takes whose (option_and_then (λ (x : Node). pair_of x.kind) (node_of (records h) n))
shows_account whose h _ = false

-- its giver and its taker see an offer
abbrev pub offer_by : House → List Record → Whose → Node → Kind → Option OfferLine
offer_by t l whose x (Given parent giver taker) =
    if is_none (decision_of l x.name) && is_of whose (giver ∷ taker ∷ [])
    then Some (offer_line t l x giver taker)
    else None
offer_by t l whose x _ = None

abbrev pub offer_lines : House → List Record → Whose → List OfferLine
offer_lines t l whose = filter_map (λ (x : Node). offer_by t l whose x x.kind) (nodes l)

pub record ReversalLine : Type 0 where
  pub entry : ℕ
  pub consented : List (List ℕ)
  pub lacking : List (List ℕ)
  pub stands : Option ℕ

-- what stands on a change is not told to one firm: it may be between others
abbrev pub stands_for : Whose → Option ℕ → Option ℕ
stands_for None stands = stands
stands_for (Some f) stands = None

abbrev pub reversal_line : House → List Entry → Whose → Record → ReversalLine
reversal_line t h whose r =
    let consents = consents_left h r.number in
    record {
      entry = r.number;
      consented = consents;
      lacking = filter (λ f. not (is_among f consents)) (parties_of t (live h) r.firm r.command);
      stands = stands_for whose (standing_on t (live h) r.number);
    }

-- some firm has consented
abbrev pub is_pending : ReversalLine → Bool
is_pending v = not (length v.consented == 0)

-- ---- entries

-- terms between the firm and another, which concern nobody of whom reports tell
abbrev pub is_terms_of : List ℕ → List ℕ → Command → Bool
is_terms_of f by (Agree giver taker _ _) = bytes_eq by f || bytes_eq giver f || bytes_eq taker f
is_terms_of f by (Raise giver _) = bytes_eq by f || bytes_eq giver f
is_terms_of f by _ = false

-- the same of a record, if it is there
abbrev pub is_terms_in : List ℕ → Option Record → Bool
is_terms_in f None = false
is_terms_in f (Some r) = is_terms_of f r.firm r.command

-- whether a firm's statement has an entry: one that concerns it, one of its terms, a consent to the
-- reversal of such a one
abbrev pub involves : List ℕ → List Entry → List ℕ → List ℕ → Command → Bool
involves house h f by (Initiate n) =
    concerns house h f by (Initiate n) || is_terms_in f (entry_of h n)
involves house h f by (Decline n) =
    concerns house h f by (Decline n) || is_terms_in f (entry_of h n)
involves house h f by (Reverse n) =
    concerns house h f by (Reverse n) || is_terms_in f (entry_of h n)
involves house h f by change = concerns house h f by change || is_terms_of f by change

pub record EntryLine : Type 0 where
  pub entry : Seen
  pub id : Option (List ℕ)
  pub reversed_by : Option ℕ

-- the id of a firm's own command, and of a Trade for it
abbrev pub id_seen : List ℕ → Record → Option (List ℕ)
id_seen f r = if bytes_eq r.firm f || is_trade_for f r.command then Some r.id else None

abbrev pub entry_line : List Entry → List ℕ → Record → EntryLine
entry_line h f r = record {
  entry = cut h f r;
  id = id_seen f r;
  reversed_by = option_map (λ (v : Record). v.number) (reversal_of h r.number);
}

-- what a firm's statement says of entries, which is also what two histories have to agree in
abbrev pub entry_lines : House → List Entry → List ℕ → List EntryLine
entry_lines t h f =
    map (entry_line h f) (filter (λ (r : Record). involves t.house h f r.firm r.command)
    (records h))

abbrev pub reversal_lines : House → List Entry → Whose → List ReversalLine
reversal_lines t h None =
    filter is_pending (map (reversal_line t h None)
    (filter (λ (r : Record). is_change r.command) (records h)))
reversal_lines t h (Some f) =
    filter is_pending
    (map (reversal_line t h (Some f))
    (filter (λ (r : Record). is_change r.command && involves t.house h f r.firm r.command)
    (records h)))

-- ---- a firm's statement, and the law

pub record StatementOf : Type 0 where
  pub entries : List EntryLine
  pub rows : List Row
  pub positions : List PositionLine
  pub balances : List BalanceLine
  pub hops : List HopLine
  pub agreements : List AgreementLine
  pub offers : List OfferLine
  pub reversals : List ReversalLine

abbrev pub statement_of : House → List Entry → List ℕ → StatementOf
statement_of t h f = record {
  entries = entry_lines t h f;
  rows = node_lines (live h) (Some f);
  positions = position_lines t (live h) (Some f);
  balances = balance_lines t (live h) (Some f);
  hops = hop_lines t (live h) (Some f);
  agreements = agreement_lines t (live h) (Some f);
  offers = offer_lines t (live h) (Some f);
  reversals = reversal_lines t h (Some f);
}

-- two histories of which the firm may see the same
abbrev pub LookAlike : House → List ℕ → List Entry → List Entry → Type 0
LookAlike t f h g = entry_lines t h f ≡ entry_lines t g f

-- the law of the statement: what a firm may see of two runs gives it the same statement
abbrev pub IsPrivate : House → Type 0
IsPrivate t =
    (f : List ℕ) (h g : List Entry) → IsRunFrom t [] h → IsRunFrom t [] g → LookAlike t f h g
    → statement_of t h f ≡ statement_of t g f
