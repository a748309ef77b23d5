-- The members of the lines of nodes, entries, calls that came to nothing, offers, reversals, and of
-- the control line.
use Rattle.std.specs.Prelude.{ℕ, ◌+◌, ◌*◌, ◌==◌, ◌&&◌, ◌||◌, not, Bool, true, if◌then◌else◌, List}
use Rattle.std.specs.Prelude.{[]}
use Rattle.std.specs.Prelude.{◌∷◌, length, codes, bytes_eq, Option, Some, None, option_map}
use Rattle.std.specs.Str.Lossy.{utf8_valid_len}
use Rattle.serde_json.specs.Data.{boolean, string, array, object, Items, no_items, item, Members}
use Rattle.serde_json.specs.Data.{no_members, member}
use Rattle.gu_base.specs.Texts.{refusal_text}
use Rattle.gu_base.specs.Texts.{number_of}
use Rattle.gu_base.specs.declared.command.Command.{Command}
use Rattle.gu_base.specs.declared.command.Command.TheVariants.{Split}
use Rattle.gu_base.specs.declared.command.Part.{Part}
use Rattle.gu_base.specs.declared.node.Charge.{Charge}
use Rattle.gu_base.specs.declared.node.Deal.{Deal}
use Rattle.gu_base.specs.declared.node.Kind.{Kind}
use Rattle.gu_base.specs.declared.node.Kind.TheVariants.{Given}
use Rattle.gu_base.specs.declared.node.Place.{Place}
use Rattle.gu_statement.specs.Asked.{account_of, change_of, giver_of, taker_of, limit_of, rate_of}
use Rattle.gu_statement.specs.Asked.{lots_of, node_of, owner_of}
use Rattle.gu_statement.specs.Text.{says, counts, names, says_if, counts_if, names_if}
use Rattle.gu_statement.specs.Words.{command_word, state_word, side_word}
use Rattle.gu_statement.specs.declared.heard.Cause.{Cause}
use Rattle.gu_statement.specs.declared.heard.Cause.TheVariants.{Refused, Rejected}
use Rattle.gu_statement.specs.declared.lines.Control.{Control}
use Rattle.gu_statement.specs.declared.lines.EntryLine.{EntryLine}
use Rattle.gu_statement.specs.declared.lines.NodeLine.{NodeLine}
use Rattle.gu_statement.specs.declared.lines.OfferLine.{OfferLine}
use Rattle.gu_statement.specs.declared.lines.RefusedLine.{RefusedLine}
use Rattle.gu_statement.specs.declared.lines.ReversalLine.{ReversalLine}

-- what a claim costs
abbrev pub fee_of : Charge → ℕ
fee_of c = c.lots * c.rate

-- a time, if it is a text and has a byte
abbrev pub time_in : List ℕ → Option (List ℕ)
time_in time =
    if (utf8_valid_len time == length time) && not (length time == 0) then Some time else None

-- ---- nodes

abbrev pub node_front : NodeLine → Members → Members
node_front x others =
    says_if (codes "account") (option_map (λ (p : Place). p.account) x.place)
    (counts_if (codes "decision") x.decision
    (counts (codes "depth") x.depth
    (counts_if (codes "fee") (option_map fee_of x.charge) others)))

abbrev pub node_firms : NodeLine → Members → Members
node_firms x others =
    says_if (codes "firm") (option_map (λ (p : Place). p.firm) x.place)
    (says_if (codes "giver") (option_map (λ (p : List ℕ × List ℕ). p.0) x.pair)
    (says_if (codes "instrument") (option_map (λ (d : Deal). d.instrument) x.deal) others))

abbrev pub node_names : NodeLine → Members → Members
node_names x others =
    says (codes "kind") (codes "node")
    (member (codes "leaf") (boolean x.leaf)
    (counts (codes "lots") x.lots
    (names (codes "name") x.name
    (names_if (codes "parent") x.parent others))))

abbrev pub node_back : NodeLine → Members → Members
node_back x others =
    says_if (codes "side") (option_map (λ (d : Deal). side_word d.side) x.deal)
    (says (codes "state") (state_word x.state)
    (says_if (codes "taker") (option_map (λ (p : List ℕ × List ℕ). p.1) x.pair)
    (counts_if (codes "trade") x.trade others)))

-- a node
abbrev pub node_said : NodeLine → Members → Members
node_said x others = node_front x (node_firms x (node_names x (node_back x others)))

-- ---- entries

-- a part of a Split by this firm, with its account where it is an own one
abbrev pub part_account : List ℕ → Part → Option (List ℕ)
part_account by p = if bytes_eq p.firm by then p.account else None

abbrev pub part_said : ℕ → ℕ → List ℕ → Part → Members
part_said entry part by p =
    says_if (codes "account") (part_account by p)
    (says (codes "firm") p.firm
    (counts (codes "lots") p.lots
    (names (codes "name") (record { entry = entry; part = part }) no_members)))

-- whether a part of a Split by the firm `by` is shown: all where no firm asks, to its own firm all,
-- and to another those that it is given
abbrev pub is_part_shown : Option (List ℕ) → List ℕ → Part → Bool
is_part_shown None by p = true
is_part_shown (Some f) by p = bytes_eq by f || bytes_eq p.firm f

-- the parts that are shown, from this number on, before other items
abbrev pub parts_said : Option (List ℕ) → ℕ → ℕ → List ℕ → List Part → Items → Items
parts_said whose entry part by [] others = others
parts_said whose entry part by (p ∷ ps) others =
    if is_part_shown whose by p
    then item (object (part_said entry part by p)) (parts_said whose entry (part + 1) by ps others)
    else parts_said whose entry (part + 1) by ps others

-- the parts of a command of this number and firm
abbrev pub says_parts : Option (List ℕ) → ℕ → List ℕ → Command → Members → Members
says_parts whose entry by (Split n parts) others =
    member (codes "parts") (array (parts_said whose entry 1 by parts no_items)) others
says_parts whose entry by _ others = others

abbrev pub entry_front : EntryLine → Members → Members
entry_front x others =
    says_if (codes "account") (account_of x.shows_account x.command.now)
    (counts_if (codes "change") (change_of x.command.now)
    (says (codes "command") (command_word x.command.now)
    (says (codes "firm") x.firm
    (says_if (codes "giver") (giver_of x.command.now)
    (says_if (codes "id") x.id
    (says_if (codes "instrument") (option_map (λ (d : Deal). d.instrument) x.deal) others))))))

abbrev pub entry_asked : EntryLine → Members → Members
entry_asked x others =
    counts_if (codes "limit") (limit_of x.command.now)
    (counts_if (codes "lots") (lots_of x.command.now)
    (names_if (codes "node") (node_of x.command.now)
    (counts (codes "number") x.number others)))

abbrev pub entry_given : EntryLine → Members → Members
entry_given x others =
    says_if (codes "owner") (owner_of x.command.now)
    (says_parts x.parts_of x.number x.firm x.command.now
    (counts_if (codes "rate") (rate_of x.command.now) others))

abbrev pub entry_back : EntryLine → Members → Members
entry_back x others =
    counts_if (codes "reversed_by") x.reversed_by
    (says_if (codes "side") (option_map (λ (d : Deal). side_word d.side) x.deal)
    (says (codes "status") (state_word x.status)
    (says_if (codes "taker") (taker_of x.command.now)
    (says_if (codes "time") (time_in x.time.now) others))))

-- an entry
abbrev pub entry_said : EntryLine → Members → Members
entry_said x others =
    entry_front x
    (says (codes "kind") (codes "entry") (entry_asked x (entry_given x (entry_back x others))))

-- ---- calls that came to nothing

abbrev pub cause_said : Cause → Members → Members
cause_said (Refused r) others =
    counts (codes "refusal") (number_of r) (says (codes "text") (refusal_text r) others)
cause_said (Rejected r) others =
    counts (codes "reject") r.reason (counts (codes "tag") r.tag others)

-- ---- what waits

abbrev pub offer_front : OfferLine → Members → Members
offer_front x others =
    counts_if (codes "fee") (option_map fee_of x.costs)
    (says (codes "giver") x.giver
    (says (codes "kind") (codes "offer")
    (counts (codes "lots") x.node.lots (names (codes "node") x.node.name others))))

abbrev pub offer_terms : OfferLine → Option (List ℕ) → Members → Members
offer_terms x since others =
    counts_if (codes "rate") (option_map (λ (c : Charge). c.rate) x.costs)
    (says_if (codes "refusal") (option_map refusal_text x.refusal)
    (says_if (codes "since") since (says (codes "taker") x.taker others)))

-- an offer, and since when it waits
abbrev pub offer_said : OfferLine → Option (List ℕ) → Members → Members
offer_said x since others = offer_front x (offer_terms x since others)

-- a list of texts, before other items
abbrev pub texts_said : List (List ℕ) → Items → Items
texts_said [] others = others
texts_said (t ∷ ts) others = item (string t) (texts_said ts others)

abbrev pub says_all : List ℕ → List (List ℕ) → Members → Members
says_all name ts others = member name (array (texts_said ts no_items)) others

-- a change to whose reversal some firm has consented
abbrev pub reversal_said : ReversalLine → Members → Members
reversal_said x others =
    counts (codes "change") x.change
    (says_all (codes "consented") x.consented.now
    (says (codes "kind") (codes "reversal")
    (says_all (codes "lacking") x.lacking.now
    (counts_if (codes "stands") x.stands others))))

-- ---- the control line

abbrev pub control_sums : List ℕ → Control → Members → Members
control_sums house x others =
    counts (codes "hops") x.hops
    (says (codes "house") house
    (says (codes "kind") (codes "book")
    (counts (codes "long") x.long
    (counts (codes "paid") x.paid
    (counts (codes "received") x.received
    (counts_if (codes "refused") x.refused
    (counts (codes "short") x.short (counts (codes "trades") x.trades others))))))))

abbrev pub control_said : List ℕ → Option (List ℕ) → Control → Members → Members
control_said house whose x others =
    counts (codes "entries") x.entries
    (says_if (codes "firm") whose (counts (codes "form") 1 (control_sums house x others)))
