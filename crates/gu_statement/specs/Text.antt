-- The text of the lines of a statement: each the compact text of an object and LF. The members
-- stand in the order of their names, so that what is read back is the object itself.
use Rattle.std.specs.Prelude.{ℕ, ◌*◌, List, [], ◌∷◌, ◌++◌, codes, Option, Some, None, option_map}
use Rattle.serde_json.specs.Data.{number, unsigned, string, object, Members}
use Rattle.serde_json.specs.Data.{no_members, member}
use Rattle.serde_json.specs.Written.{compact_text}
use Rattle.gu_base.specs.Numbers.{EntryPart}
use Rattle.gu_statement.specs.Going.{node_words}
use Rattle.gu_statement.specs.declared.lines.AgreementLine.{AgreementLine}
use Rattle.gu_statement.specs.declared.lines.BalanceLine.{BalanceLine}
use Rattle.gu_statement.specs.declared.lines.HopLine.{HopLine}
use Rattle.gu_statement.specs.declared.lines.PositionLine.{PositionLine}

-- a member that is a text, a number, or the name of a node, before others
abbrev pub says : List ℕ → List ℕ → Members → Members
says name text others = member name (string text) others

abbrev pub counts : List ℕ → ℕ → Members → Members
counts name n others = member name (number (unsigned n)) others

abbrev pub names : List ℕ → EntryPart → Members → Members
names name n others = says name (node_words n) others

-- the same, where there is one
abbrev pub says_if : List ℕ → Option (List ℕ) → Members → Members
says_if name None others = others
says_if name (Some text) others = says name text others

abbrev pub counts_if : List ℕ → Option ℕ → Members → Members
counts_if name None others = others
counts_if name (Some n) others = counts name n others

abbrev pub names_if : List ℕ → Option EntryPart → Members → Members
names_if name None others = others
names_if name (Some n) others = names name n others

-- a line with these members
abbrev pub line_with : Members → List ℕ
line_with ms = compact_text (object ms) ++ 10 ∷ []

-- the lots that stand in an account
abbrev pub position_said : PositionLine → Members
position_said p =
    says (codes "account") p.at.name
    (says (codes "firm") p.at.firm
    (says (codes "instrument") p.instrument
    (says (codes "kind") (codes "position")
    (counts (codes "long") p.long
    (counts (codes "short") p.short no_members)))))

-- what a firm pays and receives
abbrev pub balance_said : BalanceLine → Members
balance_said b =
    says (codes "firm") b.firm
    (says (codes "kind") (codes "balance")
    (counts (codes "paid") b.paid
    (counts (codes "received") b.received no_members)))

-- what a live Claim costs
abbrev pub hop_said : HopLine → Members
hop_said h =
    counts (codes "entry") h.entry
    (counts (codes "fee") (h.charge.lots * h.charge.rate)
    (says (codes "giver") h.charge.giver
    (says (codes "kind") (codes "hop")
    (counts (codes "lots") h.charge.lots
    (names (codes "node") h.node
    (counts (codes "rate") h.charge.rate
    (says (codes "taker") h.charge.taker no_members)))))))

-- the terms of two firms
abbrev pub agreement_said : AgreementLine → Members
agreement_said a =
    counts (codes "entry") a.entry
    (says (codes "giver") a.giver
    (says (codes "kind") (codes "agreement")
    (counts (codes "limit") a.limit
    (counts (codes "rate") a.rate
    (says (codes "taker") a.taker
    (counts (codes "used") a.used no_members))))))
