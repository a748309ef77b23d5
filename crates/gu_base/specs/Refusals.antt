-- Why a change is refused over a list of changes: each command's row of the table, in order.
use Rattle.std.specs.Prelude.{ℕ, ◌+◌, Bool, false, not, ◌&&◌, ◌||◌, ◌==◌, nat_le, nat_lt}
use Rattle.std.specs.Prelude.{if◌then◌else◌, List, [], ◌∷◌, map, length, sum_by, Option, Some, None}
use Rattle.std.specs.Prelude.{is_none, option_map, unwrap_or, bytes_eq}
use Rattle.gu_base.specs.Limits.{most_parts, deepest, highest_limit}
use Rattle.gu_base.specs.Numbers.{EntryPart, is_lots, are_terms}
use Rattle.gu_base.specs.House.{House, knows_firm, knows_account, knows_instrument}
use Rattle.gu_base.specs.Nodes.{node_of, split_of, is_offered}
use Rattle.gu_base.specs.Places.{owner_of, depth_of}
use Rattle.gu_base.specs.Terms.{terms_of, limit_of, used_of}
use Rattle.gu_base.specs.declared.entry.Record.{Record}
use Rattle.gu_base.specs.declared.node.Kind.{Kind}
use Rattle.gu_base.specs.declared.node.Kind.TheVariants.{Given}
use Rattle.gu_base.specs.declared.node.Node.{Node}
use Rattle.gu_base.specs.declared.command.Part.{Part}
use Rattle.gu_base.specs.declared.command.Command.{Command}
use Rattle.gu_base.specs.declared.command.Command.TheVariants.{Trade, Split, Claim, Refuse, Cancel}
use Rattle.gu_base.specs.declared.command.Command.TheVariants.{Agree, Raise, Initiate, Decline}
use Rattle.gu_base.specs.declared.command.Command.TheVariants.{Reverse}
use Rattle.gu_base.specs.declared.refusal.Refusal.{Refusal}
use Rattle.gu_base.specs.declared.refusal.Refusal.TheVariants.{UnknownFirm, UnknownAccount}
use Rattle.gu_base.specs.declared.refusal.Refusal.TheVariants.{UnknownInstrument, UnknownNode}
use Rattle.gu_base.specs.declared.refusal.Refusal.TheVariants.{NotYours, AlreadySplit, StillOffered}
use Rattle.gu_base.specs.declared.refusal.Refusal.TheVariants.{NotOffered, BadLots, SumDiffers}
use Rattle.gu_base.specs.declared.refusal.Refusal.TheVariants.{BadPartCount, NoAgreement}
use Rattle.gu_base.specs.declared.refusal.Refusal.TheVariants.{LimitExceeded, TooDeep, HouseOnly}
use Rattle.gu_base.specs.declared.refusal.Refusal.TheVariants.{OwnAgreement, BadTerms}
use Rattle.gu_base.specs.declared.refusal.Refusal.TheVariants.{AgreementExists}

-- the refusal, unless the test holds
abbrev pub unless : Bool → Refusal → Option Refusal
unless holds r = if holds then None else Some r

-- the first refusal of a table's row
abbrev pub first : List (Option Refusal) → Option Refusal
first [] = None
first (None ∷ rest) = first rest
first (Some r ∷ rest) = Some r

-- the row of a node that must be there
abbrev pub at_node : (Node → Option Refusal) → Option Node → Option Refusal
at_node row None = Some UnknownNode
at_node row (Some x) = row x

-- whether the firm is the node's owner
abbrev pub owns : List Record → List ℕ → EntryPart → Bool
owns l firm n = unwrap_or (option_map (λ owner. bytes_eq owner firm) (owner_of l n)) false

-- the firm gives the part up
abbrev pub is_giver : List ℕ → Kind → Bool
is_giver firm (Given _ giver _) = bytes_eq giver firm
is_giver firm _ = false

-- the firm is to take the part
abbrev pub is_taker : List ℕ → Kind → Bool
is_taker firm (Given _ _ taker) = bytes_eq taker firm
is_taker firm _ = false

-- an own part names an account of its firm; the account of a part for another firm is ignored
abbrev pub knows_own_account : House → List ℕ → Part → Bool
knows_own_account t by p =
    not (bytes_eq p.firm by) || unwrap_or (option_map (knows_account t by) p.account) false

-- one part of a Split
abbrev pub refusal_of_part : House → List ℕ → Part → Option Refusal
refusal_of_part t by p = first (
    unless (knows_firm t p.firm) UnknownFirm
    ∷ unless (knows_own_account t by p) UnknownAccount
    ∷ unless (is_lots p.lots) BadLots ∷ [])

-- a Trade
abbrev pub trade_row : House → List ℕ → (firm account instrument : List ℕ) → ℕ → Option Refusal
trade_row t by firm account instrument lots = first (
    unless (bytes_eq by t.house) HouseOnly
    ∷ unless (knows_firm t firm) UnknownFirm
    ∷ unless (knows_account t firm account) UnknownAccount
    ∷ unless (knows_instrument t instrument) UnknownInstrument
    ∷ unless (is_lots lots) BadLots ∷ [])

-- a Split of this node
abbrev pub split_row : House → List Record → List ℕ → List Part → Node → Option Refusal
split_row t l by parts x = first (
    unless (owns l by x.name) NotYours
    ∷ option_map (λ r. AlreadySplit r.number) (split_of l x.name)
    ∷ unless (not (is_offered l x)) StillOffered
    ∷ unless (nat_le 1 (length parts) && nat_le (length parts) most_parts) BadPartCount
    ∷ unless (nat_lt (depth_of l x.name) deepest) TooDeep
    ∷ first (map (refusal_of_part t by) parts)
    ∷ unless (sum_by (λ p. p.lots) parts == x.lots) SumDiffers ∷ [])

-- the refusal of a use of a limit, for these lots with those already used
abbrev pub limit_row : ℕ → Option ℕ → Option Refusal
limit_row lots None = Some NoAgreement
limit_row lots (Some limit) = unless (nat_le lots limit) LimitExceeded

-- the limit of a given part's giver and taker
abbrev pub limit_by : House → List Record → Kind → Option ℕ
limit_by t l (Given _ giver taker) = limit_of t l giver taker
limit_by t l _ = None

-- the lots that the two firms of a given part use
abbrev pub used_by : List Record → Kind → ℕ
used_by l (Given _ giver taker) = used_of l giver taker
used_by l _ = 0

-- a Claim of this node
abbrev pub claim_row : House → List Record → List ℕ → List ℕ → Node → Option Refusal
claim_row t l by account x = first (
    unless (is_offered l x) NotOffered
    ∷ unless (is_taker by x.kind) NotYours
    ∷ unless (knows_account t by account) UnknownAccount
    ∷ limit_row (used_by l x.kind + x.lots) (limit_by t l x.kind) ∷ [])

-- a Refuse of this node
abbrev pub refuse_row : List Record → List ℕ → Node → Option Refusal
refuse_row l by x =
    first (unless (is_offered l x) NotOffered ∷ unless (is_taker by x.kind) NotYours ∷ [])

-- a Cancel of this node
abbrev pub cancel_row : List Record → List ℕ → Node → Option Refusal
cancel_row l by x =
    first (unless (is_offered l x) NotOffered ∷ unless (is_giver by x.kind) NotYours ∷ [])

-- terms are made once
abbrev pub agree_row : House → List Record → List ℕ → (giver taker : List ℕ) → ℕ → ℕ
    → Option Refusal
agree_row t l by giver taker rate limit = first (
    unless (bytes_eq by t.house) HouseOnly
    ∷ unless (knows_firm t giver) UnknownFirm
    ∷ unless (knows_firm t taker) UnknownFirm
    ∷ unless (not (bytes_eq giver taker)) OwnAgreement
    ∷ unless (are_terms rate limit) BadTerms
    ∷ unless (is_none (terms_of t l giver taker)) AgreementExists ∷ [])

-- the refusal of a raise of a limit
abbrev pub raised_row : ℕ → Option ℕ → Option Refusal
raised_row lots None = Some NoAgreement
raised_row lots (Some limit) =
    unless (nat_le 1 lots && nat_le (limit + lots) highest_limit) BadTerms

-- a Raise
abbrev pub raise_row : House → List Record → List ℕ → List ℕ → ℕ → Option Refusal
raise_row t l by giver lots =
    first (unless (knows_firm t giver) UnknownFirm ∷ raised_row lots (limit_of t l giver by) ∷ [])

-- the row of each change; Initiate, Decline and Reverse have theirs over the history
abbrev pub row : House → List Record → List ℕ → Command → Option Refusal
row t l by (Trade firm account instrument side lots) = trade_row t by firm account instrument lots
row t l by (Split n parts) = at_node (split_row t l by parts) (node_of l n)
row t l by (Claim n account) = at_node (claim_row t l by account) (node_of l n)
row t l by (Refuse n) = at_node (refuse_row l by) (node_of l n)
row t l by (Cancel n) = at_node (cancel_row l by) (node_of l n)
row t l by (Agree giver taker rate limit) = agree_row t l by giver taker rate limit
row t l by (Raise giver lots) = raise_row t l by giver lots
row t l by (Initiate _) = None
row t l by (Decline _) = None
row t l by (Reverse _) = None

-- why a change is refused, if it is: the calling firm has to be in the house table, then the
-- command's row decides
abbrev pub refusal_of : House → List Record → List ℕ → Command → Option Refusal
refusal_of t l by command = first (unless (knows_firm t by) UnknownFirm ∷ row t l by command ∷ [])
