-- The text of a trade's tree.
use Rattle.std.specs.Prelude.{ℕ, zero, suc, ◌*◌, List, [], ◌∷◌, ◌++◌, codes, decimal, flat_map}
use Rattle.std.specs.Prelude.{Option, Some, None, option_map, unwrap_or}
use Rattle.gu_base.specs.Numbers.{EntryPart}
use Rattle.gu_base.specs.House.{House}
use Rattle.gu_base.specs.History.{live}
use Rattle.gu_base.specs.Answers.{entry_of}
use Rattle.gu_base.specs.Terms.{terms_of}
use Rattle.gu_base.specs.Rows.{Row, rows_of}
use Rattle.gu_base.specs.declared.entry.Entry.{Entry}
use Rattle.gu_base.specs.declared.node.Place.{Place}
use Rattle.gu_base.specs.declared.state.State.{State}
use Rattle.gu_base.specs.declared.state.State.TheVariants.{Held, Offered, Claimed, Refused}
use Rattle.gu_base.specs.declared.state.State.TheVariants.{Cancelled, ReversalPending, Reversed}

-- two spaces for each level of depth
abbrev pub indent : ℕ → List ℕ
indent zero = []
indent (suc n) = codes "  " ++ indent n

-- `entry.part`
abbrev pub name_text : EntryPart → List ℕ
name_text n = decimal n.entry ++ codes "." ++ decimal n.part

-- `name lots `
abbrev pub node_words : EntryPart → ℕ → List ℕ
node_words n lots = name_text n ++ codes " " ++ decimal lots ++ codes " "

-- `firm/account `, where the node stands
abbrev pub place_words : Option Place → List ℕ
place_words None = []
place_words (Some p) = p.firm ++ codes "/" ++ p.account ++ codes " "

-- the firm that gave a part up, which is the one that made the Split
abbrev pub giver_of : List Entry → EntryPart → Option (List ℕ)
giver_of h n = option_map (λ r. r.firm) (entry_of h n.entry)

-- what the claim of these lots costs, in hundredths, by the live terms of the giver and the taker
abbrev pub fee_of : House → List Entry → ℕ → List ℕ → List ℕ → ℕ
fee_of t h lots giver taker =
    lots * unwrap_or (option_map (λ a. a.rate) (terms_of t (live h) giver taker)) 0

-- `claimed from GIVER fee `
abbrev pub giver_words : List ℕ → List ℕ
giver_words giver = codes "claimed from " ++ giver ++ codes " fee "

-- `claimed from GIVER fee F`
abbrev pub fee_words : List ℕ → ℕ → List ℕ
fee_words giver fee = giver_words giver ++ decimal fee

-- the same, where giver and taker are known
abbrev pub claimed_words : House → List Entry → ℕ → Option (List ℕ) → Option (List ℕ) → List ℕ
claimed_words t h lots (Some giver) (Some taker) = fee_words giver (fee_of t h lots giver taker)
claimed_words t h lots _ _ = []

-- the words for a state, with the giver and the taker of a given part
abbrev pub words_for : House → List Entry → ℕ → Option (List ℕ) → Option (List ℕ) → State → List ℕ
words_for t h lots giver taker Held = codes "held"
words_for t h lots giver taker Offered = codes "offered to " ++ unwrap_or taker []
words_for t h lots giver taker Claimed = claimed_words t h lots giver taker
words_for t h lots giver taker Refused = codes "refused by " ++ unwrap_or taker []
words_for t h lots giver taker Cancelled = codes "cancelled for " ++ unwrap_or taker []
words_for t h lots giver taker ReversalPending = []
words_for t h lots giver taker Reversed = []

-- `name lots firm/account words`, with LF
abbrev pub line_of : House → List Entry → Row → List ℕ
line_of t h r =
    indent r.depth
    ++ (node_words r.name r.lots
    ++ (place_words r.place
    ++ (words_for t h r.lots (giver_of h r.name) r.taker r.state ++ 10 ∷ [])))

-- a line for each row of the tree of a live trade
abbrev pub trace_text : House → List Entry → ℕ → List ℕ
trace_text t h trade = flat_map (line_of t h) (rows_of (live h) trade)
