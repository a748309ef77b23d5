-- The body of an AllocationReport (AS).
use Rattle.std.specs.Prelude.{ℕ, ◌≤◌, List, [], ◌∷◌, ◌++◌, length, take, codes, decimal, Option}
use Rattle.std.specs.Prelude.{Some, None}
use Rattle.std.specs.List.{flat_map}
use Rattle.gu_base.specs.Numbers.{EntryPart}
use Rattle.gu_base.specs.Limits.{most_parts}
use Rattle.gu_base.specs.declared.command.Side.{Side}
use Rattle.gu_base.specs.declared.command.Side.TheVariants.{Buy, Sell}
use Rattle.gu_base.specs.declared.report.Target.{Target}
use Rattle.gu_base.specs.declared.report.Target.TheVariants.{Node, Entry}
use Rattle.gu_base.specs.declared.report.ReportPart.{ReportPart}
use Rattle.gu_base.specs.declared.report.Report.{Report}
use Rattle.gu_life.specs.Status.{code_of}
use Rattle.gu_codec.specs.Messages.{Message}
use Rattle.gu_codec.specs.Tags as tag

-- `entry.part`
abbrev pub node_text : EntryPart → List ℕ
node_text n = decimal n.entry ++ codes "." ++ decimal n.part

-- what an entry speaks of: a node, or an entry
abbrev pub target_text : Target → List ℕ
target_text (Node name) = node_text name
target_text (Entry number) = decimal number

-- `1` buys, `2` sells
abbrev pub side_text : Side → List ℕ
side_text Buy = codes "1"
side_text Sell = codes "2"

-- AllocAccount (79): the account of an own part or of a claim; the node of a given part
abbrev pub account_text : EntryPart → Option (List ℕ) → List ℕ
account_text name None = node_text name
account_text name (Some account) = account

-- of each part: AllocAccount (79), AllocQty (80), NoNestedPartyIDs (539) `1`, NestedPartyID (524)
-- the firm that gets it, NestedPartyIDSource (525) `D`, NestedPartyRole (538) `4`
abbrev pub part_fields : ReportPart → Message
part_fields p =
    (tag.alloc_account, account_text p.name p.account) ∷ (tag.alloc_qty, decimal p.lots)
    ∷ (tag.no_nested_party_ids, codes "1") ∷ (tag.nested_party_id, p.firm)
    ∷ (tag.nested_party_id_source, codes "D") ∷ (tag.nested_party_role, codes "4") ∷ []

-- NoAllocs (78) and the parts, where parts are shown
abbrev pub shown_parts : List ReportPart → Message
shown_parts [] = []
shown_parts (p ∷ ps) = (tag.no_allocs, decimal (length (p ∷ ps))) ∷ flat_map part_fields (p ∷ ps)

-- AllocReportID (755), AllocTransType (71), AllocReportType (794), AllocStatus (87), RefAllocID
-- (72), Symbol (55), Side (54), Quantity (53), TradeDate (75)
abbrev pub entry_fields : List ℕ → Report → Message
entry_fields date r =
    (tag.alloc_report_id, decimal r.number) ∷ (tag.alloc_trans_type, decimal r.trans)
    ∷ (tag.alloc_report_type, decimal r.kind) ∷ (tag.alloc_status, decimal (code_of r.status))
    ∷ (tag.ref_alloc_id, target_text r.target) ∷ (tag.symbol, r.instrument)
    ∷ (tag.side, side_text r.side) ∷ (tag.quantity, decimal r.lots) ∷ (tag.trade_date, date) ∷ []

-- the date of a time: its first eight bytes
abbrev pub date_in : List ℕ → List ℕ
date_in time = take 8 time

-- the report of an entry on this date, `YYYYMMDD`
abbrev pub report_fields : List ℕ → Report → Message
report_fields date r = entry_fields date r ++ shown_parts r.parts

-- at most 100 parts are shown
abbrev pub ShowsFewParts : Report → Type 0
ShowsFewParts r = length r.parts ≤ most_parts
