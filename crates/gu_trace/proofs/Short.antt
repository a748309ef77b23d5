-- No report shows more parts than a Split may have.
use Rattle.std.proofs.Common.{ℕ, zero, suc, ◌+◌, ◌≤◌, ◌&&◌, Bool, true, false, List, [], ◌∷◌, arith, Option, cond}
use Rattle.std.proofs.Common.{length, take}
use Rattle.std.specs.Prelude.{Some, None, filter, nat_lt, option_map, option_and_then, IfSome}
use Rattle.std.specs.List.{All, filter_map, cons_option}
use Rattle.std.proofs.lemmas.List.Elements.{All-nil, All-cons, All-head, All-tail, All-filter}
use Rattle.gu_base.specs.Numbers.{EntryPart}
use Rattle.gu_base.specs.History.{numbered_as, numbered_from, records}
use Rattle.gu_base.specs.Nodes.{node_of}
use Rattle.gu_base.specs.Refusals.{is_taker}
use Rattle.gu_base.specs.Answers.{entry_of}
use Rattle.gu_base.specs.Limits.{most_parts}
use Rattle.gu_base.specs.declared.entry.Entry.{Entry}
use Rattle.gu_base.specs.declared.entry.Record.{Record}
use Rattle.gu_base.specs.declared.node.Node.{Node}
use Rattle.gu_base.specs.declared.command.Command.{Command}
use Rattle.gu_base.specs.declared.command.Command.TheVariants.{Trade, Split, Claim, Refuse, Cancel, Agree, Raise}
use Rattle.gu_base.specs.declared.command.Command.TheVariants.{Initiate, Decline, Reverse}
use Rattle.gu_base.specs.declared.report.Report.{Report}
use Rattle.gu_base.specs.declared.report.ReportPart.{ReportPart}
use Rattle.gu_base.specs.declared.report.Target.{Target}
use Rattle.gu_book.specs.Limits.{IsWithinLimits}
use Rattle.gu_base.specs.declared.node.Deal.{Deal}
use Rattle.gu_trace.specs.Deals.{deal_of}
use Rattle.gu_trace.specs.Concerns.{concerns}
use Rattle.gu_trace.specs.Reports.{report_with, parts_shown, claimed_part, no_part, change_report, report_of}
use Rattle.gu_trace.specs.Reports.{reports_for}
use Rattle.gu_trace.proofs.Shown.{shown_few}

-- it shows few parts
abbrev pub IsShort : Report → Type 0
IsShort r = length r.parts ≤ most_parts

-- ---- one report

by_deal : (r : Record) (kind trans : ℕ) (target : Target) (lots : ℕ) (parts : List ReportPart) (d : Option Deal)
    → length parts ≤ most_parts → IfSome (option_map (report_with r kind trans target lots parts) d) IsShort
by_deal r kind trans target lots parts None few = tt
by_deal r kind trans target lots parts (Some d) few = few

by_node : (h : List Entry) (r : Record) (kind trans : ℕ) (n : EntryPart) (target : Target)
    (shown : Node → List ReportPart) (o : Option Node) → ((x : Node) → length (shown x) ≤ most_parts)
    → IfSome (option_and_then (λ x. option_map (report_with r kind trans target x.lots (shown x)) (deal_of h n)) o)
    IsShort
by_node h r kind trans n target shown None few = tt
by_node h r kind trans n target shown (Some x) few = by_deal r kind trans target x.lots (shown x) (deal_of h n) (few x)

-- what a claim shows
one_at_most : (b : Bool) (p : ReportPart) → length (cond b (p ∷ []) []) ≤ most_parts
one_at_most true p = omega arith
one_at_most false p = omega arith

claim_few : (f account : List ℕ) (x : Node) → length (claimed_part f account x) ≤ most_parts
claim_few f account x =
    one_at_most (is_taker f x.kind) (record { name = x.name; lots = x.lots; firm = f; account = Some account })

by_change : (r : Record) (kind trans : ℕ) (target : Target) (o : Option Report)
    → IfSome (option_map
    (λ c. report_with r kind trans target c.lots [] (record { instrument = c.instrument; side = c.side })) o)
    IsShort
by_change r kind trans target None = tt
by_change r kind trans target (Some c) = omega arith

-- the report of a change, and of any entry
change_short : (h : List Entry) (f : List ℕ) (r : Record) (c : Command) → IsWithinLimits c
    → IfSome (change_report h f r c) IsShort
change_short h f r (Trade _ _ instrument side lots) within = omega arith
change_short h f r (Split n parts) within = let few = shown_few f r.number r.firm parts in let most = within.few in
    by_deal r _ 0 _ _ (parts_shown f r.number r.firm parts) (deal_of h n) (omega (arith, few, most))
change_short h f r (Claim n account) within =
    by_node h r 16 0 n _ (claimed_part f account) (node_of (records h) n) (claim_few f account)
change_short h f r (Refuse n) within = by_node h r 10 0 n _ no_part (node_of (records h) n) (λ x. omega arith)
change_short h f r (Cancel n) within = by_node h r 10 2 n _ no_part (node_of (records h) n) (λ x. omega arith)
change_short h f r (Agree _ _ _ _) within = tt
change_short h f r (Raise _ _) within = tt
change_short h f r (Initiate _) within = tt
change_short h f r (Decline _) within = tt
change_short h f r (Reverse _) within = tt

report_short : (h : List Entry) (f : List ℕ) (r : Record) (c : Command) → IsWithinLimits c
    → IfSome (report_of h f r c) IsShort
report_short h f r (Trade a b i s l) within = change_short h f r (Trade a b i s l) within
report_short h f r (Split n parts) within = change_short h f r (Split n parts) within
report_short h f r (Claim n account) within = change_short h f r (Claim n account) within
report_short h f r (Refuse n) within = change_short h f r (Refuse n) within
report_short h f r (Cancel n) within = change_short h f r (Cancel n) within
report_short h f r (Agree g k x l) within = change_short h f r (Agree g k x l) within
report_short h f r (Raise g n) within = change_short h f r (Raise g n) within
report_short h f r (Initiate n) within =
    by_change r 14 6 _ (option_and_then (λ e. change_report h f e e.command) (entry_of h n))
report_short h f r (Decline n) within =
    by_change r 10 6 _ (option_and_then (λ e. change_report h f e e.command) (entry_of h n))
report_short h f r (Reverse n) within =
    by_change r 17 6 _ (option_and_then (λ e. change_report h f e e.command) (entry_of h n))

-- ---- all reports of a reading

with_one : (o : Option Report) (rs : List Report) → IfSome o IsShort → All IsShort rs → All IsShort (cons_option o rs)
with_one None rs short all = all
with_one (Some r) rs short all = All-cons IsShort r rs short all

all_told : (h : List Entry) (f : List ℕ) (rs : List Record) → All (λ r. IsWithinLimits r.command) rs
    → All IsShort (filter_map (λ r. report_of h f r r.command) rs)
all_told h f [] within = All-nil IsShort
all_told h f (r ∷ rs) within =
    with_one (report_of h f r r.command) (filter_map (λ q. report_of h f q q.command) rs)
    (report_short h f r r.command (All-head (λ q. IsWithinLimits q.command) r rs within))
    (all_told h f rs (All-tail (λ q. IsWithinLimits q.command) r rs within))

numbered_within : (k : ℕ) (h : List Entry) → All (λ e. IsWithinLimits e.command) h
    → All (λ r. IsWithinLimits r.command) (numbered_from k h)
numbered_within k [] within = All-nil (λ r. IsWithinLimits r.command)
numbered_within k (e ∷ es) within =
    All-cons (λ r. IsWithinLimits r.command) (numbered_as k e) (numbered_from (k + 1) es)
    (All-head (λ q. IsWithinLimits q.command) e es within)
    (numbered_within (k + 1) es (All-tail (λ q. IsWithinLimits q.command) e es within))

-- of the first records alone
first_of_them : (n : ℕ) (rs : List Record) → All (λ r. IsWithinLimits r.command) rs
    → All (λ r. IsWithinLimits r.command) (take n rs)
first_of_them zero rs all = All-nil (λ r. IsWithinLimits r.command)
first_of_them (suc n) [] all = All-nil (λ r. IsWithinLimits r.command)
first_of_them (suc n) (r ∷ rs) all =
    All-cons (λ r. IsWithinLimits r.command) r (take n rs) (All-head (λ q. IsWithinLimits q.command) r rs all)
    (first_of_them n rs (All-tail (λ q. IsWithinLimits q.command) r rs all))

-- each report of a reading is short, where the entries are within the limits
pub reports_short : (house : List ℕ) (h : List Entry) (f : List ℕ) (after : ℕ) → All (λ e. IsWithinLimits e.command) h
    → All IsShort (reports_for house h f after)
reports_short house h f after within =
    let firsts = filter (λ r. nat_lt after r.number && concerns house h f r.firm r.command) (records h) in
    all_told h f (take 100 firsts)
    (first_of_them 100 firsts
    (All-filter (λ r. nat_lt after r.number && concerns house h f r.firm r.command) (λ r. IsWithinLimits r.command)
    (records h) (numbered_within 1 h within)))
