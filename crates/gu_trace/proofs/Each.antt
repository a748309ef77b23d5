-- In a history of a run each entry that concerns a firm is told.
use Rattle.std.proofs.Common.{◌≡◌, ℕ, zero, suc, ◌+◌, Bool, true, false, ◌&&◌, List, [], ◌∷◌, ◌++◌, refl, sym, ◌∙◌, ap}
use Rattle.std.proofs.Common.{subst, Option, cond, take, append_assoc}
use Rattle.std.specs.Prelude.{Some, None, map, filter, nat_lt, sum_by, option_map, option_and_then}
use Rattle.std.specs.List.{All, filter_map, cons_option}
use Rattle.std.proofs.lemmas.List.Elements.{All-nil, All-cons, All-head, All-tail}
use Rattle.gu_base.specs.Numbers.{EntryPart}
use Rattle.gu_base.specs.House.{House}
use Rattle.gu_base.specs.History.{numbered_as, numbered_from, records}
use Rattle.gu_base.specs.Nodes.{node_of}
use Rattle.gu_base.specs.Answers.{entry_of, gives_up}
use Rattle.gu_base.specs.Runs.{IsRunFrom}
use Rattle.gu_base.specs.declared.command.Command.{Command}
use Rattle.gu_base.specs.declared.command.Command.TheVariants.{Trade, Split, Claim, Refuse, Cancel, Agree, Raise}
use Rattle.gu_base.specs.declared.command.Command.TheVariants.{Initiate, Decline, Reverse}
use Rattle.gu_base.specs.declared.entry.Entry.{Entry}
use Rattle.gu_base.specs.declared.entry.Record.{Record}
use Rattle.gu_base.specs.declared.node.Node.{Node}
use Rattle.gu_base.specs.declared.report.Report.{Report}
use Rattle.gu_base.specs.declared.report.ReportPart.{ReportPart}
use Rattle.gu_base.specs.declared.report.Target.{Target}
use Rattle.gu_base.specs.declared.report.Target.TheVariants as targets
use Rattle.gu_tree.specs.Shown.{named_node}
use Rattle.gu_base.specs.declared.node.Deal.{Deal}
use Rattle.gu_trace.specs.Deals.{deal_of}
use Rattle.gu_trace.specs.Concerns.{change_concerns, record_concerns, concerns}
use Rattle.gu_trace.specs.Reports.{report_with, parts_shown, claimed_part, no_part, decision_report, change_report}
use Rattle.gu_trace.specs.Reports.{reversal_report, report_of, told, entries_for, reports_for}
use Rattle.gu_trace.proofs.Found.{cut_at, named_there, has_deal}
use Rattle.gu_trace.proofs.Walk.{walk}
use Rattle.gu_trace.proofs.Within.{run_within}
use Rattle.gu_trace.proofs.Short.{IsShort, reports_short}

-- it is a report of the record
pub record IsReport (r : Record) (o : Option Report) : Type 0 where
  pub report : Report
  pub is : o ≡ Some report
  pub number : report.number ≡ r.number

-- a report of what a trade trades
by_deal : (r : Record) (kind trans : ℕ) (target : Target) (lots : ℕ) (parts : List ReportPart) (o : Option Deal)
    (d : Deal) → o ≡ Some d → IsReport r (option_map (report_with r kind trans target lots parts) o)
by_deal r kind trans target lots parts o d is = record {
  report = report_with r kind trans target lots parts d;
  is = ap (option_map (report_with r kind trans target lots parts)) is;
  number = refl;
}

by_node : (h : List Entry) (r : Record) (kind trans : ℕ) (n : EntryPart) (shown : Node → List ReportPart) (x : Node)
    (d : Deal) → node_of (records h) n ≡ Some x → deal_of h n ≡ Some d
    → IsReport r (decision_report h r kind trans n shown)
by_node h r kind trans n shown x d there trades =
    subst (λ (o : Option Node).
    IsReport r
    (option_and_then (λ y. option_map (report_with r kind trans (targets.Node n) y.lots (shown y)) (deal_of h n)) o))
    (sym there) (by_deal r kind trans (targets.Node n) x.lots (shown x) (deal_of h n) d trades)

-- a decision of a node that is there
decided : (t : House) (h before behind : List Entry) (e : Entry) (r : Record) (kind trans : ℕ) (n : EntryPart)
    (shown : Node → List ReportPart) → IsRunFrom t [] h → h ≡ before ++ e ∷ behind → named_node e.command ≡ Some n
    → IsReport r (decision_report h r kind trans n shown)
decided t h before behind e r kind trans n shown run cut names =
    let named = named_there t h before behind e n run cut names in
    let deal = has_deal t h n named.node run named.there in
    by_node h r kind trans n shown named.node deal.0 named.there deal.1

-- each change of a run that concerns a firm has a report
change_told : (t : House) (h before behind : List Entry) (e : Entry) (f : List ℕ) (k : ℕ) (c : Command)
    → IsRunFrom t [] h → h ≡ before ++ e ∷ behind → e.command ≡ c → change_concerns t.house h f e.firm c ≡ true
    → IsReport (numbered_as k e) (change_report h f (numbered_as k e) c)
change_told t h before behind e f k (Trade firm account instrument side lots) run cut is concerned = record {
  report = report_with (numbered_as k e) 9 0 (targets.Node (record { entry = k; part = 0 })) lots []
      (record { instrument = instrument; side = side });
  is = refl;
  number = refl;
}
change_told t h before behind e f k (Split n parts) run cut is concerned =
    let named = named_there t h before behind e n run cut (ap named_node is) in
    let deal = has_deal t h n named.node run named.there in
    let shown = parts_shown f k e.firm parts in
    by_deal (numbered_as k e) (cond (gives_up e.firm parts) 15 9) 0 (targets.Node n) (sum_by (λ p. p.lots) shown) shown
    (deal_of h n) deal.0 deal.1
change_told t h before behind e f k (Claim n account) run cut is concerned =
    decided t h before behind e (numbered_as k e) 16 0 n (claimed_part f account) run cut (ap named_node is)
change_told t h before behind e f k (Refuse n) run cut is concerned =
    decided t h before behind e (numbered_as k e) 10 0 n no_part run cut (ap named_node is)
change_told t h before behind e f k (Cancel n) run cut is concerned =
    decided t h before behind e (numbered_as k e) 10 2 n no_part run cut (ap named_node is)
change_told t h before behind e f k (Agree _ _ _ _) run cut is concerned = absurd (cc)
change_told t h before behind e f k (Raise _ _) run cut is concerned = absurd (cc)
change_told t h before behind e f k (Initiate _) run cut is concerned = absurd (cc)
change_told t h before behind e f k (Decline _) run cut is concerned = absurd (cc)
change_told t h before behind e f k (Reverse _) run cut is concerned = absurd (cc)

-- the change of this number, which concerns the firm
record IsConcerning (t : House) (h : List Entry) (f : List ℕ) (n : ℕ) : Type 0 where
  change : Record
  found : entry_of h n ≡ Some change
  concerned : change_concerns t.house h f change.firm change.command ≡ true

concerning : (t : House) (h : List Entry) (f : List ℕ) (n : ℕ) (o : Option Record) → entry_of h n ≡ o
    → record_concerns t.house h f o ≡ true → IsConcerning t h f n
concerning t h f n None there concerned = absurd (cc)
concerning t h f n (Some r) there concerned = record { change = r; found = there; concerned = concerned }

by_change : (r : Record) (kind n : ℕ) (o : Option Report) (w : Report) → o ≡ Some w
    → IsReport r
    (option_map
    (λ c. report_with r kind 6 (targets.Entry n) c.lots [] (record { instrument = c.instrument; side = c.side })) o)
by_change r kind n o w is = record {
  report = report_with r kind 6 (targets.Entry n) w.lots [] (record { instrument = w.instrument; side = w.side });
  is =
      ap (option_map
      (λ c. report_with r kind 6 (targets.Entry n) c.lots [] (record { instrument = c.instrument; side = c.side })))
      is;
  number = refl;
}

reversal_told : (t : House) (h : List Entry) (f : List ℕ) (r : Record) (kind n : ℕ) → IsRunFrom t [] h
    → record_concerns t.house h f (entry_of h n) ≡ true → IsReport r (reversal_report h f r kind n)
reversal_told t h f r kind n run concerned =
    let named = concerning t h f n (entry_of h n) refl concerned in
    let c = cut_at n h named.change named.found in
    let change = change_told t h c.before c.behind c.entry f n c.entry.command run c.cut refl
    (ap (λ (q : Record). change_concerns t.house h f q.firm q.command) c.is ∙ named.concerned) in
    by_change r kind n (option_and_then (λ q. change_report h f q q.command) (entry_of h n)) change.report
    (ap (option_and_then (λ q. change_report h f q q.command)) (named.found ∙ ap Some (sym c.is)) ∙ change.is)

-- each entry of a run that concerns a firm has a report
entry_told : (t : House) (h before behind : List Entry) (e : Entry) (f : List ℕ) (k : ℕ) (c : Command)
    → IsRunFrom t [] h → h ≡ before ++ e ∷ behind → e.command ≡ c → concerns t.house h f e.firm c ≡ true
    → IsReport (numbered_as k e) (report_of h f (numbered_as k e) c)
entry_told t h before behind e f k (Trade a b i s l) run cut is concerned =
    change_told t h before behind e f k (Trade a b i s l) run cut is concerned
entry_told t h before behind e f k (Split n ps) run cut is concerned =
    change_told t h before behind e f k (Split n ps) run cut is concerned
entry_told t h before behind e f k (Claim n a) run cut is concerned =
    change_told t h before behind e f k (Claim n a) run cut is concerned
entry_told t h before behind e f k (Refuse n) run cut is concerned =
    change_told t h before behind e f k (Refuse n) run cut is concerned
entry_told t h before behind e f k (Cancel n) run cut is concerned =
    change_told t h before behind e f k (Cancel n) run cut is concerned
entry_told t h before behind e f k (Agree _ _ _ _) run cut is concerned = absurd (cc)
entry_told t h before behind e f k (Raise _ _) run cut is concerned = absurd (cc)
entry_told t h before behind e f k (Initiate n) run cut is concerned =
    reversal_told t h f (numbered_as k e) 14 n run concerned
entry_told t h before behind e f k (Decline n) run cut is concerned =
    reversal_told t h f (numbered_as k e) 10 n run concerned
entry_told t h before behind e f k (Reverse n) run cut is concerned =
    reversal_told t h f (numbered_as k e) 17 n run concerned

-- the report of a record
abbrev report_in : List Entry → List ℕ → Record → Option Report
report_in h f r = report_of h f r r.command

abbrev IsTold : List Entry → List ℕ → Record → Type 0
IsTold h f r = IsReport r (report_in h f r)

-- the same, where it concerns the firm
abbrev IsToldOf : List ℕ → List Entry → List ℕ → Record → Type 0
IsToldOf house h f r = concerns house h f r.firm r.command ≡ true → IsTold h f r

told_from : (t : House) (h before rest : List Entry) (f : List ℕ) (k : ℕ) → IsRunFrom t [] h → h ≡ before ++ rest
    → All (IsToldOf t.house h f) (numbered_from k rest)
told_from t h before [] f k run cut = All-nil (IsToldOf t.house h f)
told_from t h before (e ∷ rest) f k run cut =
    All-cons (IsToldOf t.house h f) (numbered_as k e) (numbered_from (k + 1) rest)
    (entry_told t h before rest e f k e.command run cut refl)
    (told_from t h (before ++ e ∷ []) rest f (k + 1) run (cut ∙ sym (append_assoc before (e ∷ []) rest)))

one_kept : (h : List Entry) (f : List ℕ) (r : Record) (rs : List Record) (a c : Bool) → (c ≡ true → IsTold h f r)
    → All (IsTold h f) rs → All (IsTold h f) (cond (a && c) (r ∷ rs) rs)
one_kept h f r rs true true told all = All-cons (IsTold h f) r rs (told refl) all
one_kept h f r rs true false told all = all
one_kept h f r rs false c told all = all

-- of these records those above a number that concern the firm
kept_told : (house : List ℕ) (h : List Entry) (f : List ℕ) (after : ℕ) (rs : List Record) → All (IsToldOf house h f) rs
    → All (IsTold h f) (filter (λ r. nat_lt after r.number && concerns house h f r.firm r.command) rs)
kept_told house h f after [] all = All-nil (IsTold h f)
kept_told house h f after (r ∷ rs) all =
    one_kept h f r (filter (λ q. nat_lt after q.number && concerns house h f q.firm q.command) rs)
    (nat_lt after r.number) (concerns house h f r.firm r.command) (All-head (IsToldOf house h f) r rs all)
    (kept_told house h f after rs (All-tail (IsToldOf house h f) r rs all))

-- ---- lists in which each record has a report

numbers_told : (h : List Entry) (f : List ℕ) (rs : List Record) → All (IsTold h f) rs
    → map (λ (p : Report). p.number) (filter_map (report_in h f) rs) ≡ map (λ (q : Record). q.number) rs
numbers_told h f [] all = refl
numbers_told h f (r ∷ rs) all =
    let here = All-head (IsTold h f) r rs all in
    ap (λ o. map (λ (p : Report). p.number) (cons_option o (filter_map (report_in h f) rs))) here.is
    ∙ (ap (λ n. n ∷ map (λ (p : Report). p.number) (filter_map (report_in h f) rs)) here.number
    ∙ ap (λ ns. r.number ∷ ns) (numbers_told h f rs (All-tail (IsTold h f) r rs all)))

first_of_all : (h : List Entry) (f : List ℕ) (n : ℕ) (rs : List Record) → All (IsTold h f) rs
    → take n (filter_map (report_in h f) rs) ≡ filter_map (report_in h f) (take n rs)
first_of_all h f zero rs all = refl
first_of_all h f (suc n) [] all = refl
first_of_all h f (suc n) (r ∷ rs) all =
    let here = All-head (IsTold h f) r rs all in
    ap (λ o. take (suc n) (cons_option o (filter_map (report_in h f) rs))) here.is
    ∙ (ap (λ ps. here.report ∷ ps) (first_of_all h f n rs (All-tail (IsTold h f) r rs all))
    ∙ ap (λ o. cons_option o (filter_map (report_in h f) (take n rs))) (sym here.is))

all_first : (P : Record → Type 0) (n : ℕ) (rs : List Record) → All P rs → All P (take n rs)
all_first P zero rs all = All-nil P
all_first P (suc n) [] all = All-nil P
all_first P (suc n) (r ∷ rs) all =
    All-cons P r (take n rs) (All-head P r rs all) (all_first P n rs (All-tail P r rs all))

-- ---- the walk

one_test : (walked g : Record → Option Report) (a c : Bool) (r : Record) (rs ks : List Record)
    → walked r ≡ cond c (g r) None → filter_map walked rs ≡ filter_map g ks
    → filter_map walked (cond a (r ∷ rs) rs) ≡ filter_map g (cond (a && c) (r ∷ ks) ks)
one_test walked g true true r rs ks is same =
    ap (λ o. cons_option o (filter_map walked rs)) is ∙ ap (cons_option (g r)) same
one_test walked g true false r rs ks is same = ap (λ o. cons_option o (filter_map walked rs)) is ∙ same
one_test walked g false c r rs ks is same = same

-- what is told of the records above a number is the report of each of them that concerns the firm
both_tests : (house : List ℕ) (h : List Entry) (f : List ℕ) (after : ℕ) (rs : List Record)
    → filter_map (told house h f) (filter (λ r. nat_lt after r.number) rs)
    ≡ filter_map (report_in h f) (filter (λ r. nat_lt after r.number && concerns house h f r.firm r.command) rs)
both_tests house h f after [] = refl
both_tests house h f after (r ∷ rs) =
    one_test (told house h f) (report_in h f) (nat_lt after r.number) (concerns house h f r.firm r.command) r
    (filter (λ q. nat_lt after q.number) rs)
    (filter (λ q. nat_lt after q.number && concerns house h f q.firm q.command) rs) refl (both_tests house h f after rs)

all_told : (t : House) (h : List Entry) (f : List ℕ) (after : ℕ) → IsRunFrom t [] h
    → All (IsTold h f) (filter (λ r. nat_lt after r.number && concerns t.house h f r.firm r.command) (records h))
all_told t h f after run = kept_told t.house h f after (records h) (told_from t h [] h f 1 run refl)

-- the first 100 reports of a walk are those of the first 100 entries that concern the firm
pub walk_reports : (t : House) (h : List Entry) (f : List ℕ) (after : ℕ) → IsRunFrom t [] h
    → walk t.house h f after ≡ reports_for t.house h f after
walk_reports t h f after run =
    ap (take 100) (both_tests t.house h f after (records h))
    ∙ first_of_all h f 100 (filter (λ r. nat_lt after r.number && concerns t.house h f r.firm r.command) (records h))
    (all_told t h f after run)

-- each of these entries is told
pub each_told : (t : House) (h : List Entry) (f : List ℕ) (after : ℕ) → IsRunFrom t [] h
    → map (λ (p : Report). p.number) (reports_for t.house h f after)
    ≡ map (λ (q : Record). q.number) (entries_for t.house h f after)
each_told t h f after run =
    let firsts = filter (λ r. nat_lt after r.number && concerns t.house h f r.firm r.command) (records h) in
    numbers_told h f (take 100 firsts) (all_first (IsTold h f) 100 firsts (all_told t h f after run))

-- what a reading gives: its reports are those of the definition, each entry has one, and none is long
pub record IsReading (t : House) (h : List Entry) (f : List ℕ) (after : ℕ) (found : List Report) : Type 0 where
  pub value : found ≡ reports_for t.house h f after
  pub each : map (λ (p : Report). p.number) found ≡ map (λ (q : Record). q.number) (entries_for t.house h f after)
  pub short : All IsShort found

pub reading : (t : House) (h : List Entry) (f : List ℕ) (after : ℕ) (found : List Report) → IsRunFrom t [] h
    → found ≡ walk t.house h f after → IsReading t h f after found
reading t h f after found run walked =
    let is = walked ∙ walk_reports t h f after run in
    record {
      value = is;
      each = ap (map (λ (p : Report). p.number)) is ∙ each_told t h f after run;
      short =
          subst (λ (rs : List Report). All IsShort rs) (sym is) (reports_short t.house h f after (run_within t h run));
    }
