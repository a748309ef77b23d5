-- What has to agree, one thing after the other, for a firm to be told the same; and what needn't.
use Rattle.std.proofs.Common.{◌≡◌, ℕ, List, [], ◌∷◌, ◌++◌, refl}
use Rattle.std.specs.Prelude.{codes, Some, None, map}
use Rattle.gu_base.specs.House.{House}
use Rattle.gu_base.specs.History.{live}
use Rattle.gu_base.specs.Standing.{standing_on}
use Rattle.gu_base.specs.Runs.{after_all, call_of}
use Rattle.gu_base.specs.declared.command.Command.TheVariants.{Trade, Split, Claim, Agree}
use Rattle.gu_base.specs.declared.command.Side.{Side}
use Rattle.gu_base.specs.declared.command.Side.TheVariants.{Buy, Sell}
use Rattle.gu_base.specs.declared.command.Part.{Part}
use Rattle.gu_base.specs.declared.entry.Entry.{Entry}
use Rattle.gu_base.specs.declared.report.Report.{Report}
use Rattle.gu_base.specs.declared.report.Target.TheVariants as targets
use Rattle.gu_base.specs.declared.state.State.TheVariants.{Held, Offered, Claimed}
use Rattle.gu_trace.specs.Reports.{reports_for}
use Rattle.gu_statement.specs.Sight.{Seen, seen}
use Rattle.gu_base.specs.Positions.{position_of}
use Rattle.gu_statement.specs.declared.lines.AgreementLine.{AgreementLine}
use Rattle.gu_statement.specs.Lines.{statement_of, agreement_lines, LookAlike}

abbrev hse : List ℕ
hse = codes "HSE"

abbrev aaa : List ℕ
aaa = codes "AAA"

abbrev bbb : List ℕ
bbb = codes "BBB"

abbrev ccc : List ℕ
ccc = codes "CCC"

abbrev own : List ℕ → List ℕ → ℕ → Part
own firm account lots = record { lots = lots; firm = firm; account = Some account }

abbrev to : List ℕ → ℕ → Part
to firm lots = record { lots = lots; firm = firm; account = None }

abbrev traded : List ℕ → List ℕ → Side → ℕ → Entry
traded account instrument side lots =
    record { firm = hse; id = codes "T"; status = Held; command = Trade aaa account instrument side lots }

abbrev split_by : List ℕ → List ℕ → ℕ → ℕ → List Part → Entry
split_by by id entry part parts =
    record { firm = by; id = id; status = Offered; command = Split (record { entry = entry; part = part }) parts }

abbrev claimed_by : List ℕ → List ℕ → ℕ → ℕ → List ℕ → Entry
claimed_by by id entry part account =
    record { firm = by; id = id; status = Claimed; command = Claim (record { entry = entry; part = part }) account }

-- without the instrument and the side
abbrev without_deal : Seen → Seen
without_deal s = record s { deal = None }

-- without its number
abbrev without_number : Seen → Seen
without_number s = record s { number = 0 }

-- ---- what has to agree

-- AAA trades 100 and gives 40 of them to BBB
abbrev first_day : List Entry
first_day =
    traded (codes "A1") (codes "ESZ6") Buy 100
    ∷ split_by aaa (codes "S1") 1 0 (own aaa (codes "A2") 60 ∷ to bbb 40 ∷ []) ∷ []

-- the same of another instrument
abbrev other_day : List Entry
other_day =
    traded (codes "A1") (codes "NQZ6") Sell 100
    ∷ split_by aaa (codes "S1") 1 0 (own aaa (codes "A2") 60 ∷ to bbb 40 ∷ []) ∷ []

-- the trade doesn't concern BBB, so without its instrument and side BBB would see the same of both, but it isn't told
-- the same
needs_deal : map without_deal (seen hse first_day bbb) ≡ map without_deal (seen hse other_day bbb)
needs_deal = refl

told_first : map (λ (r : Report). r.instrument) (reports_for hse first_day bbb 0) ≡ codes "ESZ6" ∷ []
told_first = refl

told_other : map (λ (r : Report). r.instrument) (reports_for hse other_day bbb 0) ≡ codes "NQZ6" ∷ []
told_other = refl

-- an entry that concerns neither firm, before the Split: entries are told with their numbers
abbrev later_day : List Entry
later_day =
    traded (codes "A1") (codes "ESZ6") Buy 100
    ∷ record { firm = hse; id = codes "G"; status = Held; command = Agree ccc hse 1 1 }
    ∷ split_by aaa (codes "S1") 1 0 (own aaa (codes "A2") 60 ∷ to bbb 40 ∷ []) ∷ []

numbers_first : map (λ (r : Report). r.number) (reports_for hse first_day bbb 0) ≡ 2 ∷ []
numbers_first = refl

numbers_later : map (λ (r : Report). r.number) (reports_for hse later_day bbb 0) ≡ 3 ∷ []
numbers_later = refl

-- the name of the node that is split: AAA gives the same lots from a part of its own. BBB is told what it is given of
-- by that name, and so whether a trade was split before
abbrev deeper_day : List Entry
deeper_day =
    traded (codes "A1") (codes "ESZ6") Buy 100
    ∷ record (split_by aaa (codes "S0") 1 0 (own aaa (codes "A2") 60 ∷ own aaa (codes "A3") 40 ∷ [])) { status = Held }
    ∷ split_by aaa (codes "S1") 2 2 (to bbb 40 ∷ []) ∷ []

abbrev flat_day : List Entry
flat_day =
    traded (codes "A1") (codes "ESZ6") Buy 100
    ∷ record { firm = hse; id = codes "U"; status = Held; command = Trade aaa (codes "A1") (codes "ESZ6") Buy 40 }
    ∷ split_by aaa (codes "S1") 2 0 (to bbb 40 ∷ []) ∷ []

target_deeper : map (λ (r : Report). r.target) (reports_for hse deeper_day bbb 0)
    ≡ targets.Node (record { entry = 2; part = 2 }) ∷ []
target_deeper = refl

target_flat : map (λ (r : Report). r.target) (reports_for hse flat_day bbb 0)
    ≡ targets.Node (record { entry = 2; part = 0 }) ∷ []
target_flat = refl

-- ---- what needn't

-- AAA's account, its lots and its other parts, who gets them, all ids, and entries behind
abbrev changed_day : List Entry
changed_day =
    traded (codes "A2") (codes "ESZ6") Buy 250
    ∷ split_by aaa (codes "X7") 1 0 (to ccc 210 ∷ to bbb 40 ∷ []) ∷ claimed_by ccc (codes "C") 2 1 (codes "C1") ∷ []

same_for_taker : seen hse first_day bbb ≡ seen hse changed_day bbb
same_for_taker = refl

-- the account of a claim, and what the taker does with the lots, are nothing to the giver
abbrev claimed_day : List Entry
claimed_day = first_day ++ claimed_by bbb (codes "C") 2 2 (codes "B1") ∷ []

abbrev passed_on : List Entry
passed_on =
    first_day
    ++ claimed_by bbb (codes "D") 2 2 (codes "B2") ∷ split_by bbb (codes "E") 2 2 (to ccc 40 ∷ [])
    ∷ claimed_by ccc (codes "F") 4 1 (codes "C1") ∷ []

same_for_giver : seen hse claimed_day aaa ≡ seen hse passed_on aaa
same_for_giver = refl

-- but what stands on the claim, on which its reversal waits, differs
abbrev table : House
table = record {
  house = hse;
  firms = aaa ∷ bbb ∷ ccc ∷ [];
  accounts = record { firm = aaa; name = codes "A1" } ∷ record { firm = aaa; name = codes "A2" }
      ∷ record { firm = aaa; name = codes "A3" }
      ∷ record { firm = bbb; name = codes "B1" } ∷ record { firm = bbb; name = codes "B2" }
      ∷ record { firm = ccc; name = codes "C1" } ∷ [];
  instruments = codes "ESZ6" ∷ codes "NQZ6" ∷ [];
  agreements = (record { giver = aaa; taker = bbb }, record { rate = 1; limit = 1000 })
      ∷ (record { giver = aaa; taker = ccc }, record { rate = 1; limit = 1000 })
      ∷ (record { giver = bbb; taker = ccc }, record { rate = 1; limit = 1000 }) ∷ [];
  opening = [];
}

nothing_stands : standing_on table (live claimed_day) 3 ≡ None
nothing_stands = refl

something_stands : standing_on table (live passed_on) 3 ≡ Some 4
something_stands = refl

-- all else of the giver's statement is the same, whatever the taker does with the lots
same_statement : statement_of table claimed_day aaa ≡ statement_of table passed_on aaa
same_statement = refl

-- and of the taker's, whatever else the giver gave up
same_for_the_taker : statement_of table first_day bbb ≡ statement_of table changed_day bbb
same_for_the_taker = refl

-- ---- what a statement needs beyond what reports show

abbrev agreed : ℕ → List Entry
agreed rate = record { firm = hse; id = codes "G"; status = Held; command = Agree ccc aaa rate 500 } ∷ []

-- terms are told to nobody
no_terms_seen : seen hse (agreed 3) aaa ≡ seen hse (agreed 4) aaa
no_terms_seen = refl

rate_of_three : map (λ (a : AgreementLine). a.rate) (agreement_lines table (live (agreed 3)) (Some aaa)) ≡ 1 ∷ 1 ∷ 3 ∷
    []
rate_of_three = refl

rate_of_four : map (λ (a : AgreementLine). a.rate) (agreement_lines table (live (agreed 4)) (Some aaa)) ≡ 1 ∷ 1 ∷ 4 ∷ []
rate_of_four = refl

-- that the history is one of a run: no run has CCC's split of what is AAA's
abbrev no_run : List Entry
no_run =
    traded (codes "A1") (codes "ESZ6") Buy 100
    ∷ split_by ccc (codes "S") 1 0 (own ccc (codes "C1") 100 ∷ []) ∷ []

abbrev a_run : List Entry
a_run = traded (codes "A1") (codes "ESZ6") Buy 100 ∷ []

look_alike : LookAlike table aaa no_run a_run
look_alike = refl

position_there : position_of (live a_run) aaa (codes "A1") (codes "ESZ6") Buy ≡ 100
position_there = refl

position_gone : position_of (live no_run) aaa (codes "A1") (codes "ESZ6") Buy ≡ 0
position_gone = refl

-- the days are what the book makes of their calls
abbrev is_made : List Entry → Type 0
is_made h = after_all table [] (map call_of h) ≡ h

first_made : is_made first_day
first_made = refl

changed_made : is_made changed_day
changed_made = refl

claimed_made : is_made claimed_day
claimed_made = refl

passed_made : is_made passed_on
passed_made = refl

other_made : is_made other_day
other_made = refl

later_made : is_made later_day
later_made = refl

deeper_made : is_made deeper_day
deeper_made = refl

flat_made : is_made flat_day
flat_made = refl

agreed3_made : is_made (agreed 3)
agreed3_made = refl

agreed4_made : is_made (agreed 4)
agreed4_made = refl
