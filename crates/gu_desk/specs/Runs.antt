-- What calls make of the book that a desk opened with, and what a call or a reading answers there.
use Rattle.std.specs.Prelude.{◌≡◌, ◌≤◌, ℕ, List, length, map, Result, MatchResult, IsTrue}
use Rattle.gu_base.specs.Answers.{Call, answer_to, after}
use Rattle.gu_base.specs.House.{House}
use Rattle.gu_base.specs.Runs.{IsRunFrom}
use Rattle.gu_base.specs.declared.entry.Answer.{Answer}
use Rattle.gu_base.specs.declared.entry.Entry.{Entry}
use Rattle.gu_base.specs.declared.entry.Record.{Record}
use Rattle.gu_base.specs.declared.report.Report.{Report}
use Rattle.gu_book.specs.Front.{may_lack}
use Rattle.gu_book.specs.Seen.{HouseAndHistory}
use Rattle.gu_desk.specs.Begins.{BeginsWith}
use Rattle.gu_trace.specs.Reports.{entries_for, reports_for}

-- b is the opening book, or what calls made of it
abbrev pub IsRunOf : HouseAndHistory → HouseAndHistory → Type 0
IsRunOf opening b = (b.house ≡ opening.house) × IsRunFrom opening.house opening.history b.history

-- the answer is that of the rules at a book that calls made of the opening one; want of memory
-- comes only where the rules allow it there
abbrev pub IsAnswerOf : {E : Type 0} → HouseAndHistory → Call → Result Answer E → Type 0
IsAnswerOf opening c r =
    (b : HouseAndHistory) × IsRunOf opening b
    × MatchResult r (λ a. a ≡ answer_to b.house b.history c)
    (λ _. IsTrue (may_lack (answer_to b.house b.history c)))

-- these are the reports to the firm above a number, one of each entry that concerns it, at this
-- history
abbrev pub IsReadingAt : House → List Entry → List ℕ → ℕ → List Report → Type 0
IsReadingAt t h firm after told =
    (told ≡ reports_for t.house h firm after)
    × (map (λ (p : Report). p.number) told
    ≡ map (λ (r : Record). r.number) (entries_for t.house h firm after))

-- the same at a book that calls made of the opening one
abbrev pub IsReadingOf : HouseAndHistory → List ℕ → ℕ → List Report → Type 0
IsReadingOf opening firm after told =
    (b : HouseAndHistory) × IsRunOf opening b × IsReadingAt b.house b.history firm after told

-- some entry above a number concerns the firm, at a book that calls made of the opening one
abbrev pub IsToldOf : HouseAndHistory → List ℕ → ℕ → Type 0
IsToldOf opening firm after =
    (b : HouseAndHistory) × IsRunOf opening b
    × (1 ≤ length (entries_for b.house.house b.history firm after))

-- a call with a seat that had seen this: the answer is that of the rules at a book that calls made
-- of the opening one, whose history begins with what the seat had seen. The seat has then seen the
-- history after the call; where memory lacked, that history itself
abbrev pub IsCallBy : {E : Type 0} → HouseAndHistory → List Entry → Call → Result Answer E
    → List Entry → Type 0
IsCallBy opening seen c r now =
    (b : HouseAndHistory) × IsRunOf opening b × BeginsWith b.history seen
    × MatchResult r (λ a. (a ≡ answer_to b.house b.history c) × (now ≡ after b.house b.history c))
    (λ _. IsTrue (may_lack (answer_to b.house b.history c)) × (now ≡ b.history))

-- a seat that had seen this has now seen that: a history that calls made of the opening one, and
-- that begins with what it had seen
abbrev pub HasSeen : HouseAndHistory → List Entry → List Entry → Type 0
HasSeen opening seen now = IsRunFrom opening.house opening.history now × BeginsWith now seen
