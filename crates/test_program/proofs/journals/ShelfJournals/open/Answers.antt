use Rattle.std.proofs.Common.{ap, subst, sym, List}
use Rattle.gu_base.specs.Runs.{IsRunFrom, opening_history}
use Rattle.gu_base.specs.declared.entry.Entry.{Entry}
use Rattle.gu_book.specs.Seen.{HouseAndHistory}
use Rattle.gu_desk.proofs.Running.{run_starts}
use Rattle.test_program.proofs.journals.ShelfJournals.open.Goals as goal

-- the opening book is a run of no calls
pub returns-in-Ok-clause-run : goal.returns-in-Ok-clause-run
returns-in-Ok-clause-run g c =
    let house = c.args.house in
    let same = ap (λ (b : HouseAndHistory). b.history) c.in-Ok.ensures.opening in
    subst (λ (h : List Entry). IsRunFrom house (opening_history house) h) (sym same)
    (run_starts house (opening_history house))
