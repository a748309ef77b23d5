use Rattle.std.proofs.Common.{◌≡◌, ◌≤◌, ◌<◌, ◌∙◌, ◌++◌, [], ap, sym, subst, length, arith}
use Rattle.std.specs.Prelude.{filter, nat_lt}
use Rattle.std.specs.List.{All}
use Rattle.std.proofs.lemmas.List.Elements.{All-weaker}
use Rattle.gu_trace.specs.Filling.{told_from, told_of_numbers, filled}
use Rattle.gu_trace.specs.Index.{numbers_for, RiseWithin}
use Rattle.gu_trace.specs.Reports.{told, entries_for}
use Rattle.gu_trace.proofs.Concerned.{on_err}
use Rattle.gu_trace.proofs.Walk.{filled_start}
use Rattle.gu_trace.proofs.Each.{IsReading, reading}
use Rattle.gu_trace.proofs.Indexed.{numbers_rise}
use Rattle.gu_trace.proofs.ByNumber.{IsAbove, all_above, told_in_two}
use Rattle.gu_trace.proofs.index.ConcernIndex.reports_by.Goals as goal
use Rattle.gu_trace.proofs.index.ConcernIndex.reports_by.Goals.{After-above-numbers, In_ok-tell_from}

pub above-numbers-requires : goal.above-numbers-requires
above-numbers-requires c =
    let t = c.args.book.now.house in
    let h = c.args.book.now.history in
    let n = c.args.self.now.filed in (
      n,
      subst (RiseWithin 0 n) (sym (c.of.ensures ∙ c.requires.numbers c.args.firm.now))
          (numbers_rise t.house h n c.args.firm.now),
    )

-- the numbers that are kept for the firm, above a number
above : (c : After-above-numbers) → c.above-numbers.result.now
    ≡ filter (λ m. nat_lt c.args.after m)
    (numbers_for c.args.book.now.house.house c.args.book.now.history c.args.self.now.filed c.args.firm.now)
above c = c.above-numbers.ensures ∙ ap (filter (λ m. nat_lt c.args.after m)) (c.of.ensures
    ∙ c.requires.numbers c.args.firm.now)

are_above : (c : After-above-numbers) → All (IsAbove c.args.after c.args.self.now.filed) c.above-numbers.result.now
are_above c =
    let t = c.args.book.now.house in
    let h = c.args.book.now.history in
    let n = c.args.self.now.filed in
    subst (All (IsAbove c.args.after n)) (sym (above c))
    (all_above c.args.after 0 n (numbers_for t.house h n c.args.firm.now) (numbers_rise t.house h n c.args.firm.now))

pub tell_numbers-requires-clause-there : goal.tell_numbers-requires-clause-there
tell_numbers-requires-clause-there c =
    let w = (goal.at.tell_numbers-requires-clause-there c).After-above-numbers in
    let within = c.requires.within in
    All-weaker (IsAbove c.args.after c.args.self.now.filed) (λ n. n ≤ length c.args.book.now.history)
    (λ n is. let low = is.1 in omega (arith, low, within)) c.above-numbers.result.now (are_above w)

pub returns-in_err-tell_numbers-clause-memory : goal.returns-in_err-tell_numbers-clause-memory
returns-in_err-tell_numbers-clause-memory c =
    let t = c.args.book.now.house in
    let h = c.args.book.now.history in
    let w = (goal.at.returns-in_err-tell_numbers-clause-memory c).After-above-numbers in
    let over = All-weaker (IsAbove c.args.after c.args.self.now.filed) (λ n. c.args.after < n) (λ n is. is.0)
    c.above-numbers.result.now (are_above w) in
    on_err (1 ≤ length (entries_for t.house h c.args.firm.now c.args.after)) c.from_residual.result
    (c.in_err-tell_numbers.ensures.memory c.args.after over)

-- what is found
found : (c : In_ok-tell_from) → IsReading c.args.book.now.house c.args.book.now.history c.args.firm.now c.args.after
    c.tell_from.new.found.items
found c =
    let t = c.args.book.now.house in
    let h = c.args.book.now.history in
    let f = c.args.firm.now in
    let n = c.args.self.now.filed in
    let others = told_from t.house h f c.later-rest.result in
    let numbers = c.above-numbers.ensures ∙ ap (filter (λ m. nat_lt c.args.after m)) (c.of.ensures
    ∙ c.requires.numbers f) in
    reading t h f c.args.after c.tell_from.new.found.items c.in_ok-tell_from.ensures.run
    (c.in_ok-tell_from.ensures.value
    ∙ (c.in_ok-tell_numbers.ensures.value others
    ∙ (ap (λ xs. filled xs (told_of_numbers t.house h f c.above-numbers.result.now ++ others)) c.new-found.ensures.items
    ∙ (ap (λ ns. filled [] (told_of_numbers t.house h f ns ++ others)) numbers
    ∙ (ap (filled []) (told_in_two t.house h f n c.args.after c.later-rest.result c.later-rest.ensures)
    ∙ filled_start (told t.house h f) h c.args.after)))))

pub returns-clause-value : goal.returns-clause-value
returns-clause-value c = (found c).value

pub returns-clause-each : goal.returns-clause-each
returns-clause-each c = (found c).each

pub returns-clause-short : goal.returns-clause-short
returns-clause-short c = (found c).short
