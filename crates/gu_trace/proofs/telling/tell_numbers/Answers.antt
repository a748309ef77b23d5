use Rattle.std.proofs.Common.{◌≡◌, ◌≤◌, ◌<◌, ◌∙◌, ◌++◌, ◌∷◌, ◌+◌, ◌-◌, ℕ, suc, List, drop, drop-cons, Option, ap, subst}
use Rattle.std.proofs.Common.{sym, refl, length, arith}
use Rattle.std.specs.Prelude.{Some, None}
use Rattle.std.specs.List.{All, cons_option}
use Rattle.std.proofs.lemmas.List.Elements.{All-get_or}
use Rattle.std.proofs.lemmas.List.{drop_all}
use Rattle.gu_base.specs.declared.report.Report.{Report}
use Rattle.gu_base.proofs.Numbered.{positive}
use Rattle.gu_trace.specs.Filling.{told_at, told_of_numbers, filled}
use Rattle.gu_trace.specs.Reports.{entries_for}
use Rattle.gu_trace.proofs.Concerned.{on_err}
use Rattle.gu_trace.proofs.Walk.{filled_full, filled_by, longer_by}
use Rattle.gu_trace.proofs.telling.tell_numbers.Goals as goal
use Rattle.gu_trace.proofs.telling.tell_numbers.Goals.{After-get}

-- what holds of all numbers holds of the one that is next
next_is : (P : ℕ → Type 0) (c : After-get) → All P c.args.numbers.now → P c.number-item.result
next_is P c all = subst P (sym c.number-item.is)
    (All-get_or P c.args.numbers.now c.loop-number.number-index c.number-item.result c.loop-number-test.true all)

joined : (o : Option Report) (others more : List Report) → cons_option o others ++ more ≡ cons_option o (others ++ more)
joined None others more = refl
joined (Some r) others more = refl

pub tell-requires : goal.tell-requires
tell-requires c =
    let w = (goal.at.tell-requires c).After-get in
    let under = next_is (λ n. n ≤ length c.args.book.now.history) w c.requires.there in
    let some : 1 ≤ c.get.result = positive c.get.result c.get.ensures.in_range in
    record { there = omega (arith, under, some, c.get.ensures.value) }

pub loop-number-preserved : goal.loop-number-preserved
loop-number-preserved c =
    let t = c.args.book.now.house in
    let h = c.args.book.now.history in
    let f = c.args.firm.now in
    let i = c.loop-number.number-index in
    let ns = c.args.numbers.now in
    let n = c.number-item.result in
    let o = told_at t.house h f (c.get.result - 1) in
    let room : length c.loop-number.found.items < 100 = omega arith in
    let later : suc i ≡ i + 1 = omega arith in
    let here : drop i ns ≡ n ∷ drop (i + 1) ns =
    drop-cons ns i n c.loop-number-test.true ∙ (ap (λ m. m ∷ drop (suc i) ns) (sym c.number-item.is) ∙ ap
    (λ k. n ∷ drop k ns) later) in
    record {
      bound = longer_by c.loop-number.found.items c.tell.new.found.items o c.in_ok-tell.ensures.value room;
      so_far = λ others.
          filled_by c.loop-number.found.items c.tell.new.found.items
          (told_of_numbers t.house h f (drop (i + 1) ns) ++ others) o c.in_ok-tell.ensures.value room
          ∙ (ap (filled c.loop-number.found.items)
          (ap (λ m. cons_option (told_at t.house h f (m - 1))
          (told_of_numbers t.house h f (drop (i + 1) ns) ++ others)) c.get.ensures.value
          ∙ (sym (joined (told_at t.house h f (n - 1)) (told_of_numbers t.house h f (drop (i + 1) ns)) others)
          ∙ ap (λ ms. told_of_numbers t.house h f ms ++ others) (sym here)))
          ∙ c.loop-number.invariant.so_far others);
    }

pub returns-then-len-eq-MOST_REPORTS-clause-value : goal.returns-then-len-eq-MOST_REPORTS-clause-value
returns-then-len-eq-MOST_REPORTS-clause-value c = λ others.
    let found = c.loop-number.found.items in
    let full : length found ≡ 100 = omega arith in
    let left = told_of_numbers c.args.book.now.house.house c.args.book.now.history c.args.firm.now
    (drop c.loop-number.number-index c.args.numbers.now) ++ others in
    filled_full found others full ∙ (sym (filled_full found left full) ∙ c.loop-number.invariant.so_far others)

pub returns-in_err-tell-clause-memory : goal.returns-in_err-tell-clause-memory
returns-in_err-tell-clause-memory c =
    let t = c.args.book.now.house in
    let h = c.args.book.now.history in
    let w = (goal.at.returns-in_err-tell-clause-memory c).After-get in
    on_err ((after : ℕ) → All (λ n. after < n) c.args.numbers.now
    → 1 ≤ length (entries_for t.house h c.args.firm.now after)) c.from_residual.result
    (λ after all.
    let over : after < c.number-item.result = next_is (λ n. after < n) w all in
    c.in_err-tell.ensures.memory after (omega (arith, over, c.get.ensures.value)))

pub returns-clause-value : goal.returns-clause-value
returns-clause-value c = λ others.
    let none = drop_all c.loop-number.number-index c.args.numbers.now (omega (arith, c.loop-number-test.false)) in
    ap (λ ms. filled c.loop-number.found.items
    (told_of_numbers c.args.book.now.house.house c.args.book.now.history c.args.firm.now ms ++ others)) (sym none)
    ∙ c.loop-number.invariant.so_far others
