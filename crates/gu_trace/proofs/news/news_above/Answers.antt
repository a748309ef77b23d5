use Rattle.std.proofs.Common.{◌≡◌, ◌∙◌, ◌==◌, ◌&&◌, ◌||◌, suc, ◌+◌, ◌<◌, ◌∷◌, [], List, length, drop, sym, refl}
use Rattle.std.proofs.Common.{ap, arith}
use Rattle.std.specs.Prelude.{Some, slice_get}
use Rattle.std.specs.List.{list_any}
use Rattle.std.proofs.lemmas.Option.{slice_get_read}
use Rattle.std.proofs.lemmas.List.{drop_all}
use Rattle.gu_base.specs.History.{numbered_as, records}
use Rattle.gu_base.specs.declared.entry.Entry.{Entry}
use Rattle.gu_base.specs.declared.entry.Record.{Record}
use Rattle.gu_base.proofs.Numbered.{length_numbered}
use Rattle.gu_trace.specs.Concerned.{is_among}
use Rattle.gu_trace.specs.Concerns.{concerns}
use Rattle.gu_trace.specs.News.{is_told, is_news}
use Rattle.gu_trace.proofs.Newest.{either, or_false, records_at}
use Rattle.gu_trace.proofs.news.news_above.Goals as goal

pub loop-place-preserved : goal.loop-place-preserved
loop-place-preserved c =
    let t = c.args.book.now.house in
    let h = c.args.book.now.history in
    let i = c.loop-place.place in
    let e = c.index-entries-place.result in
    let long = ap (λ (l : List Entry). length l) c.history-entries.ensures.value in
    let within : i < length h = omega (arith, long) in
    let there : slice_get h i ≡ Some e = slice_get_read h (length h) i e refl within
    (rw c.history-entries.ensures.value at c.index-entries-place.is) in
    let firms = rw (
      c.house-house.ensures,
      c.house.ensures,
      c.history-entries.ensures.value,
    ) at c.firms_concerned-firms.ensures in
    let number : 1 + i ≡ i + 1 = omega arith in
    let next : suc i ≡ i + 1 = omega arith in
    let here : drop i (records h) ≡ numbered_as (i + 1) e ∷ drop (i + 1) (records h) =
    records_at 1 i h e there
    ∙ (ap (λ m. numbered_as m e ∷ drop (suc i) (records h)) number
    ∙ ap (λ k. numbered_as (i + 1) e ∷ drop k (records h)) next) in
    λ f n.
    let told = is_told c.loop-place.news.items f n in
    let others = is_news t.house h (i + 1) f n in
    ap (λ b. b || others) (c.in_ok-note_all.ensures f n
    ∙ (ap (λ m. told || ((m == n) && is_among f c.firms_concerned-firms.result)) c.at_place.ensures
    ∙ ap (λ b. told || (((i + 1) == n) && b)) (sym (firms f))))
    ∙ (either told (((i + 1) == n) && concerns t.house h f e.firm e.command) others
    ∙ (sym (ap (λ (rs : List Record). told
    || list_any (λ r. (r.number == n) && concerns t.house h f r.firm r.command) rs) here)
    ∙ c.loop-place.invariant f n))

pub returns : goal.returns
returns c =
    let t = c.args.book.now.house in
    let h = c.args.book.now.history in
    let i = c.loop-place.place in
    let long = ap (λ (l : List Entry). length l) c.history-entries.ensures.value in
    let past : drop i (records h) ≡ [] =
    drop_all i (records h) (omega (arith, long, length_numbered 1 h, c.loop-place-test.false)) in
    λ f n.
    let told = is_told c.loop-place.news.items f n in
    sym (or_false told)
    ∙ (sym (ap (λ (rs : List Record). told
    || list_any (λ r. (r.number == n) && concerns t.house h f r.firm r.command) rs) past)
    ∙ c.loop-place.invariant f n)
