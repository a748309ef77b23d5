use Rattle.std.proofs.Common.{◌≡◌, ◌<◌, ◌+◌, ◌∙◌, List, ap, sym, refl, length, arith}
use Rattle.std.specs.Prelude.{Some, slice_get}
use Rattle.std.proofs.lemmas.Option.{slice_get_read}
use Rattle.gu_base.specs.declared.entry.Entry.{Entry}
use Rattle.gu_trace.specs.Concerned.{is_among}
use Rattle.gu_trace.specs.Concerns.{concerns}
use Rattle.gu_trace.specs.Index.{numbers_of, numbers_for, filed}
use Rattle.gu_trace.proofs.Indexed.{filed_next}
use Rattle.gu_trace.proofs.index.ConcernIndex.file.Goals as goal

pub returns-in_err-file-clause-goes_with : goal.returns-in_err-file-clause-goes_with
returns-in_err-file-clause-goes_with c = record {
  within = c.loop-place.invariant.goes_with.within;
  numbers = λ f. c.in_err-file.ensures.same f ∙ c.loop-place.invariant.goes_with.numbers f;
}

pub loop-place-preserved : goal.loop-place-preserved
loop-place-preserved c =
    let t = c.args.book.now.house in
    let h = c.args.book.now.history in
    let i = c.loop-place.place in
    let e = c.index-entries-place.result in
    let long = ap (λ (l : List Entry). length l) c.history-entries.ensures.value in
    let within : i < length h = omega (arith, long) in
    let there : slice_get h i ≡ Some e = slice_get_read h (length h) i e refl within
    (rw c.history-entries.ensures.value at c.index-entries-place.is) in
    let firms = rw (
      c.house-house.ensures,
      c.house.ensures,
      c.history-entries.ensures.value,
    ) at c.firms_concerned-firms.ensures in
    let was = c.loop-place.invariant in
    let low = was.stays_filed in
    record {
      goes_with = record {
        within = omega (arith, within);
        numbers = λ f.
            c.in_ok-file.ensures.filed f
            ∙ (ap (λ n. filed n (is_among f c.firms_concerned-firms.result)
            (numbers_of c.loop-place.self.by_firm f)) c.at_place.ensures
            ∙ (ap (λ b. filed (i + 1) b (numbers_of c.loop-place.self.by_firm f)) (sym (firms f))
            ∙ (ap (filed (i + 1) (concerns t.house h f e.firm e.command))
            (was.goes_with.numbers f ∙ ap (λ n. numbers_for t.house h n f) was.here)
            ∙ filed_next t.house h i e f there)));
      };
      here = refl;
      stays_filed = omega (arith, low, was.here);
    }
