use Rattle.gu_fees.proofs.pair.PairTerms.first_over.Goals as goal
use Rattle.gu_base.specs.Dealt.{first_over, leave_out}
use Rattle.gu_fees.proofs.Dealings.{deed_kept, dealings_without}
use Rattle.gu_fees.specs.{Blocks.{deeds_in, goes_on}, Pairs.dealings_of}
use Rattle.gu_sums.specs.{Filed.kept_in, Filing.without}
use Rattle.std.proofs.Common.{ap, drop, Err, None, Ok, Option, refl, Result, Some, sym, take, [], ℕ, ◌++◌, ◌+◌, ◌∙◌}
use Rattle.std.proofs.{Common.◌≡◌, lemmas.List.append-nil}
use Rattle.std.specs.{Prelude.IfSome, Result.result_err}

-- a walk behind which nothing stands
ends : (r : Result ℕ ℕ) → goes_on r [] ≡ result_err r
ends (Ok room) = refl
ends (Err n) = refl

always : {A P : Type 0} (o : Option A) → P → IfSome o (λ _. P)
always None p = tt
always (Some _) p = p

pub returns-in_err-place : goal.returns-in_err-place
returns-in_err-place c =
    rw (← c.self.view_is, deed_kept c.self.inside.deeds.filed.kept c.args.entry, c.in_err-place.ensures.absent) tt

pub returns : goal.returns
returns c =
    let fs = c.self.inside.deeds.all in
    let p = c.in_ok-place.place in
    let kept = c.self.inside.deeds.filed.kept in
    let same : kept_in fs ≡ kept = rw c.all.ensures.all at c.all.ensures.kept in
    let left : leave_out c.args.entry (dealings_of kept) ≡ deeds_in (take p fs ++ drop (p + 1) fs) =
    sym (dealings_without kept c.args.entry)
    ∙ ap (λ l. dealings_of l) (ap (λ l. without c.args.entry l) (sym same) ∙ c.in_ok-place.ensures.found.left) in
    let walked = rw (c.all.ensures.all, append-nil) at (c.walk_without.ensures []) in
    rw (← c.self.view_is)
    (always _ (c.err.ensures.value
    ∙ (sym (ends c.walk_without.result) ∙ (sym walked ∙ ap (first_over c.args.limit 0) (sym left)))))
