use Rattle.std.proofs.Common.{◌≡◌, ◌<◌, ◌≤◌, ◌+◌, ◌*◌, ◌/◌, ◌%◌, ◌^◌, length, take, sym, ◌∙◌, ap, arith}
use Rattle.std.specs.Prelude.{fold, slice_index_or}
use Rattle.std.proofs.lemmas.List.Sums.{fold_more}
use Rattle.gu_base.specs.Limits.{longest_id}
use Rattle.gu_ids.specs.Hashing.{taken, taken_of, room_of, padded}
use Rattle.gu_ids.proofs.hash.take_long_id.Goals as goal

pub loop-place-preserved : goal.loop-place-preserved
loop-place-preserved c =
    let words = c.words_of_id-words.result in
    let place = c.loop-place.place in
    let four = ap length c.words_of_id-words.ensures in
    c.take-taken.ensures ∙ (ap (λ s. taken s (slice_index_or words place 0)) c.loop-place.invariant
    ∙ sym (fold_more taken c.args.state words place 0 (omega (arith, four, c.loop-place-test.true, c.requires))))

pub returns : goal.returns
returns c =
    let words = c.words_of_id-words.result in
    let whole : c.loop-place.place ≡ c.args.count / 8 =
    omega (arith, c.loop-place-test.false, c.loop-place.auto.place-end) in
    let at = c.args.count / 8 in
    let n = c.args.count % 8 in
    c.take.ensures
    ∙ (ap (taken c.loop-place.taken) c.first_bytes.ensures
    ∙ (ap (λ s. taken s (slice_index_or words at 0 % 2 ^ (8 * n)))
    (c.loop-place.invariant ∙ ap (λ k. fold taken c.args.state (take k words)) whole)
    ∙ ap (λ l. taken (fold taken c.args.state (take at l)) (slice_index_or l at 0 % 2 ^ (8 * n)))
    c.words_of_id-words.ensures))
