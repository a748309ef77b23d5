use Rattle.std.proofs.Common.{◌≡◌, ◌<◌, ◌+◌, suc, [], ◌∷◌, ◌++◌, length, take, set, replicate, sym, ◌∙◌, ap, arith}
use Rattle.std.proofs.Math.Seq.{take-suc-set}
use Rattle.std.proofs.lemmas.List.{length-set, replicate_more, take_all}
use Rattle.gu_ids.specs.declared.ids.Bucket.{Bucket}
use Rattle.gu_ids.proofs.ids.vacate.Goals as goal

pub loop-bucket-preserved : goal.loop-bucket-preserved
loop-bucket-preserved c =
    let none : Bucket = record { newest = 0; marks = 0 } in
    let at = c.loop-bucket.invariant in
    let heads = c.loop-bucket.buckets.items in
    let bucket = c.loop-bucket.bucket in
    let next : bucket + 1 ≡ suc bucket = omega arith in
    let inside : bucket < length heads = (let long = at.long in
    omega (arith, long, c.loop-bucket-test.true, c.len-bucket-end.ensures, c.args.buckets.now.ok.0)) in
    record {
      long = length-set heads bucket none ∙ at.long;
      none = ap (λ n. take n (set heads bucket none)) next ∙ (take-suc-set heads bucket none inside
          ∙ (ap (λ l. l ++ none ∷ []) at.none ∙ replicate_more bucket none));
    }

pub returns : goal.returns
returns c =
    let none : Bucket = record { newest = 0; marks = 0 } in
    let at = c.loop-bucket.invariant in
    let heads = c.loop-bucket.buckets.items in
    let all : c.loop-bucket.bucket ≡ length c.args.buckets.now.items =
    omega (
      arith,
      c.loop-bucket-test.false,
      c.loop-bucket.auto.bucket-end,
      c.len-bucket-end.ensures,
      c.args.buckets.now.ok.0,
    ) in
    sym (take_all c.loop-bucket.bucket heads (let long = at.long in omega (arith, long, all)))
    ∙ (at.none ∙ ap (λ n. replicate n none) all)
