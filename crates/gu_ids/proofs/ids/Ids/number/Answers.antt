use Rattle.std.proofs.Common.{◌≡◌, ◌<◌, length, sym, ◌∙◌, ap, arith}
use Rattle.std.specs.Prelude.{slice_index_or}
use Rattle.gu_ids.specs.Hashing.{hash_of}
use Rattle.gu_ids.specs.Chains.{newests_of}
use Rattle.gu_ids.specs.Marks.{bucket_of, bears, marks_of}
use Rattle.gu_ids.proofs.Marked.{newests_long, marks_long, newest_read, marks_read}
use Rattle.gu_ids.proofs.Walk.{walk_begins, none_marked}
use Rattle.gu_ids.proofs.ids.Ids.number.Goals.{After-index-kept}
use Rattle.gu_ids.proofs.ids.Ids.number.Goals as goal

-- the bucket of the firm and the id, and what is kept of it
read_kept : (c : After-index-kept) → record {
  is : c.bucket_of-bucket.result
      ≡ bucket_of (hash_of c.args.self.now.key c.args.firm.now c.args.id.now) (length c.args.self.now.buckets.items);
  inside : c.bucket_of-bucket.result < length c.args.self.now.buckets.items;
}
read_kept c =
    let ids = c.args.self.now in
    let full = ids.buckets.ok.0 in
    let len : c.len.result ≡ length ids.buckets.items = omega (arith, c.len.ensures, full) in
    record {
      is = c.bucket_of-bucket.ensures.value
          ∙ (ap (λ x. bucket_of x c.len.result) c.under-hash.ensures
          ∙ ap (bucket_of (hash_of c.args.self.now.key c.args.firm.now c.args.id.now)) len);
      inside = omega (arith, len, c.bucket_of-bucket.ensures.within);
    }

pub returns-then-not-bears : goal.returns-then-not-bears
returns-then-not-bears c =
    let ids = c.args.self.now in
    let heads = ids.buckets.items in
    let hash = hash_of c.args.self.now.key c.args.firm.now c.args.id.now in
    let at = read_kept (goal.at.returns-then-not-bears c).After-index-kept in
    let long = marks_long heads in
    let is : c.bucket_of-bucket.result ≡ bucket_of hash (length (marks_of heads)) =
    at.is ∙ ap (bucket_of hash) (sym long) in
    sym (none_marked ids c.args.entries.now c.args.firm.now c.args.id.now c.requires.ids
    (ap (λ b. bears (slice_index_or (marks_of heads) b 0) hash) (sym is)
    ∙ (ap (λ m. bears m hash)
    (sym (marks_read heads c.bucket_of-bucket.result c.index-kept.result.now c.index-kept.ensures at.inside))
    ∙ (ap (bears c.index-kept.result.now.marks) (sym c.under-hash.ensures)
    ∙ (sym c.bears.ensures ∙ c.if-not-bears.true)))))

pub walk-requires-clause-stands : goal.walk-requires-clause-stands
walk-requires-clause-stands c =
    let ids = c.args.self.now in
    let heads = ids.buckets.items in
    let hash = hash_of c.args.self.now.key c.args.firm.now c.args.id.now in
    let at = read_kept (goal.at.walk-requires-clause-stands c).After-index-kept in
    let long = newests_long heads in
    let is : c.bucket_of-bucket.result ≡ bucket_of hash (length (newests_of heads)) =
    at.is ∙ ap (bucket_of hash) (sym long) in
    let inside = at.inside in
    walk_begins ids c.args.entries.now c.args.firm.now c.args.id.now c.requires.ids (omega (arith, is, inside, long))
    c.index-kept.result.now.newest
    (newest_read heads c.bucket_of-bucket.result c.index-kept.result.now c.index-kept.ensures inside
    ∙ ap (λ b. slice_index_or (newests_of heads) b 0) is)
