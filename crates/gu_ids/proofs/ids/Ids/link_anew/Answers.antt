use Rattle.std.proofs.Common.{◌≡◌, ◌<◌, ◌+◌, suc, length, set, refl, sym, ◌∙◌, ap, arith}
use Rattle.std.specs.Prelude.{slice_index_or}
use Rattle.std.proofs.lemmas.List.{length-set, get_or-map, get_or-replicate}
use Rattle.gu_ids.specs.declared.ids.Bucket.{Bucket}
use Rattle.gu_ids.specs.declared.ids.Link.{Link}
use Rattle.gu_ids.specs.Chains.{hashes_of, newests_of}
use Rattle.gu_ids.specs.Marks.{bucket_of, bears, marks_of}
use Rattle.gu_ids.proofs.Links.{hashes_stay, links_set}
use Rattle.gu_ids.proofs.Marked.{newests_long, marks_long, newest_read, marks_read, newests_set, marks_set, marked_as}
use Rattle.gu_ids.proofs.ids.Ids.link_anew.Goals as goal

pub loop-place-preserved : goal.loop-place-preserved
loop-place-preserved c =
    let at = c.loop-place.invariant in
    let links = c.loop-place.self.links.items in
    let heads = c.loop-place.self.buckets.items in
    let place = c.loop-place.place in
    let head = c.index-kept.result.now in
    let link : Link = record { hash = c.index.result.now.hash; before = head.newest } in
    let bucket = c.bucket_of-bucket.result in
    let new = c.with.result in
    let newests = newests_long heads in
    let marks = marks_long heads in
    let len : c.len-buckets.result ≡ length heads = sym at.buckets in
    let is : bucket ≡ bucket_of link.hash (length heads) =
    c.bucket_of-bucket.ensures.value ∙ ap (bucket_of link.hash) len in
    let is_newest : bucket ≡ bucket_of link.hash (length (newests_of heads)) =
    is ∙ ap (bucket_of link.hash) (sym newests) in
    let is_mark : bucket ≡ bucket_of link.hash (length (marks_of heads)) = is ∙ ap (bucket_of link.hash) (sym marks) in
    let inside : bucket < length heads = omega (arith, len, c.bucket_of-bucket.ensures.within) in
    let number : place + 1 ≡ suc place = omega arith in
    let numbered : new.newest ≡ suc place = c.with.ensures.newest ∙ number in
    let count = at.count in
    let full = c.args.self.now.links.ok.0 in
    let more = c.loop-place-test.true in
    let there : place < length links = omega (arith, more, c.len-place-end.ensures, count, full) in
    let stay = hashes_stay links (newests_of heads) place c.index.result.now link c.index.ensures refl in
    let hash_there : slice_index_or (hashes_of links) place 0 ≡ link.hash =
    get_or-map (λ (l : Link). l.hash) links place c.index.result.now 0 there
    ∙ ap (λ (l : Link). l.hash) (sym c.index.ensures) in
    record {
      hashes = stay ∙ at.hashes;
      buckets = length-set heads bucket new ∙ at.buckets;
      count = length-set links place link ∙ at.count;
      key = at.key;
      chains = links_set links (newests_of heads) place c.index.result.now link c.index.ensures there refl at.chains
          (omega (arith, is_newest, inside, newests))
          (newest_read heads bucket head c.index-kept.ensures inside
          ∙ ap (λ b. slice_index_or (newests_of heads) b 0) is_newest)
          (newests_of (set heads bucket new)) (place + 1)
          (newests_set heads bucket new
          ∙ (ap (λ n. set (newests_of heads) bucket n) numbered
          ∙ ap (λ b. set (newests_of heads) b (suc place)) is_newest))
          number;
      marked = marked_as (hashes_of links) (hashes_of (set links place link)) (marks_of heads) place link.hash new.marks
          (λ j less. ap (λ l. slice_index_or l j 0) stay) (ap (λ l. slice_index_or l place 0) stay ∙ hash_there)
          (omega (arith, is_mark, inside, marks)) c.with.ensures.own
          (λ x had.
          c.with.ensures.others x
          (ap (λ m. bears m x)
          (marks_read heads bucket head c.index-kept.ensures inside
          ∙ ap (λ b. slice_index_or (marks_of heads) b 0) is_mark)
          ∙ had))
          at.marked (marks_of (set heads bucket new)) (place + 1)
          (marks_set heads bucket new ∙ ap (λ b. set (marks_of heads) b new.marks) is_mark) number;
    }

pub loop-place-init : goal.loop-place-init
loop-place-init c =
    let none : Bucket = record { newest = 0; marks = 0 } in
    let heads = c.args.self.now.buckets.items in
    let longer = newests_long heads in
    record {
      hashes = refl;
      buckets = omega (arith, c.len-buckets.ensures, c.args.self.now.buckets.ok.0);
      count = refl;
      key = refl;
      chains = record {
        head = λ b inside.
            get_or-map (λ (h : Bucket). h.newest) heads b none 0 (omega (arith, inside, longer))
            ∙ (ap (λ l. (slice_index_or l b none).newest) c.requires.new
            ∙ ap (λ (h : Bucket). h.newest)
            (get_or-replicate (length heads) b none none (omega (arith, inside, longer))));
        before = λ j less. absurd (omega (arith, less));
      };
      marked = λ j less. absurd (omega (arith, less));
    }
