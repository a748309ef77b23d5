use Rattle.std.proofs.Common.{◌≡◌, ◌<◌, suc, List, [], ◌∷◌, ◌++◌, length, map, set, sym, ◌∙◌, ap, subst, arith}
use Rattle.std.specs.Prelude.{slice_index_or}
use Rattle.std.proofs.lemmas.List.{length-set, get_or_push, get_or_append_left}
use Rattle.gu_base.specs.declared.entry.Entry.{Entry}
use Rattle.gu_ids.specs.declared.ids.Link.{Link}
use Rattle.gu_ids.specs.Hashing.{hash_of}
use Rattle.gu_ids.specs.Chains.{hashes_of, befores_of, newests_of, AreChains}
use Rattle.gu_ids.specs.Marks.{bucket_of, bears, marks_of, AreMarked}
use Rattle.gu_ids.proofs.Links.{links_pushed, map_push, length_push, length_map}
use Rattle.gu_ids.proofs.Marked.{newests_long, marks_long, newest_read, marks_read, newests_set, marks_set, marked_as}
use Rattle.gu_ids.proofs.ids.Ids.file.Goals as goal

pub returns-clause-filed : goal.returns-clause-filed
returns-clause-filed c h e hashed are =
    let ids = c.args.self.now in
    let heads = ids.buckets.items in
    let head = c.index-kept.result.now in
    let link : Link = record { hash = c.args.hash; before = head.newest } in
    let full = ids.buckets.ok.0 in
    let bucket = c.bucket_of-bucket.result in
    let new = c.with.result in
    let len : c.len.result ≡ length heads = omega (arith, c.len.ensures, full) in
    let newests = newests_long heads in
    let marks = marks_long heads in
    let is : bucket ≡ bucket_of link.hash (length heads) =
    c.bucket_of-bucket.ensures.value ∙ ap (bucket_of link.hash) len in
    let is_newest : bucket ≡ bucket_of link.hash (length (newests_of heads)) =
    is ∙ ap (bucket_of link.hash) (sym newests) in
    let is_mark : bucket ≡ bucket_of link.hash (length (marks_of heads)) = is ∙ ap (bucket_of link.hash) (sym marks) in
    let inside : bucket < length heads = omega (arith, len, c.bucket_of-bucket.ensures.within) in
    let longer = length_push ids.links.items link in
    let full_links = c.push_reserved.new.self.ok.0 in
    let pushed = ap length c.push_reserved.ensures.items in
    let number : new.newest ≡ suc (length ids.links.items) =
    let is = c.with.ensures.newest in omega (arith, is, c.len-2.ensures, full_links, pushed, longer) in
    let few = c.requires.ready.buckets in
    let same = length-set heads bucket new in
    let hs = hashes_of ids.links.items in
    let hs_long : length hs ≡ length ids.links.items = length_map (λ (l : Link). l.hash) ids.links.items in
    let hs_is : hashes_of (ids.links.items ++ link ∷ []) ≡ hs ++ link.hash ∷ [] =
    map_push (λ (l : Link). l.hash) ids.links.items link in
    record {
      hashes = ap hashes_of c.push_reserved.ensures.items
          ∙ (hs_is
          ∙ (ap (λ l. l ++ link.hash ∷ []) are.hashes
          ∙ (ap (λ x. map (λ (e : Entry). hash_of ids.key e.firm e.id) h ++ x ∷ []) hashed
          ∙ sym (map_push (λ (e : Entry). hash_of ids.key e.firm e.id) h e))));
      chains =
          subst
          (λ (l : List Link). AreChains (hashes_of l) (befores_of l) (newests_of (set heads bucket new)) (length l))
          (sym c.push_reserved.ensures.items)
          (links_pushed ids.links.items (newests_of heads) link are.chains (omega (arith, is_newest, inside, newests))
          (newest_read heads bucket head c.index-kept.ensures inside
          ∙ ap (λ b. slice_index_or (newests_of heads) b 0) is_newest)
          (newests_of (set heads bucket new)) (length (ids.links.items ++ link ∷ []))
          (newests_set heads bucket new
          ∙ (ap (λ n. set (newests_of heads) bucket n) number
          ∙ ap (λ b. set (newests_of heads) b (suc (length ids.links.items))) is_newest))
          longer);
      marked = subst (λ (l : List Link). AreMarked (hashes_of l) (marks_of (set heads bucket new)) (length l))
          (sym c.push_reserved.ensures.items)
          (marked_as hs (hashes_of (ids.links.items ++ link ∷ [])) (marks_of heads) (length ids.links.items) link.hash
          new.marks
          (λ j less. ap (λ x. slice_index_or x j 0) hs_is
          ∙ get_or_append_left hs (link.hash ∷ []) 0 j (omega (arith, hs_long, less)))
          (ap (λ x. slice_index_or x (length ids.links.items) 0) hs_is
          ∙ get_or_push hs link.hash 0 (length ids.links.items) hs_long)
          (omega (arith, is_mark, inside, marks)) c.with.ensures.own
          (λ x had.
          c.with.ensures.others x
          (ap (λ m. bears m x)
          (marks_read heads bucket head c.index-kept.ensures inside
          ∙ ap (λ b. slice_index_or (marks_of heads) b 0) is_mark)
          ∙ had))
          are.marked (marks_of (set heads bucket new)) (length (ids.links.items ++ link ∷ []))
          (marks_set heads bucket new ∙ ap (λ b. set (marks_of heads) b new.marks) is_mark) longer);
      few = omega (arith, pushed, longer, few, same);
    }
