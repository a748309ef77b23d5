-- The way along a chain, from an entry to the one before it in its bucket.
use Rattle.std.proofs.Common.{◌≡◌, ◌≤◌, ◌<◌, ℕ, zero, suc, Bool, true, false, cond, ◌&&◌, List, [], ◌∷◌, length, map}
use Rattle.std.proofs.Common.{sym, ◌∙◌, ap, subst, arith, eqb}
use Rattle.std.specs.Prelude.{Some, None, slice_index_or, bytes_eq}
use Rattle.std.proofs.lemmas.Bool.{and_parts, eq-eqb, eqb-true}
use Rattle.std.proofs.lemmas.List.{get_or-map}
use Rattle.std.proofs.lemmas.Slice.Eq.{bytes_eq-Decides}
use Rattle.gu_base.specs.declared.entry.Entry.{Entry}
use Rattle.gu_ids.specs.declared.ids.Ids.{Ids}
use Rattle.gu_ids.specs.declared.ids.Link.{Link}
use Rattle.gu_ids.specs.declared.hash.HashKey.{HashKey}
use Rattle.gu_ids.specs.Hashing.{hash_of}
use Rattle.gu_ids.specs.Chains.{hashes_of, befores_of, newests_of, is_in, AreIdsOf, Stands, chain, count}
use Rattle.gu_ids.specs.Marks.{bucket_of, bears, marks_of}
use Rattle.gu_ids.specs.Newest.{newest, is_of, is_at, unless_zero, newest_of}
use Rattle.gu_ids.proofs.Links.{length_map}
use Rattle.gu_ids.proofs.NewestLaws.{newest_within, newest_again, newest_there, newest_skips, newest_none, fails_too}

-- as many entries are kept as the history has
pub count_is : (ids : Ids) (h : List Entry) → AreIdsOf ids h → count ids ≡ length h
count_is ids h are =
    sym (length_map (λ (l : Link). l.hash) ids.links.items)
    ∙ (ap length are.hashes ∙ length_map (λ (e : Entry). hash_of ids.key e.firm e.id) h)

-- an entry of a firm and id has their hash
same_hash : (key : HashKey) (firm id : List ℕ) (h : List Entry) (j : ℕ)
    → slice_index_or (map (is_of firm id) h) j false ≡ true
    → slice_index_or (map (λ (e : Entry). hash_of key e.firm e.id) h) j 0 ≡ hash_of key firm id
same_hash key firm id [] zero e = absurd (cc)
same_hash key firm id [] (suc j) e = absurd (cc)
same_hash key firm id (d ∷ h) zero e =
    let p = and_parts (bytes_eq d.firm firm) (bytes_eq d.id id) e in
    ap (λ f. hash_of key f d.id) ((bytes_eq-Decides d.firm firm).0 p.0)
    ∙ ap (hash_of key firm) ((bytes_eq-Decides d.id id).0 p.1)
same_hash key firm id (d ∷ h) (suc j) e = same_hash key firm id h j e

both_true : (a b : Bool) → a ≡ true → b ≡ true → (a && b) ≡ true
both_true a b x y = ap (λ c. c && b) x ∙ y

module _ (ids : Ids) (h : List Entry) (firm id : List ℕ) (are : AreIdsOf ids h) where
  in_chain : (j : ℕ) → is_at h firm id j ≡ true → (chain ids firm id) j ≡ true
  in_chain j e =
      eq-eqb (bucket_of (slice_index_or (hashes_of ids.links.items) j 0) (length (newests_of ids.buckets.items)))
      (bucket_of (hash_of ids.key firm id) (length (newests_of ids.buckets.items)))
      (ap (λ l. bucket_of (slice_index_or l j 0) (length (newests_of ids.buckets.items))) are.hashes
      ∙ ap (λ x. bucket_of x (length (newests_of ids.buckets.items))) (same_hash ids.key firm id h j e))

  pub walk_begins : bucket_of (hash_of ids.key firm id) (length (newests_of ids.buckets.items))
      < length (newests_of ids.buckets.items)
      → (number : ℕ)
      → number ≡ slice_index_or (newests_of ids.buckets.items)
      (bucket_of (hash_of ids.key firm id) (length (newests_of ids.buckets.items))) 0
      → Stands ids h firm id number
  walk_begins within number is =
      let head : number ≡ newest (chain ids firm id) (length h) = is
      ∙ (are.chains.head (bucket_of (hash_of ids.key firm id) (length (newests_of ids.buckets.items))) within
      ∙ ap (newest (chain ids firm id)) (count_is ids h are)) in
      subst (Stands ids h firm id) (sym head) (record {
        so_far = sym (newest_skips (is_at h firm id) (chain ids firm id) (length h) in_chain);
        within = newest_within (chain ids firm id) (length h);
        chained = newest_again (chain ids firm id) (length h);
      })

  module _ (k : ℕ) (at : Stands ids h firm id (suc k)) where
    -- the entry before this one in the bucket
    pub before_it : slice_index_or (befores_of ids.links.items) k 0 ≡ newest (chain ids firm id) k
    before_it =
        let within = at.within in
        are.chains.before k (let many = count_is ids h are in omega (arith, within, many))
        ∙ ap (λ b. newest (is_in (hashes_of ids.links.items) (length (newests_of ids.buckets.items)) b) k)
        (eqb-true (bucket_of (slice_index_or (hashes_of ids.links.items) k 0) (length (newests_of ids.buckets.items)))
        (bucket_of (hash_of ids.key firm id) (length (newests_of ids.buckets.items)))
        (newest_there (chain ids firm id) k at.chained))

    pub walk_goes_on : (number : ℕ) → number ≡ slice_index_or (befores_of ids.links.items) k 0
        → is_at h firm id k ≡ false → Stands ids h firm id number
    walk_goes_on number is other =
        let within = at.within in
        let least = newest_within (chain ids firm id) k in
        subst (Stands ids h firm id) (sym (is ∙ before_it)) (record {
          so_far = sym (newest_skips (is_at h firm id) (chain ids firm id) k in_chain)
              ∙ (sym (ap (λ b. cond b (suc k) (newest (is_at h firm id) k)) other) ∙ at.so_far);
          within = omega (arith, within, least);
          chained = newest_again (chain ids firm id) k;
        })

    pub walk_sinks : (number : ℕ) → number ≡ slice_index_or (befores_of ids.links.items) k 0 → number ≤ k
    walk_sinks number is =
        let is_newest = is ∙ before_it in
        let least = newest_within (chain ids firm id) k in
        omega (arith, is_newest, least)

    pub walk_finds : is_at h firm id k ≡ true → newest_of h firm id ≡ Some (suc k)
    walk_finds here =
        sym (ap unless_zero at.so_far) ∙ ap (λ b. unless_zero (cond b (suc k) (newest (is_at h firm id) k))) here

  -- what the walk reads of the entry at a place
  pub is_read : (place : ℕ) (e : Entry) → e ≡ slice_index_or h place e → place < length h
      → is_at h firm id place ≡ is_of firm id e
  is_read place e is within = get_or-map (is_of firm id) h place e false within ∙ ap (is_of firm id) (sym is)

  -- an entry whose hash is another is not the one
  pub other_hash : (place : ℕ) (l : Link) → l ≡ slice_index_or ids.links.items place l → place < count ids
      → is_at h firm id place ≡ true → l.hash ≡ hash_of ids.key firm id
  other_hash place l is within e =
      ap (λ (l : Link). l.hash) is ∙ (sym (get_or-map (λ (l : Link). l.hash) ids.links.items place l 0 within)
      ∙ (ap (λ x. slice_index_or x place 0) are.hashes ∙ same_hash ids.key firm id h place e))

  pub read_before : (place : ℕ) (l : Link) → l ≡ slice_index_or ids.links.items place l → place < count ids
      → l.before ≡ slice_index_or (befores_of ids.links.items) place 0
  read_before place l is within =
      ap (λ (l : Link). l.before) is ∙ sym (get_or-map (λ (l : Link). l.before) ids.links.items place l 0 within)

  -- nor is one that was asked and isn't
  pub not_here : (place : ℕ) (l : Link) (e : Entry) (hash : ℕ) → hash ≡ hash_of ids.key firm id
      → l ≡ slice_index_or ids.links.items place l → place < count ids → e ≡ slice_index_or h place e
      → (eqb l.hash hash && is_of firm id e) ≡ false → is_at h firm id place ≡ false
  not_here place l e hash hash_is link_is within entry_is asked =
      fails_too (is_at h firm id place) (eqb l.hash hash && is_of firm id e)
      (λ t.
      both_true (eqb l.hash hash) (is_of firm id e)
      (eq-eqb l.hash hash (other_hash place l link_is within t ∙ sym hash_is))
      (sym (is_read place e entry_is (let many = count_is ids h are in omega (arith, many, within))) ∙ t))
      asked

  -- no entry has an id of whose marks its bucket lacks one
  pub none_marked : bears
      (slice_index_or (marks_of ids.buckets.items)
      (bucket_of (hash_of ids.key firm id) (length (marks_of ids.buckets.items))) 0)
      (hash_of ids.key firm id)
      ≡ false
      → newest_of h firm id ≡ None
  none_marked lacks =
      let marks = marks_of ids.buckets.items in
      let hash = hash_of ids.key firm id in
      ap unless_zero
      (newest_none (is_at h firm id) (length h) (λ j less.
      fails_too (is_at h firm id j) (bears (slice_index_or marks (bucket_of hash (length marks)) 0) hash) (λ t.
      let is : slice_index_or (hashes_of ids.links.items) j 0 ≡ hash =
      ap (λ l. slice_index_or l j 0) are.hashes ∙ same_hash ids.key firm id h j t in
      ap (λ x. bears (slice_index_or marks (bucket_of x (length marks)) 0) x) (sym is)
      ∙ are.marked j (let many = count_is ids h are in omega (arith, many, less))) lacks))
