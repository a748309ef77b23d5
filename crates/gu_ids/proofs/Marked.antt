-- What is read of a bucket's head, and one head written anew.
use Rattle.std.proofs.Common.{◌≡◌, ◌<◌, ◌⊎◌, inl, inr, ℕ, suc, true, false, List, length, set, sym, ◌∙◌, ap, subst}
use Rattle.std.proofs.Common.{arith, eqb, ◌≢◌}
use Rattle.std.specs.Prelude.{slice_index_or}
use Rattle.std.proofs.lemmas.Bool.Decides.{eqb_tells}
use Rattle.std.proofs.lemmas.List.{get_or-map, get_or-set_same, get_or-set_other, length-set, map-set}
use Rattle.gu_ids.specs.declared.ids.Bucket.{Bucket}
use Rattle.gu_ids.specs.Chains.{newests_of}
use Rattle.gu_ids.specs.Marks.{bucket_of, bears, marks_of, AreMarked}
use Rattle.gu_ids.proofs.Links.{length_map}

module _ (heads : List Bucket) where
  -- there are as many of each
  pub newests_long : length (newests_of heads) ≡ length heads
  newests_long = length_map (λ (h : Bucket). h.newest) heads

  pub marks_long : length (marks_of heads) ≡ length heads
  marks_long = length_map (λ (h : Bucket). h.marks) heads

  module _ (b : ℕ) (h : Bucket) (is : h ≡ slice_index_or heads b h) (within : b < length heads) where
    -- what one head says
    pub newest_read : h.newest ≡ slice_index_or (newests_of heads) b 0
    newest_read = ap (λ (h : Bucket). h.newest) is ∙ sym (get_or-map (λ (h : Bucket). h.newest) heads b h 0 within)

    pub marks_read : h.marks ≡ slice_index_or (marks_of heads) b 0
    marks_read = ap (λ (h : Bucket). h.marks) is ∙ sym (get_or-map (λ (h : Bucket). h.marks) heads b h 0 within)

  -- one head written anew
  pub newests_set : (b : ℕ) (h : Bucket) → newests_of (set heads b h) ≡ set (newests_of heads) b h.newest
  newests_set b h = map-set (λ (h : Bucket). h.newest) heads b h

  pub marks_set : (b : ℕ) (h : Bucket) → marks_of (set heads b h) ≡ set (marks_of heads) b h.marks
  marks_set b h = map-set (λ (h : Bucket). h.marks) heads b h

-- the (k + 1)-th entry, of this hash, marked in its bucket; of hashes the first k stay
module _ (hashes hashes' marks : List ℕ) (k hash new : ℕ)
    (same : (j : ℕ) → j < k → slice_index_or hashes' j 0 ≡ slice_index_or hashes j 0)
    (here : slice_index_or hashes' k 0 ≡ hash) (within : bucket_of hash (length marks) < length marks)
    (own : bears new hash ≡ true)
    (others : (x : ℕ) → bears (slice_index_or marks (bucket_of hash (length marks)) 0) x ≡ true → bears new x ≡ true)
    (are : AreMarked hashes marks k) where
  -- a mark that is there stays
  kept_by : (x : ℕ) → bears (slice_index_or marks (bucket_of x (length marks)) 0) x ≡ true
      → ((eqb (bucket_of x (length marks)) (bucket_of hash (length marks)) ≡ true)
      × (bucket_of x (length marks) ≡ bucket_of hash (length marks)))
      ⊎ ((eqb (bucket_of x (length marks)) (bucket_of hash (length marks)) ≡ false)
      × (bucket_of x (length marks) ≢ bucket_of hash (length marks)))
      → bears (slice_index_or (set marks (bucket_of hash (length marks)) new) (bucket_of x (length marks)) 0) x ≡ true
  kept_by x had (inl e) =
      ap (λ b. bears (slice_index_or (set marks (bucket_of hash (length marks)) new) b 0) x) e.1
      ∙ (ap (λ m. bears m x) (get_or-set_same marks (bucket_of hash (length marks)) new 0 within)
      ∙ others x (ap (λ b. bears (slice_index_or marks b 0) x) (sym e.1) ∙ had))
  kept_by x had (inr e) =
      ap (λ m. bears m x)
      (get_or-set_other marks (bucket_of hash (length marks)) (bucket_of x (length marks)) new 0 e.1)
      ∙ had

  kept : (x : ℕ) → bears (slice_index_or marks (bucket_of x (length marks)) 0) x ≡ true
      → bears (slice_index_or (set marks (bucket_of hash (length marks)) new) (bucket_of x (length marks)) 0) x ≡ true
  kept x had = kept_by x had (eqb_tells (bucket_of x (length marks)) (bucket_of hash (length marks)))

  -- the entry before, or the new one
  marked_by : (j : ℕ) → ((eqb j k ≡ true) × (j ≡ k)) ⊎ ((eqb j k ≡ false) × (j ≢ k)) → j < suc k
      → bears (slice_index_or (set marks (bucket_of hash (length marks)) new)
      (bucket_of (slice_index_or hashes' j 0) (length marks)) 0)
      (slice_index_or hashes' j 0)
      ≡ true
  marked_by j (inl e) less =
      ap (λ x. bears (slice_index_or (set marks (bucket_of hash (length marks)) new) (bucket_of x (length marks)) 0) x)
      (ap (λ j. slice_index_or hashes' j 0) e.1 ∙ here)
      ∙ (ap (λ m. bears m hash) (get_or-set_same marks (bucket_of hash (length marks)) new 0 within) ∙ own)
  marked_by j (inr e) less =
      let apart = e.1 in
      let earlier : j < k = omega (arith, less, apart) in
      ap (λ x. bears (slice_index_or (set marks (bucket_of hash (length marks)) new) (bucket_of x (length marks)) 0) x)
      (same j earlier)
      ∙ kept (slice_index_or hashes j 0) (are j earlier)

  -- so each has its marks
  pub marked : AreMarked hashes' (set marks (bucket_of hash (length marks)) new) (suc k)
  marked j less =
      ap (λ n.
      bears
      (slice_index_or (set marks (bucket_of hash (length marks)) new) (bucket_of (slice_index_or hashes' j 0) n) 0)
      (slice_index_or hashes' j 0))
      (length-set marks (bucket_of hash (length marks)) new)
      ∙ marked_by j (eqb_tells j k) less

  pub marked_as : (marks' : List ℕ) (m : ℕ) → marks' ≡ set marks (bucket_of hash (length marks)) new → m ≡ suc k
      → AreMarked hashes' marks' m
  marked_as marks' m is number =
      subst (λ l. AreMarked hashes' l m) (sym is)
      (subst (AreMarked hashes' (set marks (bucket_of hash (length marks)) new)) (sym number) marked)
