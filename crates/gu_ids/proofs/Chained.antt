-- An entry at the head of its bucket's chain.
use Rattle.std.proofs.Common.{◌≡◌, ◌≤◌, ◌<◌, ◌⊎◌, inl, inr, ℕ, suc, Bool, true, false, cond, List, length, set, refl}
use Rattle.std.proofs.Common.{sym, ◌∙◌, ap, subst, arith, eqb, ◌≢◌}
use Rattle.std.specs.Prelude.{slice_index_or}
use Rattle.std.proofs.lemmas.Bool.Decides.{eqb_tells}
use Rattle.std.proofs.lemmas.List.{get_or-set_same, get_or-set_other, length-set}
use Rattle.gu_ids.specs.Chains.{is_in, AreChains}
use Rattle.gu_ids.specs.Marks.{bucket_of}
use Rattle.gu_ids.specs.Newest.{newest}
use Rattle.gu_ids.proofs.NewestLaws.{newest_same}

-- the bucket's new head, and the heads of the others
head_by : (heads : List ℕ) (c b k : ℕ) (p : ℕ → Bool) (t : Bool) → eqb c b ≡ t → p k ≡ eqb c b → c < length heads
    → slice_index_or heads b 0 ≡ newest p k → ((t ≡ true) × (c ≡ b)) ⊎ ((t ≡ false) × (c ≢ b))
    → slice_index_or (set heads c (suc k)) b 0 ≡ newest p (suc k)
head_by heads c b k p t test here within before (inl same) =
    ap (λ n. slice_index_or (set heads c (suc k)) n 0) (sym same.1) ∙ (get_or-set_same heads c (suc k) 0 within
    ∙ sym (ap (λ b. cond b (suc k) (newest p k)) (here ∙ (test ∙ same.0))))
head_by heads c b k p t test here within before (inr other) =
    get_or-set_other heads c b (suc k) 0 (λ e. other.1 (sym e))
    ∙ (before ∙ sym (ap (λ b. cond b (suc k) (newest p k)) (here ∙ (test ∙ other.0))))

-- the (k + 1)-th entry, of this hash, put at the head of its bucket; of hashes and of what stands before each entry,
-- the first k stay
module _ (hashes hashes' befores befores' heads : List ℕ) (k hash : ℕ)
    (same : (j : ℕ) → j < k → slice_index_or hashes' j 0 ≡ slice_index_or hashes j 0)
    (here : slice_index_or hashes' k 0 ≡ hash)
    (same_before : (j : ℕ) → j < k → slice_index_or befores' j 0 ≡ slice_index_or befores j 0)
    (before : slice_index_or befores' k 0 ≡ slice_index_or heads (bucket_of hash (length heads)) 0)
    (within : bucket_of hash (length heads) < length heads) (are : AreChains hashes befores heads k) where
  -- the first k fall into the same buckets
  in_same : (b m : ℕ) → m ≤ k → newest (is_in hashes' (length heads) b) m ≡ newest (is_in hashes (length heads) b) m
  in_same b m few = newest_same (is_in hashes' (length heads) b) (is_in hashes (length heads) b) m
      (λ j less. ap (λ x. eqb (bucket_of x (length heads)) b) (same j (omega (arith, few, less))))

  -- the head of each bucket
  head_of : (b : ℕ) → b < length heads
      → slice_index_or (set heads (bucket_of hash (length heads)) (suc k)) b 0
      ≡ newest (is_in hashes' (length heads) b) (suc k)
  head_of b inside =
      head_by heads (bucket_of hash (length heads)) b k (is_in hashes' (length heads) b)
      (eqb (bucket_of hash (length heads)) b) refl (ap (λ x. eqb (bucket_of x (length heads)) b) here) within
      (are.head b inside ∙ sym (in_same b k (omega arith))) (eqb_tells (bucket_of hash (length heads)) b)

  -- the entry before each in its bucket
  before_by : (j : ℕ) → j < suc k → (j < k) ⊎ (j ≡ k)
      → slice_index_or befores' j 0
      ≡ newest (is_in hashes' (length heads) (bucket_of (slice_index_or hashes' j 0) (length heads))) j
  before_by j less (inl earlier) =
      same_before j earlier ∙ (are.before j earlier
      ∙ (ap (λ x. newest (is_in hashes (length heads) (bucket_of x (length heads))) j) (sym (same j earlier))
      ∙ sym (in_same (bucket_of (slice_index_or hashes' j 0) (length heads)) j (omega (arith, earlier)))))
  before_by j less (inr last) =
      subst (λ j. slice_index_or befores' j 0
      ≡ newest (is_in hashes' (length heads) (bucket_of (slice_index_or hashes' j 0) (length heads))) j)
      (sym last)
      (before
      ∙ (are.head (bucket_of hash (length heads)) within
      ∙ (sym (in_same (bucket_of hash (length heads)) k (omega arith))
      ∙ ap (λ x. newest (is_in hashes' (length heads) (bucket_of x (length heads))) k) (sym here))))

  which : (j : ℕ) → j < suc k → (j < k) ⊎ (j ≡ k)
  which j less = which_by (eqb_tells j k)
    where
      which_by : ((eqb j k ≡ true) × (j ≡ k)) ⊎ ((eqb j k ≡ false) × (j ≢ k)) → (j < k) ⊎ (j ≡ k)
      which_by (inl e) = inr e.1
      which_by (inr e) = let apart = e.1 in inl (omega (arith, less, apart))

  -- so the chains are those of one entry more
  pub chained : AreChains hashes' befores' (set heads (bucket_of hash (length heads)) (suc k)) (suc k)
  chained =
      let new = set heads (bucket_of hash (length heads)) (suc k) in
      let long = length-set heads (bucket_of hash (length heads)) (suc k) in
      record {
        head = λ b inside.
            head_of b (omega (arith, long, inside)) ∙ ap (λ n. newest (is_in hashes' n b) (suc k)) (sym long);
        before = λ j less. before_by j less (which j less)
            ∙ ap (λ n. newest (is_in hashes' n (bucket_of (slice_index_or hashes' j 0) n)) j) (sym long);
      }

  pub chained_as : (heads' : List ℕ) (m : ℕ) → heads' ≡ set heads (bucket_of hash (length heads)) (suc k) → m ≡ suc k
      → AreChains hashes' befores' heads' m
  chained_as heads' m is number =
      subst (λ l. AreChains hashes' befores' l m) (sym is)
      (subst (AreChains hashes' befores' (set heads (bucket_of hash (length heads)) (suc k))) (sym number) chained)
