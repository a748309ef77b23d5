-- The links of a history's entries, with one more, and with one linked anew.
use Rattle.std.proofs.Common.{◌≡◌, ◌<◌, ℕ, suc, List, [], ◌∷◌, ◌++◌, length, map, set, refl, sym, ◌∙◌, ap, arith}
use Rattle.std.specs.Prelude.{slice_index_or}
use Rattle.std.proofs.lemmas.List.{get_or-map, get_or_push, get_or_append_left, get_or-set_same, get_or-set_other}
use Rattle.std.proofs.lemmas.List.{map-set}
use Rattle.std.proofs.Math.Seq.{map-set_same}
use Rattle.gu_ids.specs.declared.ids.Link.{Link}
use Rattle.gu_ids.specs.Chains.{hashes_of, befores_of, AreChains}
use Rattle.gu_ids.specs.Marks.{bucket_of}
use Rattle.gu_ids.proofs.Chained.{chained_as}

pub map_push : {X Y : Type 0} (f : X → Y) (xs : List X) (y : X) → map f (xs ++ y ∷ []) ≡ map f xs ++ f y ∷ []
map_push f [] y = refl
map_push f (x ∷ xs) y = ap (λ l. f x ∷ l) (map_push f xs y)

pub length_map : {X Y : Type 0} (f : X → Y) (xs : List X) → length (map f xs) ≡ length xs
length_map f [] = refl
length_map f (x ∷ xs) = ap suc (length_map f xs)

pub length_push : {X : Type 0} (xs : List X) (y : X) → length (xs ++ y ∷ []) ≡ suc (length xs)
length_push [] y = refl
length_push (x ∷ xs) y = ap suc (length_push xs y)

module _ (links : List Link) (heads : List ℕ) where
  -- a link at the end
  pub links_pushed : (l : Link) → AreChains (hashes_of links) (befores_of links) heads (length links)
      → bucket_of l.hash (length heads) < length heads
      → l.before ≡ slice_index_or heads (bucket_of l.hash (length heads)) 0 → (heads' : List ℕ) (m : ℕ)
      → heads' ≡ set heads (bucket_of l.hash (length heads)) (suc (length links)) → m ≡ suc (length links)
      → AreChains (hashes_of (links ++ l ∷ [])) (befores_of (links ++ l ∷ [])) heads' m
  links_pushed l are within before heads' m is number =
      let hs = hashes_of links in
      let bs = befores_of links in
      let hs_long : length hs ≡ length links = length_map (λ (l : Link). l.hash) links in
      let bs_long : length bs ≡ length links = length_map (λ (l : Link). l.before) links in
      let hs_is : hashes_of (links ++ l ∷ []) ≡ hs ++ l.hash ∷ [] = map_push (λ (l : Link). l.hash) links l in
      let bs_is : befores_of (links ++ l ∷ []) ≡ bs ++ l.before ∷ [] = map_push (λ (l : Link). l.before) links l in
      chained_as hs (hashes_of (links ++ l ∷ [])) bs (befores_of (links ++ l ∷ [])) heads (length links) l.hash
      (λ j less.
      ap (λ x. slice_index_or x j 0) hs_is ∙ get_or_append_left hs (l.hash ∷ []) 0 j (omega (arith, hs_long, less)))
      (ap (λ x. slice_index_or x (length links) 0) hs_is ∙ get_or_push hs l.hash 0 (length links) hs_long)
      (λ j less.
      ap (λ x. slice_index_or x j 0) bs_is ∙ get_or_append_left bs (l.before ∷ []) 0 j (omega (arith, bs_long, less)))
      (ap (λ x. slice_index_or x (length links) 0) bs_is ∙ (get_or_push bs l.before 0 (length links) bs_long ∙ before))
      within are heads' m is number

  -- the hashes stay where a link takes the place of another of the same hash
  pub hashes_stay : (place : ℕ) (x l : Link) → x ≡ slice_index_or links place x → l.hash ≡ x.hash
      → hashes_of (set links place l) ≡ hashes_of links
  hashes_stay place x l is same =
      map-set_same (λ (l : Link). l.hash) links place l x (same ∙ ap (λ (l : Link). l.hash) is)

  -- a link in the place of another
  pub links_set : (place : ℕ) (x l : Link) → x ≡ slice_index_or links place x → place < length links → l.hash ≡ x.hash
      → AreChains (hashes_of links) (befores_of links) heads place → bucket_of l.hash (length heads) < length heads
      → l.before ≡ slice_index_or heads (bucket_of l.hash (length heads)) 0 → (heads' : List ℕ) (m : ℕ)
      → heads' ≡ set heads (bucket_of l.hash (length heads)) (suc place) → m ≡ suc place
      → AreChains (hashes_of (set links place l)) (befores_of (set links place l)) heads' m
  links_set place x l here inside same are within before heads' m is number =
      let hs = hashes_of links in
      let bs = befores_of links in
      let bs_long : length bs ≡ length links = length_map (λ (l : Link). l.before) links in
      let hs_is : hashes_of (set links place l) ≡ hs = hashes_stay place x l here same in
      let bs_is : befores_of (set links place l) ≡ set bs place l.before =
      map-set (λ (l : Link). l.before) links place l in
      chained_as hs (hashes_of (set links place l)) bs (befores_of (set links place l)) heads place l.hash
      (λ j less. ap (λ x. slice_index_or x j 0) hs_is)
      (ap (λ x. slice_index_or x place 0) hs_is
      ∙ (get_or-map (λ (l : Link). l.hash) links place x 0 inside ∙ (ap (λ (l : Link). l.hash) (sym here) ∙ sym same)))
      (λ j less. ap (λ x. slice_index_or x j 0) bs_is
      ∙ get_or-set_other bs place j l.before 0 (λ e. absurd (omega (arith, less, e))))
      (ap (λ x. slice_index_or x place 0) bs_is
      ∙ (get_or-set_same bs place l.before 0 (omega (arith, bs_long, inside)) ∙ before))
      within are heads' m is number
