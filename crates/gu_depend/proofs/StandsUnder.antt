-- The first change that would be refused without another is the first that the other stands under; where the numbers
-- rise, the least that is looked up.
use Rattle.gu_depend.proofs
use proofs.Deals.{accepted_follows, first_on_deal, front_facts, named_once, NamedOnce}
use proofs.Finds.{by_cut, by_test, count_append, count_permuted}
use proofs.Finds.{first_cut, found_once, found_some, moved_to_end, none_before, none_passes, none_there, stands_between}
use proofs.Grown.{Follows, Grown, makers_once, NamesThere, node_by_maker, SplitsDecided}
use proofs.Replay.{Legal, legal_list, refused_here}
use proofs.StandsLast.{follows_at, gone, grown_without, replay_on, standing_deals, stands_last, within_whole}
use proofs.Vocabulary.{Agree, All, All-cons, All-contains, All-contains_itself}
use proofs.Vocabulary.{All-nil, All-weaker, AllByRecursion, ap, append_assoc, arith, Bool, Cancel, Claim}
use proofs.Vocabulary.{Command, cond, cons_option, Contains, Contains-append_right, count_by, deals_under, decides}
use proofs.Vocabulary.{Decides-eqb, decision_of, EntryPart, false, false_from_ne_true, find, find-append, find_passes}
use proofs.Vocabulary.{first_refused, first_under, flat_map, found_in, HasDistinctNumbers, House, inl, inr, is_under}
use proofs.Vocabulary.{IsLegal, IsPermutation, IsSameState, least, List, list_any, made_of, map, name_same, names}
use proofs.Vocabulary.{no_some, Node, nodes_of, None, none_or_some, number_in, numbers_under, Option, option_and_then}
use proofs.Vocabulary.{option_map, or_none, Record, refl, refusal_of, refusal_parts, Refuse, replay_front}
use proofs.Vocabulary.{RisesFrom, Root, same_name, same_Some, Some, Split, split_of, splits, standing_on, stands_under}
use proofs.Vocabulary.{sym, Trade, true, without, zero, [], ℕ, ◌++◌, ◌+◌, ◌<◌, ◌==◌, ◌||◌, ◌∙◌, ◌∷◌, ◌≡◌, ◌≤◌}
use Rattle.{gu_base.proofs.Searches.find_has, gu_depend.specs.Under.IsLeastUnder}
use Rattle.gu_tree.{proofs.FirstOn.least_append, specs.NumbersOn.{least_with, lesser, numbers_on}}
use Rattle.std.proofs.{Common.min, lemmas.List.{Elements.All-filter, Folds.list_any_none, Sorted.IsPermutation-refl}}
use Rattle.std.{proofs.lemmas.Map.Keys.IsDistinct-cons, specs.{List.IsDistinct, Option.option_or}}

-- ---- what a change stands under

-- the command names a node that the change makes, or splits one that it decides
data Under (k : ℕ) (by : List ℕ) (d c : Command) : Type 0 where
  part : (n : EntryPart) (x : Node) → names n c ≡ true → find (λ x. same_name x.name n) (nodes_of k by d) ≡ Some x
      → Under k by d c
  decided : (n : EntryPart) → splits n c ≡ true → decides n d ≡ true → Under k by d c

-- one passes where some pass
pub any_found : {X : Type 0} (p : X → Bool) (xs : List X) → list_any p xs ≡ true → (x : X) × (find p xs ≡ Some x)
any_found p xs h = elim (none_or_some _) [
  | inl none ↦ cc (list_any_none p xs (none_passes p xs none))
  | inr x ↦ x
]

under_is : (k : ℕ) (by : List ℕ) (d c : Command) → is_under k by d c ≡ true → Under k by d c
under_is k by (Trade _ _ _ _ lots) c h =
    let p : EntryPart = record { entry = k; part = 0 } in
    let root : Node = record { name = p; lots = lots; kind = Root _ } in
    part p root (rw h) (ap (λ b. cond b (Some root) None) (name_same p))
under_is k by (Split m ps) c h =
    let nodes = nodes_of k by (Split m ps) in
    let named = any_found (λ x. names x.name c) _ h in
    let first = found_some _ nodes _ (found_in _ nodes _ named.1) (name_same named.0.name) in
    part named.0.name first.0 (find_passes _ nodes _ named.1) first.1
under_is k by (Claim m _) c h = decided m h (name_same m)
under_is k by (Refuse m) c h = decided m h (name_same m)
under_is k by (Cancel m) c h = decided m h (name_same m)
under_is k by _ c h = cc

legal_front : (t : House) (xs ys : List Record) → Legal t (xs ++ ys) → Legal t xs
legal_front t xs ys legal = record {
  once = λ n. omega (arith, count_append (λ r. r.number == n) xs ys, legal.once n);
  replayed = replay_front t [] xs ys legal.replayed;
}

-- what stands under a node deals for nobody's terms
deals_none : (t : House) (l : List Record) (k : ℕ) (by : List ℕ) (d c : Command) → is_under k by d c ≡ true
    → deals_under t l k by d ≡ None
deals_none t l k by (Agree _ _ _ _) c h = cc
deals_none t l k by _ c h = cc

-- where the first of two is none, so is the second
free_by : (o : Option Record) (q : Option ℕ) → option_or (option_map (λ (e : Record). e.number) o) q ≡ None
    → (o ≡ None) × (q ≡ None)
free_by None q h = (refl, h)
free_by (Some e) q h = cc

module _ (t : House) (p : List Record) (k : Record) (s : List Record) (legal : Legal t (p ++ k ∷ s)) where
  abbrev l : List Record
  l = p ++ k ∷ s

  abbrev sn : NamedOnce l
  sn = named_once t l legal.replayed

  -- where it is missing, a change that it stands under doesn't follow what it stands on itself
  not_without : (y rest : List Record) → IsPermutation l (y ++ k ∷ rest) → (c : Command) → Follows l y c
      → is_under k.number k.firm k.command c ≡ true → ⊥
  not_without y rest same c f h = without (under_is _ _ _ c h)
    where
      absent : (p : Record → Bool) → count_by p l ≤ 1 → p k ≡ true → find p y ≡ None
      absent p once passes = none_before p y k rest (omega (arith, count_permuted p l _ same)) passes

      without : Under k.number k.firm k.command c → ⊥
      without (part n x is made) =
          let there = f.there n is in
          let gone = node_by_maker y n
          ∙ ap (option_and_then (λ r. made_of r n)) (absent _ (makers_once l n (legal.once n.entry)) (rw made)) in
          cc
      without (decided n split is) =
          let own = found_once _ l k (stands_between p k s) is (sn.decisions_once n) in
          cc (absent _ (sn.decisions_once n) is, f.decided n split)

  -- so the first that it stands under is behind it
  found_behind : find (stands_under k) l ≡ find (stands_under k) s
  found_behind =
      let g = (front_facts t l p _ refl legal.replayed).grown in
      let not_above = λ (c : Command) (f : Follows l p c). not_without p s (IsPermutation-refl l) c f in
      let none = no_some (find (stands_under k) p) (λ e h.
      not_above e.command
      (record {
        there = find_has (NamesThere p) _ p e g.named h;
        decided = find_has (SplitsDecided l p) _ p e g.decided h;
      })
      (find_passes (stands_under k) p e h)) in
      let itself = false_from_ne_true (stands_under k k) (not_above k.command (follows_at t l p k s legal refl)) in
      cc (find-append (stands_under k) p (k ∷ s))

-- ---- the law

standing_by : (t : House) (p : List Record) (k : Record) (s : List Record) → Legal t (p ++ k ∷ s) → (o : Option Record)
    → find (stands_under k) s ≡ o
    → first_refused t [] (p ++ s)
    ≡ option_or (option_map (λ e. e.number) o) (first_on_deal t (p ++ k ∷ s) k)
standing_by t p k s legal None found = standing_deals t p k s legal found
standing_by t p k s legal (Some e) found =
    let c = first_cut (stands_under k) s e found in
    let passes = find_passes (stands_under k) s e found in
    let front = p ++ k ∷ c.before in
    let cut : p ++ k ∷ s ≡ front ++ e ∷ c.behind = cc (append_assoc p (k ∷ c.before) (e ∷ c.behind)) in
    let own = legal_front t front (e ∷ c.behind) (rw cut at legal) in
    let accepted = standing_deals t p k c.before own c.none
    ∙ deals_none t front k.number k.firm k.command e.command passes in
    let y = p ++ c.before in
    let refused = refused_here (refusal_of t y e.firm e.command) e.number (first_refused t (y ++ e ∷ []) c.behind)
    (λ took. not_without t p k c.before own y [] (moved_to_end p k c.before) e.command
    (accepted_follows t front y e.firm e.command (named_once t front own.replayed) (within_whole t p k c.before own)
    (refusal_parts t y e.firm e.command took).1)
    passes) in
    cc (append_assoc p c.before (e ∷ c.behind), replay_on t [] y (e ∷ c.behind) accepted)

pub standing_is_first : (t : House) (l : List Record) (k : Record) → Legal t l → Contains l k
    → standing_on t l k.number ≡ first_under t l k
standing_is_first t l k legal among =
    by_cut (λ l. Legal t l → standing_on t l k.number ≡ first_under t l k) l k among
    (λ p s legal.
    cc (gone t p k s legal, standing_by t p k s legal (find (stands_under k) s) refl, found_behind t p k s legal))
    legal

-- ---- where nothing stands on a change

-- it can as well stand last, and the others say of their nodes what the whole says
pub record CanGo (t : House) (l : List Record) (k : Record) : Type 0 where
  pub permuted : IsPermutation l (without l k.number ++ k ∷ [])
  pub last : first_refused t [] (without l k.number ++ k ∷ []) ≡ None
  pub same : IsSameState t l (without l k.number ++ k ∷ [])
  pub grown : Grown l (without l k.number)

pub can_go : (t : House) (l : List Record) (k : Record) → Legal t l → Contains l k → standing_on t l k.number ≡ None
    → CanGo t l k
can_go t l k legal among free =
    by_cut (λ l. Legal t l → standing_on t l k.number ≡ None → CanGo t l k) l k among
    (λ p s legal free. let first = standing_is_first t (p ++ k ∷ s) k legal (stands_between p k s) in
    let under = free_by (find (stands_under k) _) (first_on_deal t (p ++ k ∷ s) k) (sym first ∙ free) in
    let behind = sym (found_behind t p k s legal) ∙ under.0 in
    let others = gone t p k s legal in
    let last = stands_last t p k s legal behind under.1 in
    record {
      permuted = rw others (moved_to_end p k s);
      last = rw others last.0;
      same = rw others last.1;
      grown = rw others (grown_without t p k s legal behind);
    }) legal free

-- ---- in the order of the numbers

pub rises_above : (n : ℕ) (l : List Record) → RisesFrom n l → All (λ d. n ≤ d.number) l
rises_above n [] rises = All-nil (λ d. n ≤ d.number)
rises_above n (r ∷ l) rises =
    All-cons (λ d. n ≤ d.number) r l rises.0
    (All-weaker (λ d. r.number + 1 ≤ d.number) (λ d. n ≤ d.number) (λ d h. omega arith)
    l (rises_above (r.number + 1) l rises.1))

-- the first that passes has the least number
first_is_least : (p : Record → Bool) (n : ℕ) (l : List Record) → RisesFrom n l → (e : Record) → find p l ≡ Some e
    → All (λ d. p d ≡ true → e.number ≤ d.number) l
first_is_least p n [] rises e h = cc
first_is_least p n (x ∷ l) rises e h =
    All-cons (λ d. p d ≡ true → e.number ≤ d.number) x l
    (λ is. let first = same_Some x e (cc) in rw first (omega arith))
    (by_test (p x)
    (λ is. let first = same_Some x e (cc) in
    All-weaker (λ d. x.number + 1 ≤ d.number) (λ d. p d ≡ true → e.number ≤ d.number)
    (λ d above _. rw (← first) (omega arith)) l (rises_above (x.number + 1) l rises.1))
    (λ out. first_is_least p (x.number + 1) l rises.1 e (cc)))

rises_apart : (k n : ℕ) (l : List Record) → k < n → RisesFrom n l
    → AllByRecursion (λ y. (k == y) ≡ false) (map (λ r. r.number) l)
rises_apart k n [] less rises = tt
rises_apart k n (r ∷ l) less rises =
    let apart = false_from_ne_true _ (λ h. omega (arith, (Decides-eqb k r.number).0 h)) in
    (apart, rises_apart k (r.number + 1) l (omega arith) rises.1)

pub rises_distinct : (n : ℕ) (l : List Record) → RisesFrom n l → HasDistinctNumbers l
unfolding IsDistinct
rises_distinct n [] rises = tt
rises_distinct n (r ∷ l) rises =
    IsDistinct-cons (λ a b. a == b) _ _
    (rises_apart _ _ l (omega arith) rises.1) (rises_distinct (r.number + 1) l rises.1)

pub legal_rising : (t : House) (l : List Record) → RisesFrom 0 l → IsLegal t l → Legal t l
legal_rising t l rises legal = legal_list t l (rises_distinct 0 l rises) legal

-- the change that is refused first is one of the list
refused_in : (t : House) (b rest : List Record) (n : ℕ) → first_refused t b rest ≡ Some n
    → (e : Record) × (Contains rest e × (e.number ≡ n))
refused_in t b [] n h = cc
refused_in t b (r ∷ rest) n h =
    elim (none_or_some (refusal_of t b r.firm r.command)) [
      | inl none ↦ (let e = refused_in t (b ++ r ∷ []) rest n (cc) in
          (e.0, (Contains-append_right (r ∷ []) rest e.0 e.1.0, e.1.1)))
      | inr f ↦ (r, ((zero, omega arith, refl), cc))
    ]

pub in_whole : (l : List Record) (k : ℕ) (e : Record) → Contains (without l k) e → Contains l e
in_whole l k e among = All-contains (Contains l) _ e (All-filter _ (Contains l) l (All-contains_itself l)) among

module _ (t : House) (l : List Record) (k : Record) (rises : RisesFrom 0 l) where
  least_by : (o : Option Record) → find (stands_under k) l ≡ o → (q : Option ℕ) → first_on_deal t l k ≡ q
      → standing_on t l k.number ≡ option_or (option_map (λ e. e.number) o) q
      → IsLeastUnder t l k (option_or (option_map (λ e. e.number) o) q)
  least_by None found None e stands = λ c among under. elim under [
    | inl node ↦ none_there _ l c found among node
    | inr deal ↦ cc
  ]
  least_by None found (Some n) e stands =
      let r = refused_in t [] _ n stands in (
        r.0,
        in_whole l _ r.0 r.1.0,
        inr (cc),
        r.1.1,
        λ d among under. elim under [
          | inl node ↦ absurd (none_there _ l d found among node)
          | inr deal ↦ (let one = same_Some n d.number (cc) in omega arith)
        ],
      )
  least_by (Some e) found q same stands = (
    e,
    found_in _ l e found,
    inl (find_passes _ l e found),
    refl,
    λ d among under. elim under [
      | inl node ↦
          All-contains (λ d. stands_under k d ≡ true → e.number ≤ d.number) l d
          (first_is_least _ 0 l rises e found) among node
      | inr deal ↦ cc (deals_none t l k.number k.firm k.command e.command (find_passes _ l e found))
    ],
  )

pub standing_is_least : (t : House) (l : List Record) (k : Record) → RisesFrom 0 l → Legal t l → Contains l k
    → IsLeastUnder t l k (standing_on t l k.number)
standing_is_least t l k rises legal among =
    let first = standing_is_first t l k legal among in
    rw first (least_by t l k rises _ refl _ refl first)

-- ---- looked up at the nodes that the other made or decided

-- where the numbers rise, the first that passes is the least

abbrev first_number : (Record → Bool) → List Record → Option ℕ
first_number p l = option_map (λ e. e.number) (find p l)

none_below : (p : Record → Bool) (n : ℕ) (l : List Record) → RisesFrom (n + 1) l → least_with n (first_number p l) ≡ n
none_below p n l rises = elim (none_or_some (find p l)) [
  | inl none ↦ cc
  | inr e ↦ (
      let above =
      find_has (λ d. n + 1 ≤ d.number) p l e.0 (rises_above _ l rises) e.1 in
      let lower : min n e.0.number ≡ n = omega arith in
      cc)
]

lesser_one : (o : Option ℕ) (n : ℕ) → lesser o (Some n) ≡ Some (least_with n o)
lesser_one None n = refl
lesser_one (Some m) n = let same : min m n ≡ min n m = omega arith in rw same

-- the first that passes either of two tests is the lesser of the two firsts
either_first : (p q : Record → Bool) (n : ℕ) (l : List Record) → RisesFrom n l
    → first_number (λ e. p e || q e) l ≡ lesser (first_number p l) (first_number q l)
either_first p q n [] rises = refl
either_first p q n (r ∷ l) rises =
    let same : r.number ≡ min r.number r.number = omega arith in
    let above = λ (p : Record → Bool). none_below p _ l rises.1 in
    by_test (p r) (λ a. by_test (q r) (λ b. cc) (λ b. cc (above q)))
    (λ a. by_test (q r) (λ b. cc (above p, lesser_one (first_number p l) r.number))
    (λ b. cc (either_first p q (r.number + 1) l rises.1)))

-- so it is looked up node by node

pub least_in : (o : Option Record) → least (number_in o) ≡ option_map (λ r. r.number) o
least_in None = refl
least_in (Some r) = refl

pub least_one : (o : Option ℕ) → least (cons_option o []) ≡ o
least_one None = refl
least_one (Some n) = refl

none_passes_never : (l : List Record) → find (λ (e : Record). false) l ≡ None
none_passes_never [] = refl
none_passes_never (_ ∷ l) = none_passes_never l

module _ (t : House) (l : List Record) (rises : RisesFrom 0 l) where
  -- at the parts of a Split
  at_parts : (xs : List Node) → first_number (λ e. list_any (λ x. names x.name e.command) xs) l
      ≡ least (flat_map (λ x. numbers_on l x.name) xs)
  at_parts [] = cc (none_passes_never l)
  at_parts (x ∷ xs) =
      let own = either_first (λ e. splits x.name e.command) (λ e. decides x.name e.command) 0 l rises in
      let told = least_append (number_in (split_of l x.name)) (number_in (decision_of l x.name)) in
      let here : first_number (λ e. names x.name e.command) l ≡ least (numbers_on l x.name) =
      cc (least_in _, least_in (decision_of l x.name)) in
      let both =
      either_first (λ e. names x.name e.command) (λ e. list_any (λ x. names x.name e.command) xs) 0 l rises in
      cc (at_parts xs, least_append (numbers_on l x.name) (flat_map (λ x. numbers_on l x.name) xs))

  -- by the command
  by_command : (k : ℕ) (by : List ℕ) (c : Command)
      → option_or (first_number (λ e. is_under k by c e.command) l) (deals_under t l k by c)
      ≡ least (numbers_under t l k by c)
  by_command k by (Trade _ _ _ _ _) = or_none _ ∙ sym (least_in _)
  by_command k by (Split _ _) = or_none _ ∙ at_parts _
  by_command k by (Claim _ _) = or_none _ ∙ sym (least_in _)
  by_command k by (Refuse _) = or_none _ ∙ sym (least_in _)
  by_command k by (Cancel _) = or_none _ ∙ sym (least_in _)
  by_command k by c = cc (none_passes_never l, least_one _)

  -- the least of the numbers is the first change that would be refused
  pub looked_up : Legal t l → (k : Record) → Contains l k
      → standing_on t l k.number ≡ least (numbers_under t l k.number k.firm k.command)
  looked_up legal k among = standing_is_first t l k legal among ∙ by_command _ _ _
