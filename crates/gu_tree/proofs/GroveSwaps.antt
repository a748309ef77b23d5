-- What it does to the trees to put another node of its name in the place of one.
use Rattle.gu_tree.proofs.Vocabulary
use Rattle.gu_tree.specs
use Rattle.std
use Rattle.gu_tree.proofs.{Groves.{FilesAlike, leads_one, led_kept, length_turned, turned_turned}, Parts.at_there}
use Rattle.gu_tree.proofs.Parts.{edited_there, like_there, meets, node_at_further, Outside, shown_of, some_and}
use specs.{Changes.is_undecided_leaf, declared.slot.Slot.TheVariants.{Empty, Node, Root}}
use specs.Filing.{Leads, name_in, slot_of, turned}
use specs.Grove.{ChangesTree, Grove, IsFiledWith, IsGrove, IsLed, IsNoted, IsOn, IsSettled, place_of, tree_in, tree_of}
use std.proofs.lemmas.{Bool.{cond_both, eq-eqb, eqb-false, eqb-true, ne_eqb}, List.{get_or-set_other, get_or-set_same}}
use std.specs.Prelude.{slice_index_or}
use Vocabulary.{ap, append_assoc, arith, cases_eq, Contents, edit_at, EntryPart, Head, head_of, Held}
use Vocabulary.{if◌then◌else◌, inl, inr, is_open, IsFiled, IsLeaf, IsTakenOut, kept_at, last_of, LeadsTo, leaf, length}
use Vocabulary.{length-append, length-set, List, node_at, None, none_told, Option, option_map, parted, refl, Rose}
use Vocabulary.{set, Slot, Some, subst, sym, true, unwrap_or, [], ℕ, ◌++◌, ◌<◌, ◌==◌, ◌↔◌, ◌∙◌, ◌∷◌, ◌≡◌, ◌≢◌, ◌≤◌, ◌⊎◌}

-- ---- where paths lead in the edited tree

abbrev pub IsNamed : EntryPart → Rose → Type 0
IsNamed n u = (head_of u).name ≡ n

pub leaf_only : (v w : Rose) (r : List ℕ) → IsLeaf v → node_at r v ≡ Some w → (r ≡ []) × (v ≡ w)
leaf_only (leaf h) w [] ends led = (refl, cc)
leaf_only (leaf h) w (i ∷ r) ends led = absurd (cc)
leaf_only (parted h n ts) w r ends led = absurd ends

-- no entry has a node below p as its place
abbrev pub IsFree : Grove → List ℕ → Rose → Type 0
IsFree g p t = (e : ℕ) (m : EntryPart) (q : List ℕ) (w : Rose) → place_of g e ≡ Some m → node_at q t ≡ Some w
    → IsNamed m w → Outside p q

pub leaf_outside : (p q : List ℕ) (t v w : Rose) → IsLeaf v → node_at p t ≡ Some v → node_at q t ≡ Some w → Outside p q
leaf_outside p q t v w ends led there = λ k r below.
    cc (leaf_only v w (k ∷ r) ends (cc (node_at_further p (k ∷ r) t v led))).0

-- ---- what is filed with a node

-- on f of the node is what was on it, but for this entry
abbrev pub KeepsOthers : (Rose → Rose) → Rose → ℕ → Type 0
KeepsOthers f v entry = (e : ℕ) → e ≢ entry → IsOn e (f v) ↔ IsOn e v

-- nothing is on a leaf that no one has decided, and nothing has to be filed with it
pub bare_on : (u : Rose) (e : ℕ) → is_undecided_leaf u ≡ true → IsOn e u → ⊥
bare_on (leaf h) e bare on = cc (none_told h.decision bare)
bare_on (parted h n ts) e bare on = cc

pub bare_noted : (s : Contents Slot) (u : Rose) → is_undecided_leaf u ≡ true → is_open (head_of u).state ≡ true
    → ((e : ℕ) → slot_of s e ≢ Node (head_of u).name) → ((head_of u).name.part ≡ 0 → (head_of u).state ≡ Held)
    → IsNoted s u
bare_noted s (leaf h) bare fits free root = record {
  filed = λ e. ((λ at. absurd (free e at)), (λ on. absurd (bare_on (leaf h) e bare on)));
  settled = record { root = λ z. (root z, none_told h.decision bare); decided = bare ∙ sym fits; apart = tt };
}
bare_noted s (parted h n ts) bare fits free root = absurd (cc)

noted_like : (s : Contents Slot) (w u : Rose) → shown_of w ≡ shown_of u → IsNoted s w → IsNoted s u
noted_like s (leaf h) (leaf k) same is = subst (λ (z : Head × Option ℕ). IsNoted s (leaf z.0)) same is
noted_like s (parted h m ts) (parted k n us) same is =
    subst (λ (z : Head × Option ℕ). IsNoted s (parted z.0 (unwrap_or z.1 0) us)) same (record {
      filed = is.filed;
      settled = record { root = is.settled.root; decided = is.settled.decided; apart = is.settled.apart };
    })
noted_like s _ _ same is = let number = ap (λ (z : Head × Option ℕ). z.1) same in absurd (cc)

pub noted_kept : (s z : Contents Slot) (u : Rose) → FilesAlike s z (head_of u).name → IsNoted s u → IsNoted z u
noted_kept s z u alike is = record {
  filed = λ e. ((λ at. (is.filed e).0 ((alike e).0 at)), (λ on. (alike e).1 ((is.filed e).1 on)));
  settled = is.settled;
}

-- ---- the slot of one entry changes

-- what is so at one number, and elsewhere as it was
pub changed_at : {A : Type 0} (e : ℕ) (x : A) (old new : ℕ → A) → new e ≡ x → ((k : ℕ) → k ≢ e → new k ≡ old k)
    → (k : ℕ) → new k ≡ (if k == e then x else old k)
changed_at e x old new here there k =
    cond_both (k == e) x (old k) (λ z. new k ≡ z) (λ q. ap new (eqb-true k e q) ∙ here) (λ q. there k (eqb-false k e q))

pub record IsOneOff (g new : Grove) (entry : ℕ) (x y : Slot) : Type 0 where
  pub before : slot_of g.slots entry ≡ x
  pub after : slot_of new.slots entry ≡ y
  pub same : (k : ℕ) → k ≢ entry → slot_of new.slots k ≡ slot_of g.slots k
  pub last : last_of g.slots ≤ last_of new.slots
  pub reached : y ≢ Empty → entry ≤ last_of new.slots

one_off : {g new : Grove} {entry : ℕ} {x : Slot} (o : Option Slot) → slot_of g.slots entry ≡ x
    → ((n : ℕ) → kept_at new.slots n ≡ (if entry == n then o else kept_at g.slots n))
    → last_of g.slots ≤ last_of new.slots → (unwrap_or o Empty ≢ Empty → entry ≤ last_of new.slots)
    → IsOneOff g new entry x (unwrap_or o Empty)
one_off {entry = entry} o was at last reached = record {
  before = was;
  after = rw (at entry, eq-eqb entry entry refl) refl;
  same = λ k other. rw (at k, ne_eqb entry k (λ same. other (sym same))) refl;
  last = last;
  reached = reached;
}

-- an entry above all others is filed, or one is taken out
pub filing : {g new : Grove} {entry : ℕ} {x : Slot} → last_of g.slots < entry → IsFiled g.slots new.slots entry x
    → IsOneOff g new entry Empty x
filing {x = x} above filed = one_off (Some x) (ap (λ o. unwrap_or o Empty) filed.none) filed.at
    (omega (arith, above, filed.last)) (λ _. omega (arith, filed.last))

pub clearing : {g new : Grove} {entry : ℕ} {x : Slot} → slot_of g.slots entry ≡ x → IsTakenOut g.slots new.slots entry
    → IsOneOff g new entry x Empty
clearing was taken = one_off None was taken.at (omega (arith, taken.last)) (λ some. absurd (some refl))

module _ {g new : Grove} {entry : ℕ} {x y : Slot} (one : IsOneOff g new entry x y) where
  -- what differs from both stands where it stood
  pub slots_alike : (w : Slot) → x ≢ w → y ≢ w → (e : ℕ) → (slot_of new.slots e ≡ w) ↔ (slot_of g.slots e ≡ w)
  slots_alike w was now e = elim (cases_eq e entry) [
    | inl here ↦ ((λ at. absurd (now (cc))), (λ at. absurd (was (cc))))
    | inr other ↦ rw (one.same e other) ((λ at. at), (λ at. at))
  ]

  pub one_place : (e : ℕ) → place_of new e ≡ (if e == entry then name_in entry y else place_of g e)
  one_place = changed_at entry (name_in entry y) (place_of g) (place_of new) (ap (name_in entry) one.after)
      (λ k other. ap (name_in k) (one.same k other))

  -- no entry above the last has named anything
  pub low_new : IsGrove g → (e : ℕ) → slot_of new.slots e ≢ Empty → e ≤ last_of new.slots
  low_new is e some = elim (cases_eq e entry) [
    | inl here ↦ omega (arith, here, one.reached (λ none. some (cc)))
    | inr other ↦ omega (arith, one.last, is.low e (λ none. some (cc (one.same e other))))
  ]

-- no entry is filed with a node that a new entry makes
pub newest_free : {g new : Grove} {entry : ℕ} {x : Slot} → IsGrove g → last_of g.slots < entry
    → IsOneOff g new entry Empty x
    → (m : EntryPart) → m.entry ≡ entry → x ≢ Node m → (e : ℕ) → slot_of new.slots e ≢ Node m
newest_free {g} is above one m made other e at =
    let was = (slots_alike one (Node m) (λ z. cc) other e).0 at in
    absurd (omega (arith, is.falls e m was, made, is.low e (λ z. cc), above))

-- ---- another tree, or none, stands in the place of one

pub tree_kept : (new old : List (Option Rose)) (x : Slot) → ((j : ℕ) → x ≡ Root j
    → slice_index_or new j None ≡ slice_index_or old j None) → tree_in new x ≡ tree_in old x
tree_kept new old (Root j) same = same j refl
tree_kept new old _ same = refl

module _ {g : Grove} {trade i : ℕ} (is : IsGrove g) (new : Grove) (o : Option Rose)
    (slot : slot_of g.slots trade ≡ Root i) (puts : new.trees ≡ set g.trees i o) where
  pub tree_same : (u : ℕ) → u ≢ trade → tree_in new.trees (slot_of g.slots u) ≡ tree_of g u
  tree_same u other = tree_kept new.trees g.trees (slot_of g.slots u) (λ j at.
      rw puts (get_or-set_other g.trees i j o None (λ same. other (is.apart u trade i (cc) slot))))

-- ---- a node gives way to a node of its name, with or without the entry on it

abbrev IsFor : EntryPart → Slot → Type 0
IsFor n x = (x ≡ Empty) ⊎ (x ≡ Node n)

for_other : (n : EntryPart) (x : Slot) → IsFor n x → (w : Slot) → w ≢ Empty → w ≢ Node n → x ≢ w
for_other n x (inl none) w some other e = some (cc)
for_other n x (inr node) w some other e = other (cc)

for_node : (n : EntryPart) (x : Slot) → IsFor n x → (m : EntryPart) → x ≡ Node m → m ≡ n
for_node n x (inl none) m e = absurd (cc)
for_node n x (inr node) m e = cc

no_tree : (n : EntryPart) (ts : List (Option Rose)) (x : Slot) → IsFor n x → tree_in ts x ≡ None
no_tree n ts x (inl none) = ap (tree_in ts) none
no_tree n ts x (inr node) = ap (tree_in ts) node

pub record IsFound (g : Grove) (trade i : ℕ) (t : Rose) (p : List ℕ) (v : Rose) : Type 0 where
  pub slot : slot_of g.slots trade ≡ Root i
  pub tree : tree_of g trade ≡ Some t
  pub led : node_at p t ≡ Some v

-- where each node of a tree lies, and what is filed with it
abbrev pub AreNoted : Contents Slot → ℕ → Rose → Type 0
AreNoted s trade t = (q : List ℕ) (u : Rose) → node_at q t ≡ Some u
    → Leads s (head_of u).name trade (turned q) × IsNoted s u

pub record IsSwap (g new : Grove) (trade i : ℕ) (t v : Rose) (f : Rose → Rose) (p : List ℕ) (entry : ℕ) (x y : Slot)
    : Type 0 where
  pub seen : IsFound g trade i t p v
  pub name : (head_of (f v)).name ≡ (head_of v).name
  pub trees : new.trees ≡ set g.trees i (Some (edit_at f p t))
  pub one : IsOneOff g new entry x y
  pub was : IsFor (head_of v).name x
  pub now : IsFor (head_of v).name y
  pub low : y ≡ Node (head_of v).name → ((head_of v).name.entry < entry) × (length p ≤ 64)
  pub free : IsFree g p t
  pub on : (y ≡ Node (head_of v).name) ↔ IsOn entry (f v)
  pub others : KeepsOthers f v entry
  pub settled : IsSettled (f v)
  pub below : (k : ℕ) (r : List ℕ) (u : Rose) → node_at (k ∷ r) (f v) ≡ Some u
      → Leads new.slots (head_of v).name trade (turned p)
      → Leads new.slots (head_of u).name trade (turned (p ++ k ∷ r)) × IsNoted new.slots u

module _ {g new : Grove} {trade i : ℕ} {t v : Rose} {f : Rose → Rose} {p : List ℕ} {entry : ℕ} {x y : Slot}
    (is : IsGrove g) (sw : IsSwap g new trade i t v f p entry x y) where
  abbrev n : EntryPart
  n = (head_of v).name

  stay : (w : Slot) → w ≢ Empty → w ≢ Node n → (e : ℕ) → (slot_of new.slots e ≡ w) ↔ (slot_of g.slots e ≡ w)
  stay w some other = slots_alike sw.one w (for_other n x sw.was w some other) (for_other n y sw.now w some other)

  root_stay : (u j : ℕ) → (slot_of new.slots u ≡ Root j) ↔ (slot_of g.slots u ≡ Root j)
  root_stay u j = stay (Root j) (λ e. cc) (λ e. cc) u

  alike : (m : EntryPart) → m ≢ n → FilesAlike g.slots new.slots m
  alike m other = stay (Node m) (λ e. cc) (λ e. other (cc))

  tree_here : tree_of new trade ≡ Some (edit_at f p t)
  tree_here = rw ((root_stay trade i).1 sw.seen.slot, sw.trees) (get_or-set_same g.trees i (Some (edit_at f p t)) None
      (is.rooted trade i sw.seen.slot))

  tree_there : (u : ℕ) → u ≢ trade → tree_of new u ≡ tree_of g u
  tree_there u other = elim (cases_eq u entry) [
    | inl here ↦ cc (no_tree n new.trees y sw.now, no_tree n g.trees x sw.was)
    | inr apart ↦ cc (sw.one.same u apart, tree_same is new _ sw.seen.slot sw.trees u other)
  ]

  pub swapped_tree : ChangesTree g new trade (edit_at f p t)
  swapped_tree = changed_at trade (Some (edit_at f p t)) (tree_of g) (tree_of new) tree_here tree_there

  its_way : Leads g.slots n trade (turned p)
  its_way = is.made trade t p v sw.seen.tree sw.seen.led

  -- the steps to a node that doesn't lie below are as they were
  leads_past : (m : EntryPart) (u : ℕ) (up : List ℕ) → Leads g.slots m u up → (u ≡ trade → Outside p (turned up))
      → Leads new.slots m u up
  leads_past m u [] way out = way
  leads_past m u (j ∷ up) (part, (above, slot, way)) out =
      let other : m.entry ≢ entry = λ here.
      let same : above ≡ n = for_node n x sw.was above (cc) in
      let one = leads_one g.slots n u trade up (turned p) (rw same at way) its_way in
      out one.0 j [] (cc (turned_turned p)) in (
        part,
        (
          above,
          sw.one.same m.entry other ∙ slot,
          leads_past above u up way (λ here k r below.
              out here k (r ++ j ∷ []) (rw below (append_assoc p (k ∷ r) (j ∷ [])))),
        ),
      )

  leads_node : Leads new.slots n trade (turned p)
  leads_node = leads_past n trade (turned p) its_way (λ _ k r below. absurd (omega (
    arith,
    ap length below,
    ap length (turned_turned p),
    length-append p (k ∷ r),
  )))

  led_here : (m : EntryPart) (up : List ℕ) → Leads new.slots m trade up → length up ≤ 64
      → LeadsTo (turned up) (edit_at f p t) m → IsLed new m
  led_here m up leads short there =
      record {
        trade = trade;
        up = up;
        tree = edit_at f p t;
        leads = leads;
        short = short;
        found = tree_here;
        there = there;
      }

  node_led : length p ≤ 64 → IsLed new n
  node_led short = led_here n (turned p) leads_node (omega (arith, length_turned p, short))
      (rw (turned_turned p) (at_there (IsNamed n) _ (f v) (edited_there f p t v sw.seen.led) sw.name))

  led_same : (k : ℕ) (m : EntryPart) → place_of g k ≡ Some m → IsLed g m → IsLed new m
  led_same k m placed l = elim (cases_eq l.trade trade) [
    | inr other ↦ led_kept m l (leads_past m l.trade l.up l.leads (λ here. absurd (other here)))
        (tree_there l.trade other)
    | inl here ↦ (let w = some_and (IsNamed m) (node_at (turned l.up) l.tree) l.there in
        let same : l.tree ≡ t = cc in
        let at : node_at (turned l.up) t ≡ Some w.0 = cc w.1 in
        let out = sw.free k m (turned l.up) w.0 placed at w.2 in
        led_here m l.up (leads_past m trade l.up (rw here at l.leads) (λ _. out)) l.short
        (elim (meets f p (turned l.up) t v sw.seen.led) [
          | inl it ↦ at_there (IsNamed m) _ (f v) (rw it (edited_there f p t v sw.seen.led)) (let same : v ≡ w.0 = cc in
              cc sw.name)
          | inr (inl below) ↦ absurd (out below.0 below.1 below.2)
          | inr (inr kept) ↦ (let u = like_there _ w.0 (kept.2 ∙ ap (option_map shown_of) at) in
              at_there (IsNamed m) _ u.0 u.1 (ap (λ (z : Head × Option ℕ). z.0.name) u.2 ∙ w.2))
        ]))
  ]

  -- on the node is what was, but for the entry
  node_filed : IsFiledWith new.slots n (f v)
  node_filed e = elim (cases_eq e entry) [
    | inl here ↦ ((λ at. rw here (sw.on.0 (cc))), (λ on. cc (sw.on.1 (rw here at on))))
    | inr other ↦ (let was = (is.noted trade t p v sw.seen.tree sw.seen.led).filed e in (
      (λ at. (sw.others e other).1 (was.0 (cc (sw.one.same e other)))),
      (λ on. cc (sw.one.same e other, was.1 ((sw.others e other).0 on))),
    ))
  ]

  -- a node that lies elsewhere, and not below, is led to as it was, and has on it what it had
  noted_past : (u : ℕ) (tree : Rose) (q : List ℕ) (w : Rose) → tree_of g u ≡ Some tree → node_at q tree ≡ Some w
      → (u ≡ trade → (q ≢ p) × Outside p q) → Leads new.slots (head_of w).name u (turned q) × IsNoted new.slots w
  noted_past u tree q w found there out = (
    leads_past (head_of w).name u (turned q) (is.made u tree q w found there) (λ here.
        rw (turned_turned q) (out here).1),
    noted_kept g.slots new.slots w (alike (head_of w).name (λ same.
        let one = leads_one g.slots n u trade (turned q) (turned p) (rw same at (is.made u tree q w found there))
        its_way in
        (out one.0).0 (cc (turned_turned q, turned_turned p, one.1)))) (is.noted u tree q w found there),
  )

  noted_here : AreNoted new.slots trade (edit_at f p t)
  noted_here q u there = elim (meets f p q t v sw.seen.led) [
    | inl here ↦ (let same : u ≡ f v = cc (edited_there f p t v sw.seen.led) in
        rw (here, same, sw.name) (leads_node, record { filed = rw sw.name node_filed; settled = sw.settled }))
    | inr (inl below) ↦ rw below.2 (sw.below below.0 below.1 u (cc (node_at_further p (below.0 ∷ below.1)
        (edit_at f p t) (f v) (edited_there f p t v sw.seen.led))) leads_node)
    | inr (inr kept) ↦ (let w = like_there (node_at q t) u (sym kept.2 ∙ ap (option_map shown_of) there) in
        let past = noted_past trade t q w.0 sw.seen.tree w.1 (λ _. (kept.0, kept.1)) in (
          subst (λ (z : Head × Option ℕ). Leads new.slots z.0.name trade (turned q)) w.2 past.0,
          noted_like new.slots w.0 u w.2 past.1,
        ))
  ]

  noted_new : (u : ℕ) (tree : Rose) → tree_of new u ≡ Some tree → AreNoted new.slots u tree
  noted_new u tree has q w there = elim (cases_eq u trade) [
    | inl here ↦ (let same : tree ≡ edit_at f p t = cc tree_here in rw here (noted_here q w (rw same at there)))
    | inr other ↦ noted_past u tree q w (cc (tree_there u other)) there (λ here. absurd (other here))
  ]

  pub swapped_grove : IsGrove new
  swapped_grove =
      let long : length new.trees ≡ length g.trees = ap length sw.trees
      ∙ length-set g.trees i (Some (edit_at f p t)) in
      record {
        low = low_new sw.one is;
        few = omega (arith, is.few, long, sw.one.last);
        rooted = λ u j e. omega (arith, is.rooted u j ((root_stay u j).0 e), long);
        apart = λ u w j a b. is.apart u w j ((root_stay u j).0 a) ((root_stay w j).0 b);
        falls = λ k m at. elim (cases_eq k entry) [
          | inl here ↦ (let same = for_node n y sw.now m (cc) in rw (same, here) (sw.low (cc)).0)
          | inr other ↦ is.falls k m (cc (sw.one.same k other))
        ];
        led = λ k m placed. elim (cases_eq k entry) [
          | inl here ↦ elim sw.now [
            | inl none ↦ absurd (cc)
            | inr node ↦ (let same : n ≡ m = cc in subst (IsLed new) same (node_led (sw.low node).1))
          ]
          | inr other ↦ (let was : place_of g k ≡ Some m = cc (sw.one.same k other) in
              led_same k m was (is.led k m was))
        ];
        made = λ u tree q w e at. (noted_new u tree e q w at).0;
        noted = λ u tree q w e at. (noted_new u tree e q w at).1;
      }
