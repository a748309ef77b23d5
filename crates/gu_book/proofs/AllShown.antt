-- The filed trees show all live changes, so what stands on a change is read off them.
use Rattle.gu_book.proofs
use proofs.ByNumber.{live_found, named_live}
use proofs.{Filed.{live_at, makes_root, names_apart, place_of_own, root_name, tree_shown}, Orders.{in_order, InOrder}}
use proofs.{Undoing.once, Vocabulary.{allowed, and_parts, any_found, Bool, change_of, Command, Decides-eqb}}
use proofs.Vocabulary.{Entry, entry_of, EntryPart, false, find_passes, found_at, found_in, Grove, House, inl, inr}
use proofs.Vocabulary.{is_change, is_live_trade, is_of_trees, is_some, is_trade, IsFree, IsGroveOf, IsOfTerms, IsSome}
use proofs.Vocabulary.{length, List, live, map, named_node, named_place, node_of, node_of_maker, None, number_once}
use proofs.Vocabulary.{NumbersOnce, Option, option_map, Part, place_in, Record, refl, reversal_of, Reverse, Side}
use proofs.Vocabulary.{Some, Split, subst, taken, Trade, true, Undone, ℕ, ◌&&◌, ◌+◌, ◌<◌, ◌==◌, ◌∙◌, ◌≡◌, ◌≢◌, ◌≤◌}
use Rattle.gu_book.specs.{Found.{AreTreesOf, IsFoundIn, IsUndoneAs, IsUndoneThere}, TreeRows.tree_rows}
use Rattle.gu_depend.proofs.{Finds.some_there, Vocabulary.{Accepted, Agree, answer_to, call_of, Cancel, Claim}}
use Rattle.gu_depend.proofs.Vocabulary.{false_from_ne_true, none_or_some, Raise, Refuse, reverse_rest, standing_on}
use Rattle.gu_tree.proofs.ShowsRows.{shown_rows}
use Rattle.gu_tree.specs.{declared.head.Row.Row as TreeRow, Grove.tree_of, Rose.rows, Shown.shown}

-- ---- a change whose Reverse is accepted

-- it is live, and nothing stands on it
pub record IsUndone (t : House) (h : List Entry) (k : ℕ) (r : Record) : Type 0 where
  pub entry : entry_of h k ≡ Some r
  pub found : change_of (live h) k ≡ Some r
  pub change : is_change r.command ≡ true
  pub from : 1 ≤ k
  pub within : k < 1 + length h
  pub unreversed : reversal_of h k ≡ None
  pub free : standing_on t (live h) k ≡ None

pub undone : (t : House) (h : List Entry) (e : Entry) (n k : ℕ) → answer_to t h (call_of e) ≡ Accepted n e.status
    → e.command ≡ Reverse k → (r : Record) × IsUndone t h k r
undone t h e n k ok same =
    let lawful = rw same at (allowed t h e n ok).lawful in
    let o = named_live t h e.firm (reverse_rest t h) k lawful in
    let at = found_at k 1 h o.0 o.1.there in (
      o.0,
      record {
        entry = o.1.there;
        found = live_found h k o.0 o.1;
        change = o.1.change;
        from = at.from;
        within = at.within;
        unreversed = o.1.unreversed;
        free = (taken t h e.firm k lawful).free;
      },
    )

-- ---- what a book answers by its trees is what its live changes say

-- without its root a list has no live trade
no_trade : (l : List Record) (k : ℕ) → NumbersOnce l → node_of l (root_name k) ≡ None → is_live_trade l k ≡ false
no_trade l k once none =
    false_from_ne_true _ (λ live.
    let test : Record → Bool = λ r. (r.number == k) && is_trade r.command in
    let d = any_found _ l live in
    let is = and_parts _ _ (find_passes _ l d.0 d.1) in
    let x = makes_root _ _ _ is.1 in
    cc (
      (Decides-eqb d.0.number k).0 is.0,
      none,
      node_of_maker l d.0 (root_name d.0.number) x.0 once (found_in test l d.0 d.1) x.1,
    ))

mapped : {A B C : Type 0} (f : A → B) (g : B → C) (o : Option A)
    → option_map (λ a. g (f a)) o ≡ option_map g (option_map f o)
mapped f g None = refl
mapped f g (Some a) = refl

module _ {l : List Record} {g : Grove} (are : AreTreesOf l g) where
  order : InOrder l
  order = in_order are.house l are.replayed are.rises

  -- the rows of the tree of a number are those of the live trade, and no tree bears another number
  rows_filed : (k : ℕ) → option_map (map shown) (option_map rows (tree_of g k)) ≡ tree_rows l k
  rows_filed k = elim (none_or_some (tree_of g k)) [
    | inl none ↦ cc (none, no_trade l k (number_once l order.distinct) (rw none at (are.filed.trees k)))
    | inr t ↦ cc (
      t.1,
      shown_rows l order.distinct k t.0 (tree_shown are.filed k t.0 t.1),
      live_at are.filed k t.0 t.1,
    )
  ]

  pub rows_shown : {V : Type 0} (items : V → List TreeRow) (o : Option V) (k : ℕ)
      → option_map items o ≡ option_map rows (tree_of g k) → option_map (λ v. map shown (items v)) o ≡ tree_rows l k
  rows_shown items o k e = cc (mapped items (map shown) o, rows_filed k)

  -- a tree that bears a number is that of a live trade
  pub live_if_shown : (k : ℕ) → IsSome (tree_of g k) → is_live_trade l k ≡ true
  live_if_shown k some = let t = some_there _ some in live_at are.filed k t.0 t.1

-- ---- what was found of the change that a Reverse names

-- a command has a place in the trees where it is a change of trees
pub has_place : (k : ℕ) (c : Command) → is_some (named_place k c) ≡ is_of_trees c
has_place k (Trade _ _ _ _ _) = refl
has_place k _ = refl

-- and is then one of five
pub of_trees_is : (c : Command) → is_of_trees c ≡ true → ((f a i : List ℕ) (s : Side) (n : ℕ) → c ≢ Trade f a i s n)
    → ((n : EntryPart) (ps : List Part) → c ≢ Split n ps) → ((n : EntryPart) (a : List ℕ) → c ≢ Claim n a)
    → ((n : EntryPart) → c ≢ Refuse n) → ((n : EntryPart) → c ≢ Cancel n) → ⊥
of_trees_is (Trade f a i s n) of trade _ _ _ _ = trade f a i s n refl
of_trees_is (Split n ps) of _ split _ _ _ = split n ps refl
of_trees_is (Claim n a) of _ _ claim _ _ = claim n a refl
of_trees_is (Refuse n) of _ _ _ refuse _ = refuse n refl
of_trees_is (Cancel n) of _ _ _ _ cancel = cancel n refl
of_trees_is _ of _ _ _ _ _ = absurd (cc)

-- a change that has none is an Agree or a Raise
is_of_terms : (k : ℕ) (c : Command) → is_change c ≡ true → named_place k c ≡ None → IsOfTerms c
is_of_terms k (Agree _ _ _ _) change e = refl
is_of_terms k (Raise _ _) change e = refl
is_of_terms k _ change e = absurd (cc)

-- a change that was found lies where its path leads
pub undone_there : {l : List Record} {g : Grove} {k : ℕ} {u : Undone} {p : List ℕ}
    → IsGroveOf l g → IsUndoneAs l k u p → IsUndoneThere g k u p
undone_there {g = g} {k = k} {u = u} {p = p} filed is = rw (filed.places k ∙ is.place) (is.there g filed)

module _ {t : House} {l : List Record} {r : Record} {g : Grove} (go : IsFree t l r g) where
  -- its place is the node that it made or named
  own_place : place_in l r.number ≡ named_place r.number r.command
  own_place = place_of_own l r (once go) go.among

  -- the node that was found is the one that the change names
  pub found_named : {u : Undone} {p : List ℕ} → IsUndoneAs l r.number u p → (n : EntryPart)
      → named_node r.command ≡ Some n → IsFoundIn l n (Some u.found)
  found_named {u} is n named =
      subst (λ m. IsFoundIn l m (Some u.found))
      (cc (own_place, (names_apart r.number r.command n named).1, is.place)) is.found

  -- one that was found is a change of trees
  pub undone_of_trees : {u : Undone} {p : List ℕ} → IsUndoneAs l r.number u p → is_of_trees r.command ≡ true
  undone_of_trees is = cc (has_place r.number _, own_place)

  -- and one that has no place there is an Agree or a Raise
  pub undone_of_terms : is_change r.command ≡ true → place_in l r.number ≡ None → IsOfTerms r.command
  undone_of_terms change none = is_of_terms r.number _ change (cc own_place)
