-- How many nodes a call visits, from what was seen before it was kept and what it made.
use Rattle.gu_book.proofs.Vocabulary
use Rattle.gu_book.specs
use Rattle.gu_book.proofs.{AllShown.{has_place, undone}, Filed.spot, Orders.{in_order, names_there}}
use Rattle.gu_depend.proofs.Vocabulary.{Accepted, answer_to, call_of, Cancel, Claim, refusal_of, refusal_parts, Refuse}
use Rattle.gu_tree.specs.Grove.{place_of}
use specs.Found.{AreTreesOf}
use specs.Visits.{AreVisits, changes_trees, depth_meant, entries_met, IsMet, nodes_made, parts_in, parts_named}
use Vocabulary.{allowed, ap, arith, change_of, change_refused, Command, Entry, EntryPart, false}
use Vocabulary.{Grove, House, is_change, is_some, is_trade, IsPlace, IsSome, IsSomeAnd, length, List, live, named_node}
use Vocabulary.{node_of, None, Record, refl, Reverse, Some, some_with, Split, sym, Trade, true, ℕ, ◌+◌, ◌∙◌, ◌≡◌, ◌≤◌}

-- ---- an accepted call meets what it names

change_met : (t : House) (h : List Entry) (e : Entry) (n : ℕ) → answer_to t h (call_of e) ≡ Accepted n e.status
    → is_change e.command ≡ true → (m : EntryPart) → named_node e.command ≡ Some m → IsSome (node_of (live h) m)
change_met t h e n ok change m named =
    let lawful : refusal_of t (live h) e.firm e.command ≡ None =
    sym (change_refused t h e.firm e.command change) ∙ (allowed t h e n ok).lawful in
    let x = names_there t (live h) e.firm e.command m (refusal_parts t (live h) e.firm e.command lawful).1 named in
    ap is_some x.1

met : (t : House) (h : List Entry) (e : Entry) (n : ℕ) → answer_to t h (call_of e) ≡ Accepted n e.status → (c : Command)
    → e.command ≡ c → changes_trees (live h) c ≡ true → is_trade c ≡ false → IsMet (live h) c
met t h e n ok (Split m ps) same changes other = change_met t h e n ok (ap is_change same) m (ap named_node same)
met t h e n ok (Claim m a) same changes other = change_met t h e n ok (ap is_change same) m (ap named_node same)
met t h e n ok (Refuse m) same changes other = change_met t h e n ok (ap is_change same) m (ap named_node same)
met t h e n ok (Cancel m) same changes other = change_met t h e n ok (ap is_change same) m (ap named_node same)
met t h e n ok (Reverse k) same changes other =
    let u = undone t h e n k ok same in
    rw u.1.found (has_place u.0.number u.0.command ∙ (rw u.1.found at changes))
met t h e n ok _ same changes other = absurd (cc)

-- ---- what is counted

-- the way to the place of a change
pub way_to : {l : List Record} {g : Grove} → AreTreesOf l g → (k trade : ℕ) (p : List ℕ)
    → IsSomeAnd (place_of g k) (λ n. IsPlace g n trade p) → depth_meant l (Reverse k) ≡ length p
way_to {l} {g} are k trade p at =
    let m = some_with (λ n. IsPlace g n trade p) (place_of g k) at in
    let s = spot are.filed (in_order are.house l are.replayed are.rises) trade p m.0 m.1.1 in
    cc (are.filed.places k, m.1.0, s.called, s.said.deep)

-- the parts of the Split that a Reverse names
pub parts_of_named : (l : List Record) (k : ℕ) (r : Record) → change_of l k ≡ Some r
    → parts_named l (Reverse k) ≡ parts_in r.command
parts_of_named l k r found = rw found refl

-- ---- the visits of a call

-- a call that is kept visits what was seen, and what it made
pub visits_kept : (t : House) (h : List Entry) (e : Entry) (n : ℕ) → answer_to t h (call_of e) ≡ Accepted n e.status
    → (c : Command) → e.command ≡ c → (by : List ℕ) (seen made : ℕ)
    → seen ≤ depth_meant (live h) c + parts_named (live h) c + entries_met (live h) by c + 1
    → (IsMet (live h) c → depth_meant (live h) c + parts_named (live h) c + 1 ≤ seen) → made ≡ nodes_made c
    → AreVisits (live h) by c true (seen + made)
visits_kept t h e n ok (Trade a b d s lots) same by seen made most least is =
    record { most = omega (arith, most, is); least = λ _ _. omega (arith, is) }
visits_kept t h e n ok c same by seen made most least is = record {
  most = omega (arith, most, is);
  least = λ _ changes. let there = least (met t h e n ok c same changes refl) in omega (arith, there, is);
}
