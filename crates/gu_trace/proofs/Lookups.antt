-- Each node lies in the entry that its name tells.
use Rattle.std.proofs.Common.{◌≡◌, ℕ, zero, suc, ◌+◌, ◌-◌, ◌<◌, ◌≤◌, Bool, true, false, List, [], ◌∷◌, ◌++◌, refl, sym}
use Rattle.std.proofs.Common.{◌∙◌, ap, arith, Option, cond, eqb, length}
use Rattle.std.specs.Prelude.{Some, None, find, flat_map, option_and_then, ◌==◌}
use Rattle.std.specs.Option.{option_or}
use Rattle.std.proofs.lemmas.Bool.{false≢true}
use Rattle.std.proofs.lemmas.Bool.Decides.{Decides-eqb}
use Rattle.std.proofs.lemmas.List.Folds.{find-append}
use Rattle.gu_base.specs.Numbers.{EntryPart}
use Rattle.gu_base.specs.History.{numbered_as, numbered_from, records}
use Rattle.gu_base.specs.Nodes.{node_of, nodes_of, same_name, parent}
use Rattle.gu_base.specs.Places.{line_within, root_along}
use Rattle.gu_base.specs.Answers.{entry_of}
use Rattle.gu_base.specs.declared.command.Command.{Command}
use Rattle.gu_base.specs.declared.entry.Entry.{Entry}
use Rattle.gu_base.specs.declared.entry.Record.{Record}
use Rattle.gu_base.specs.declared.node.Node.{Node}
use Rattle.gu_base.proofs.Basics.{or_none, no_some}
use Rattle.gu_base.proofs.NodeNames.{made_entry, made}
use Rattle.gu_base.proofs.Numbered.{length_numbered}

abbrev is_named : EntryPart → Node → Bool
is_named n x = same_name x.name n

-- another entry makes no node of this name
no_node : (k : ℕ) (n : EntryPart) (by : List ℕ) (c : Command) → (n.entry ≡ k → ⊥)
    → find (is_named n) (nodes_of k by c) ≡ None
no_node k n by c apart_of =
    no_some (find (is_named n) (nodes_of k by c)) (λ x found. apart_of (made_entry n k by c x found))

none_above : (k : ℕ) (n : EntryPart) (h : List Entry) → n.entry < k
    → find (is_named n) (flat_map made (numbered_from k h)) ≡ None
none_above k n [] below = refl
none_above k n (e ∷ es) below =
    find-append (is_named n) (nodes_of k e.firm e.command) (flat_map made (numbered_from (k + 1) es))
    ∙ (ap (λ o. option_or o (find (is_named n) (flat_map made (numbered_from (k + 1) es))))
    (no_node k n e.firm e.command (λ s. omega arith))
    ∙ none_above (k + 1) n es (omega arith))

-- what a record makes of this name, with the number that the name tells
abbrev pub made_in : EntryPart → Option Record → Option Node
made_in n None = None
made_in n (Some r) = find (λ x. same_name x.name n) (nodes_of n.entry r.firm r.command)

abbrev numbered_in : EntryPart → Record → Bool
numbered_in n r = r.number == n.entry

by_test : (k : ℕ) (n : EntryPart) (e : Entry) (es : List Entry) (b : Bool) → eqb k n.entry ≡ b
    → made_in n (find (numbered_in n) (numbered_from (k + 1) es))
    ≡ find (is_named n) (flat_map made (numbered_from (k + 1) es))
    → made_in n (cond b (Some (numbered_as k e)) (find (numbered_in n) (numbered_from (k + 1) es)))
    ≡ find (is_named n) (nodes_of k e.firm e.command ++ flat_map made (numbered_from (k + 1) es))
by_test k n e es true here others =
    let there : k ≡ n.entry = (Decides-eqb k n.entry).0 here in
    ap (λ m. find (is_named n) (nodes_of m e.firm e.command)) (sym there)
    ∙ (sym (or_none (find (is_named n) (nodes_of k e.firm e.command)))
    ∙ (ap (λ o. option_or (find (is_named n) (nodes_of k e.firm e.command)) o)
    (sym (none_above (k + 1) n es (omega arith)))
    ∙ sym (find-append (is_named n) (nodes_of k e.firm e.command) (flat_map made (numbered_from (k + 1) es)))))
by_test k n e es false here others =
    let not_here : n.entry ≡ k → ⊥ = λ s. false≢true (sym here ∙ (Decides-eqb k n.entry).1 (sym s)) in
    others ∙ (ap (λ o. option_or o (find (is_named n) (flat_map made (numbered_from (k + 1) es))))
    (sym (no_node k n e.firm e.command not_here))
    ∙ sym (find-append (is_named n) (nodes_of k e.firm e.command) (flat_map made (numbered_from (k + 1) es))))

pub node_from : (k : ℕ) (n : EntryPart) (h : List Entry)
    → made_in n (find (numbered_in n) (numbered_from k h)) ≡ find (is_named n) (flat_map made (numbered_from k h))
node_from k n [] = refl
node_from k n (e ∷ es) = by_test k n e es (eqb k n.entry) refl (node_from (k + 1) n es)

-- a node is what its entry makes
pub node_some : (h : List Entry) (n : EntryPart) (r : Record) → Some r ≡ entry_of h n.entry
    → find (λ x. same_name x.name n) (nodes_of n.entry r.firm r.command) ≡ node_of (records h) n
node_some h n r e = ap (made_in n) e ∙ node_from 1 n h

pub node_none : (h : List Entry) (n : EntryPart) → None ≡ entry_of h n.entry → None ≡ node_of (records h) n
node_none h n e = ap (made_in n) e ∙ node_from 1 n h

-- there are as many records as entries
pub as_long : (h : List Entry) → length (records h) ≡ length h
as_long h = length_numbered 1 h

last : (o : Option EntryPart) (n m : EntryPart) → option_or o (Some n) ≡ option_or (option_or o (Some n)) (Some m)
last None n m = refl
last (Some r) n m = refl

-- the root of a line is that of the line above its first node, or else that node
pub root_above : (x : Node) (above : List Node) → root_along (x ∷ above) ≡ option_or (root_along above) (Some x.name)
root_above x [] = refl
root_above x (y ∷ above) =
    root_above y above
    ∙ (last (root_along above) y.name x.name ∙ ap (λ o. option_or o (Some x.name)) (sym (root_above y above)))

-- nothing stands above the node, so it is the root
pub root_last : (l : List Record) (steps : ℕ) (x : Node) (n : EntryPart) → 1 ≤ steps → Some n ≡ parent x.kind
    → None ≡ root_along (line_within (steps - 1) l (node_of l n))
    → Some x.name ≡ root_along (line_within steps l (Some x))
root_last l zero x n low up above = absurd (omega arith)
root_last l (suc s) x n low up above =
    let e : suc s - 1 ≡ s = omega arith in
    let nothing : None ≡ root_along (line_within s l (node_of l n)) =
    above ∙ ap (λ m. root_along (line_within m l (node_of l n))) e in
    sym (root_above x (line_within s l (option_and_then (node_of l) (parent x.kind)))
    ∙ ap (λ o. option_or o (Some x.name))
    (ap (λ p. root_along (line_within s l (option_and_then (node_of l) p))) (sym up) ∙ sym nothing))
