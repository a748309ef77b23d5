-- In a history of a run each node that a change names is there, and going up from it leads to a Trade.
use Rattle.std.proofs.Common.{◌≡◌, ℕ, zero, suc, ◌+◌, ◌<◌, ◌≤◌, Bool, true, false, List, [], ◌∷◌, ◌++◌, refl, sym, ◌∙◌}
use Rattle.std.proofs.Common.{ap, subst, arith, Option, cond, eqb, length}
use Rattle.std.specs.Prelude.{Some, None, find, filter, option_and_then, ◌==◌}
use Rattle.std.specs.Option.{option_or}
use Rattle.std.proofs.lemmas.Bool.Decides.{Decides-eqb}
use Rattle.std.proofs.lemmas.List.Folds.{find-append}
use Rattle.std.proofs.lemmas.Option.{same_Some}
use Rattle.gu_base.specs.Numbers.{EntryPart}
use Rattle.gu_base.specs.House.{House}
use Rattle.gu_base.specs.History.{numbered_as, numbered_from, records, live, is_change}
use Rattle.gu_base.specs.Nodes.{node_of, nodes, nodes_of, same_name, parent}
use Rattle.gu_base.specs.Places.{line_within, root_along, root_of}
use Rattle.gu_base.specs.Answers.{entry_of}
use Rattle.gu_base.specs.Runs.{IsRunFrom}
use Rattle.gu_base.specs.declared.command.Command.{Command}
use Rattle.gu_base.specs.declared.command.Command.TheVariants.{Trade, Split, Claim, Refuse, Cancel, Agree, Raise}
use Rattle.gu_base.specs.declared.command.Command.TheVariants.{Initiate, Decline, Reverse}
use Rattle.gu_base.specs.declared.entry.Entry.{Entry}
use Rattle.gu_base.specs.declared.entry.Record.{Record}
use Rattle.gu_base.specs.declared.node.Kind.TheVariants.{Root}
use Rattle.gu_base.specs.declared.node.Node.{Node}
use Rattle.gu_base.proofs.Accepted.{allowed, change_refused}
use Rattle.gu_base.proofs.Passing.{refusal_parts}
use Rattle.gu_base.proofs.Numbered.{found_at}
use Rattle.gu_base.proofs.NodeNames.{node_called, part_parent, first_or}
use Rattle.gu_base.proofs.Lines.{node_more}
use Rattle.gu_base.proofs.LiveLaws.{is_live}
use Rattle.gu_tree.specs.Shown.{named_node}
use Rattle.gu_book.proofs.Orders.{names_there}
use Rattle.gu_base.specs.declared.node.Deal.{Deal}
use Rattle.gu_base.specs.Nodes.{deal_in}
use Rattle.gu_trace.specs.Deals.{deal_of}
use Rattle.gu_trace.proofs.Lookups.{made_in, node_from, as_long, root_above}

-- ---- entries at their places

-- an entry of a history, between those before it and those behind it
pub record IsCut (k m : ℕ) (h : List Entry) (r : Record) : Type 0 where
  pub before : List Entry
  pub entry : Entry
  pub behind : List Entry
  pub cut : h ≡ before ++ entry ∷ behind
  pub is : numbered_as k entry ≡ r
  pub place : m + length before ≡ k

-- at the first entry, or behind it
cut_here : (k m : ℕ) (d : Entry) (h : List Entry) (r : Record) (b : Bool) → eqb m k ≡ b
    → (find (λ q. q.number == k) (numbered_from (m + 1) h) ≡ Some r → IsCut k (m + 1) h r)
    → cond b (Some (numbered_as m d)) (find (λ q. q.number == k) (numbered_from (m + 1) h)) ≡ Some r
    → IsCut k m (d ∷ h) r
cut_here k m d h r true test later found =
    let same : m ≡ k = (Decides-eqb m k).0 test in
    record {
      before = [];
      entry = d;
      behind = h;
      cut = refl;
      is = ap (λ n. numbered_as n d) (sym same) ∙ same_Some (numbered_as m d) r found;
      place = omega (arith, same);
    }
cut_here k m d h r false test later found =
    let c = later found in
    let at : m + 1 + length c.before ≡ k = c.place in
    record {
      before = d ∷ c.before;
      entry = c.entry;
      behind = c.behind;
      cut = ap (λ es. d ∷ es) c.cut;
      is = c.is;
      place = omega (arith, at);
    }

cut_from : (k m : ℕ) (h : List Entry) (r : Record) → find (λ q. q.number == k) (numbered_from m h) ≡ Some r
    → IsCut k m h r
cut_from k m [] r found = absurd (cc)
cut_from k m (d ∷ h) r found = cut_here k m d h r (eqb m k) refl (cut_from k (m + 1) h r) found

-- an entry that is found by its number stands at its place
pub cut_at : (k : ℕ) (h : List Entry) (r : Record) → entry_of h k ≡ Some r → IsCut k 1 h r
cut_at k h r found = cut_from k 1 h r found

-- the numbers go on behind the first entries
pub numbered_append : (m : ℕ) (h k : List Entry) → numbered_from m (h ++ k) ≡ numbered_from m h
    ++ numbered_from (m + length h) k
numbered_append m [] k = ap (λ n. numbered_from n k) (omega arith)
numbered_append m (e ∷ h) k =
    ap (λ rs. numbered_as m e ∷ rs)
    (numbered_append (m + 1) h k ∙ ap (λ n. numbered_from (m + 1) h ++ numbered_from n k) (omega arith))

-- what is found in the first entries is found in all of them
pub entry_more : (h k : List Entry) (n : ℕ) (r : Record) → entry_of h n ≡ Some r → entry_of (h ++ k) n ≡ Some r
entry_more h k n r found =
    ap (find (λ q. q.number == n)) (numbered_append 1 h k)
    ∙ (find-append (λ q. q.number == n) (records h) (numbered_from (1 + length h) k)
    ∙ ap (λ o. option_or o (find (λ q. q.number == n) (numbered_from (1 + length h) k))) found)

-- the same of a node
pub node_later : (h k : List Entry) (n : EntryPart) (x : Node) → node_of (records h) n ≡ Some x
    → node_of (records (h ++ k)) n ≡ Some x
node_later h k n x found =
    ap (λ l. node_of l n) (numbered_append 1 h k) ∙ node_more (records h) (numbered_from (1 + length h) k) n x found

-- ---- nodes of some changes among all of them

abbrev IsThere : Option Node → Type 0
IsThere o = (y : Node) × (o ≡ Some y)

-- one of two, or the other
some_or : (a b : Option Node) → IsThere b → IsThere (option_or a b)
some_or None b later = later
some_or (Some z) b later = (z, refl)

or_some : (a b c : Option Node) (x : Node) → option_or a b ≡ Some x → (b ≡ Some x → IsThere c) → IsThere (option_or a c)
or_some None b c x found later = later found
or_some (Some z) b c x found later = (z, refl)

abbrev made_by : Record → EntryPart → Option Node
made_by r n = find (λ x. same_name x.name n) (nodes_of r.number r.firm r.command)

-- the node of the first change, or else of the others
first_made : (r : Record) (l : List Record) (n : EntryPart) → node_of (r ∷ l) n ≡ option_or (made_by r n) (node_of l n)
first_made r l n = find-append (λ x. same_name x.name n) (nodes_of r.number r.firm r.command) (nodes l)

kept_or_not : (p : Record → Bool) (r : Record) (l : List Record) (n : EntryPart) (x : Node) (b : Bool)
    → ((y : Node) → node_of (filter p l) n ≡ Some y → IsThere (node_of l n))
    → node_of (cond b (r ∷ filter p l) (filter p l)) n ≡ Some x → IsThere (option_or (made_by r n) (node_of l n))
kept_or_not p r l n x true later found =
    or_some (made_by r n) (node_of (filter p l) n) (node_of l n) x (sym (first_made r (filter p l) n) ∙ found) (later x)
kept_or_not p r l n x false later found = some_or (made_by r n) (node_of l n) (later x found)

-- where some of the changes make a node of this name, so do all of them together
unfiltered : (p : Record → Bool) (l : List Record) (n : EntryPart) (x : Node) → node_of (filter p l) n ≡ Some x
    → IsThere (node_of l n)
unfiltered p [] n x found = absurd (cc)
unfiltered p (r ∷ l) n x found =
    subst IsThere (sym (first_made r l n)) (kept_or_not p r l n x (p r) (λ y there. unfiltered p l n y there) found)

-- ---- the nodes that changes name

-- only changes name nodes
naming_changes : (c : Command) (n : EntryPart) → named_node c ≡ Some n → is_change c ≡ true
naming_changes (Split _ _) n h = refl
naming_changes (Claim _ _) n h = refl
naming_changes (Refuse _) n h = refl
naming_changes (Cancel _) n h = refl
naming_changes (Trade _ _ _ _ _) n h = refl
naming_changes (Agree _ _ _ _) n h = refl
naming_changes (Raise _ _) n h = refl
naming_changes (Initiate _) n h = absurd (cc)
naming_changes (Decline _) n h = absurd (cc)
naming_changes (Reverse _) n h = absurd (cc)

-- a node of a history is made by an entry of it
pub record IsMade (h : List Entry) (n : EntryPart) (x : Node) : Type 0 where
  pub by : Record
  pub found : entry_of h n.entry ≡ Some by
  pub made : find (λ y. same_name y.name n) (nodes_of n.entry by.firm by.command) ≡ Some x

-- the entry of its number made it
made_at : (h : List Entry) (n : EntryPart) (x : Node) (o : Option Record) → entry_of h n.entry ≡ o
    → made_in n o ≡ Some x → IsMade h n x
made_at h n x None there made = absurd (cc)
made_at h n x (Some r) there made = record { by = r; found = there; made = made }

pub is_made : (h : List Entry) (n : EntryPart) (x : Node) → node_of (records h) n ≡ Some x → IsMade h n x
is_made h n x found = made_at h n x (entry_of h n.entry) refl (node_from 1 n h ∙ found)

-- the node that an entry names: it is there, and made before
pub record IsNamed (h before : List Entry) (n : EntryPart) : Type 0 where
  pub node : Node
  pub there : node_of (records h) n ≡ Some node
  pub earlier : n.entry ≤ length before

-- a change of a run names a node that is there, and made before it
pub named_there : (t : House) (h before behind : List Entry) (e : Entry) (n : EntryPart) → IsRunFrom t [] h
    → h ≡ before ++ e ∷ behind → named_node e.command ≡ Some n → IsNamed h before n
named_there t h before behind e n run cut names =
    let free = allowed t before e (length before + 1) (run.accepted before behind e cut (omega arith)) in
    let lawful = sym (change_refused t before e.firm e.command (naming_changes e.command n names)) ∙ free.lawful in
    let alive =
    names_there t (live before) e.firm e.command n (refusal_parts t (live before) e.firm e.command lawful).1 names in
    let first = unfiltered (is_live before) (records before) n alive.0 alive.1 in
    let made = is_made before n first.0 first.1 in
    let at = found_at n.entry 1 before made.by made.found in
    let low : n.entry < 1 + length before = at.within in
    record {
      node = first.0;
      there = ap (λ (es : List Entry). node_of (records es) n) cut ∙ node_later before (e ∷ behind) n first.0 first.1;
      earlier = omega (arith, low);
    }

-- ---- up to the Trade

abbrev deal_at : List Entry → EntryPart → Option Deal
deal_at h root = option_and_then (λ r. deal_in r.command) (entry_of h root.entry)

-- the line of nodes ends at a Trade
record EndsAtTrade (h : List Entry) (above : List Node) : Type 0 where
  root : EntryPart
  deal : Deal
  ends : root_along above ≡ Some root
  trades : deal_at h root ≡ Some deal

-- a node above which the line ends so
one_more : (h : List Entry) (x : Node) (above : List Node) → EndsAtTrade h above → EndsAtTrade h (x ∷ above)
one_more h x above top = record {
  root = top.root;
  deal = top.deal;
  ends = root_above x above ∙ ap (λ o. option_or o (Some x.name)) top.ends;
  trades = top.trades;
}

-- a node without a parent is a root
root_kind : (n : EntryPart) (y x : Node) → parent y.kind ≡ None → cond (same_name y.name n) (Some y) None ≡ Some x
    → parent x.kind ≡ None
root_kind n y x none found =
    first_or n y.name y x None (parent x.kind ≡ None) (λ is same. ap (λ (z : Node). parent z.kind) (sym same) ∙ none)
    (λ nothing. absurd (cc)) (same_name y.name n) refl found

-- by the command that made a node
by_command : (t : House) (h : List Entry) (s : ℕ) (n : EntryPart) (x : Node) (r : Record) (c : Command)
    → IsRunFrom t [] h → node_of (records h) n ≡ Some x → n.entry ≤ suc s → entry_of h n.entry ≡ Some r → r.command ≡ c
    → find (λ y. same_name y.name n) (nodes_of n.entry r.firm c) ≡ Some x
    → ((m : EntryPart) (y : Node) → node_of (records h) m ≡ Some y → m.entry ≤ s
    → EndsAtTrade h (line_within s (records h) (Some y)))
    → EndsAtTrade h (line_within (suc s) (records h) (Some x))
by_command t h s n x r (Trade firm account instrument side lots) run found low there is made up =
    let none : parent x.kind ≡ None = root_kind n
    (record {
      name = record { entry = n.entry; part = 0 };
      lots = lots;
      kind = Root (record { firm = firm; account = account });
    })
    x refl made in
    let called : x.name ≡ n = node_called (records h) n x found in
    record {
      root = x.name;
      deal = record { instrument = instrument; side = side };
      ends = ap (λ p. root_along (x ∷ line_within s (records h) (option_and_then (node_of (records h)) p))) none;
      trades = ap (λ (m : EntryPart). deal_at h m) called
          ∙ (ap (λ o. option_and_then (λ q. deal_in q.command) o) there ∙ ap deal_in is);
    }
by_command t h s n x r (Split m ps) run found low there is made up =
    let above : parent x.kind ≡ Some m = part_parent n m n.entry 1 r.firm ps x made in
    let c = cut_at n.entry h r there in
    let splits : named_node c.entry.command ≡ Some m =
    ap (λ (q : Record). named_node q.command) c.is ∙ ap named_node is in
    let named = named_there t h c.before c.behind c.entry m run c.cut splits in
    let place : 1 + length c.before ≡ n.entry = c.place in
    let earlier : m.entry ≤ length c.before = named.earlier in
    subst (λ (o : Option Node). EndsAtTrade h (x ∷ line_within s (records h) o))
    (sym (ap (option_and_then (node_of (records h))) above ∙ named.there))
    (one_more h x (line_within s (records h) (Some named.node))
    (up m named.node named.there (omega (arith, place, earlier, low))))
by_command t h s n x r (Claim _ _) run found low there is made up = absurd (cc)
by_command t h s n x r (Refuse _) run found low there is made up = absurd (cc)
by_command t h s n x r (Cancel _) run found low there is made up = absurd (cc)
by_command t h s n x r (Agree _ _ _ _) run found low there is made up = absurd (cc)
by_command t h s n x r (Raise _ _) run found low there is made up = absurd (cc)
by_command t h s n x r (Initiate _) run found low there is made up = absurd (cc)
by_command t h s n x r (Decline _) run found low there is made up = absurd (cc)
by_command t h s n x r (Reverse _) run found low there is made up = absurd (cc)

-- for each node, by the number of its entry
ends_from : (t : House) (h : List Entry) → IsRunFrom t [] h → (s : ℕ) (n : EntryPart) (x : Node)
    → node_of (records h) n ≡ Some x → n.entry ≤ s → EndsAtTrade h (line_within s (records h) (Some x))
ends_from t h run zero n x found low =
    let made = is_made h n x found in
    let at = found_at n.entry 1 h made.by made.found in
    let high : 1 ≤ n.entry = at.from in
    absurd (omega (arith, high, low))
ends_from t h run (suc s) n x found low =
    let made = is_made h n x found in
    by_command t h s n x made.by made.by.command run found low made.found refl made.made
    (λ m y there below. ends_from t h run s m y there below)

-- each node of a run has a trade
pub has_deal : (t : House) (h : List Entry) (n : EntryPart) (x : Node) → IsRunFrom t [] h
    → node_of (records h) n ≡ Some x → (d : Deal) × (deal_of h n ≡ Some d)
has_deal t h n x run found =
    let made = is_made h n x found in
    let at = found_at n.entry 1 h made.by made.found in
    let within : n.entry < 1 + length h = at.within in
    let long = as_long h in
    let top = ends_from t h run (length (records h)) n x found (omega (arith, within, long)) in
    let root : root_of (records h) n ≡ Some top.root =
    ap (λ o. root_along (line_within (length (records h)) (records h) o)) found ∙ top.ends in
    (top.deal, ap (option_and_then (deal_at h)) root ∙ top.trades)
