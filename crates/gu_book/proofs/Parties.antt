-- What a test says of the firms that the records of a list name: of those of its nodes, and of the parties of its
-- changes.
use Rattle.gu_book.proofs.Vocabulary
use Rattle.gu_depend.proofs
use proofs.Vocabulary.{Agree}
use proofs.Vocabulary.{Cancel, Claim, Given, giver_alone, Kind, NamesOnly, of_node, Own, Raise, Refuse, taker_and_giver}
use Rattle.{gu_book.proofs.Within.{All-one, node_has, parts_have}, std.specs.List.list_all}
use Vocabulary.{All, All-nil, All-weaker, Bool, bytes_eq, Command, cond, EntryPart, false, House, IfSome, List, made}
use Vocabulary.{Node, node_of, nodes_of, None, Option, Part, parties_of, Record, refl, Some, Split, Trade, true, ℕ, ◌≡◌}

-- the firm of a record passes, and those that its command names
pub record RecordNames (p : List ℕ → Bool) (r : Record) : Type 0 where
  pub by : p r.firm ≡ true
  pub named : NamesOnly p r.command

-- giver and taker of a node pass, if it is given
abbrev pub KindNames : (List ℕ → Bool) → Kind → Type 0
KindNames p (Given _ giver taker) = (p giver ≡ true) × (p taker ≡ true)
KindNames p _ = Unit {0}

name_kind : (p : List ℕ → Bool) (b : Bool) (m : EntryPart) (by : List ℕ) (q : Part) → p by ≡ true → p q.firm ≡ true
    → KindNames p (cond b (Own m by q.account) (Given m by q.firm))
name_kind p true m by q h k = tt
name_kind p false m by q h k = (h, k)

name_made : (p : List ℕ → Bool) (k : ℕ) (by : List ℕ) (c : Command) → p by ≡ true → NamesOnly p c
    → All (λ x. KindNames p x.kind) (nodes_of k by c)
name_made p k by (Trade firm account instrument side lots) h named =
    All-one (λ (x : Node). KindNames p x.kind) _ tt
name_made p k by (Split m ps) h named =
    parts_have (λ (x : Node). KindNames p x.kind) (λ (q : Part). p q.firm ≡ true) k m by
    (λ i q passes. name_kind p (bytes_eq q.firm by) m by q h passes) 1 ps named
name_made p k by _ h named = All-nil (λ (x : Node). KindNames p x.kind)

-- those that a node of such records names pass
pub name_node : (p : List ℕ → Bool) (l : List Record) (n : EntryPart) → All (RecordNames p) l
    → IfSome (node_of l n) (λ x. KindNames p x.kind)
name_node p l n all =
    node_has (λ (x : Node). KindNames p x.kind) l n
    (All-weaker (RecordNames p) (λ (r : Record). All (λ (x : Node). KindNames p x.kind) (made r))
    (λ r h. name_made p r.number r.firm r.command h.by h.named) l all)

node_passes : (p : List ℕ → Bool) (f : Kind → List (List ℕ)) → ((k : Kind) → KindNames p k → list_all p (f k) ≡ true)
    → (o : Option Node) → IfSome o (λ x. KindNames p x.kind) → list_all p (of_node f o) ≡ true
node_passes p f passes None h = refl
node_passes p f passes (Some x) h = passes x.kind h

both_pass : (p : List ℕ → Bool) (k : Kind) → KindNames p k → list_all p (taker_and_giver k) ≡ true
both_pass p (Given _ giver taker) h = rw (h.1, h.0) refl
both_pass p _ h = refl

giver_passes : (p : List ℕ → Bool) (k : Kind) → KindNames p k → list_all p (giver_alone k) ≡ true
giver_passes p (Given _ giver taker) h = rw h.0 refl
giver_passes p _ h = refl

-- the parties of a change pass
pub parties_pass : (p : List ℕ → Bool) (t : House) (l : List Record) (by : List ℕ) (c : Command) → p t.house ≡ true
    → p by ≡ true → NamesOnly p c → All (RecordNames p) l → list_all p (parties_of t l by c) ≡ true
parties_pass p t l by (Trade firm account instrument side lots) house h named all = rw (house, named) refl
parties_pass p t l by (Split n ps) house h named all = rw h refl
parties_pass p t l by (Claim n account) house h named all =
    node_passes p taker_and_giver (both_pass p) (node_of l n) (name_node p l n all)
parties_pass p t l by (Refuse n) house h named all =
    node_passes p taker_and_giver (both_pass p) (node_of l n) (name_node p l n all)
parties_pass p t l by (Cancel n) house h named all =
    node_passes p giver_alone (giver_passes p) (node_of l n) (name_node p l n all)
parties_pass p t l by (Agree giver taker rate limit) house h named all = rw (house, named.0, named.1) refl
parties_pass p t l by (Raise giver lots) house h named all = rw (h, named) refl
parties_pass p t l by _ house h named all = refl
