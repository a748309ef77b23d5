-- The live changes of a history, found by their numbers, and the nodes that they name.
use Rattle.std.proofs.Common.{◌≡◌, ℕ, ◌<◌, ◌∙◌, inl, inr, Bool, true, false, cond, List, [], ◌∷◌}
use Rattle.std.proofs.Common.{length, map, filter, Option, Some, None, refl, sym, ap, subst}
use Rattle.std.proofs.Common.{All, Contains}
use Rattle.std.specs.Prelude.{option_map, option_and_then, slice_get, not, ◌&&◌}
use Rattle.std.proofs.lemmas.Option.{slice_get_cases, get_or_from_slice_get, slice_get-map}
use Rattle.std.proofs.lemmas.List.Elements.{All-filter, All-contains, All-contains_itself}
use Rattle.gu_base.specs.Answers.{entry_of}
use Rattle.gu_base.specs.History.{records, live, is_change, is_reversed, numbered_as}
use Rattle.gu_base.specs.House.{House}
use Rattle.gu_base.specs.Nodes.{node_of}
use Rattle.gu_base.specs.Numbers.{EntryPart}
use Rattle.gu_base.specs.Standing.{IsLegal}
use Rattle.gu_base.specs.declared.command.Command.{Command}
use Rattle.gu_base.specs.declared.command.Command.TheVariants.{Trade, Split, Claim, Refuse, Cancel}
use Rattle.gu_base.specs.declared.command.Command.TheVariants.{Agree, Raise, Initiate, Decline, Reverse}
use Rattle.gu_base.specs.declared.entry.Entry.{Entry}
use Rattle.gu_base.specs.declared.entry.Record.{Record}
use Rattle.gu_base.specs.Fees.{charge_of_kind, charge_of_node}
use Rattle.gu_base.specs.Terms.{terms_of}
use Rattle.gu_base.specs.declared.house.Agreement.{Agreement}
use Rattle.gu_base.specs.declared.node.Charge.{Charge}
use Rattle.gu_base.specs.declared.node.Kind.{Kind}
use Rattle.gu_base.specs.declared.node.Kind.TheVariants.{Root, Own, Given}
use Rattle.gu_base.specs.declared.node.Node.{Node}
use Rattle.gu_statement.specs.Lines.{Whose, is_of, hop_of}
use Rattle.gu_statement.specs.Kinds.{charge_seen, hop_by, seen_hop, hop_there}
use Rattle.gu_book.proofs.ByNumber.{its_own, records_once}
use Rattle.gu_book.proofs.Leaves.{live_rises}
use Rattle.gu_depend.proofs.Deals.{Settled, SettledAs, facts}
use Rattle.gu_depend.proofs.Grown.{maker}
use Rattle.gu_depend.proofs.Replay.{legal_list}
use Rattle.gu_depend.proofs.StandsLast.{node_of_maker}
use Rattle.gu_depend.proofs.StandsUnder.{rises_distinct}

-- what stands at a place is in the list
pub contained : {X : Type 0} (xs : List X) (i : ℕ) (x : X) → slice_get xs i ≡ Some x → Contains xs x
contained xs i x e = elim (slice_get_cases xs i).1 [
  | inl q ↦ (i, q.1, get_or_from_slice_get xs i x x e)
  | inr q ↦ absurd (cc (e, q.1))
]

-- a live change is a record of the history
pub live_record : (h : List Entry) (r : Record) → Contains (live h) r → Contains (records h) r
live_record h r among =
    All-contains (Contains (records h)) (live h) r
    (All-filter (λ (r : Record). is_change r.command && not (is_reversed h r.number)) (Contains
    (records h)) (records h)
    (All-contains_itself (records h)))
    among

-- found by its number
pub live_entry : (h : List Entry) (r : Record) → Contains (live h) r → entry_of h r.number ≡ Some r
live_entry h r among = its_own (records h) r (records_once h) (live_record h r among)

-- a node of a live change is that of the history
pub live_node : (h : List Entry) (n : EntryPart) (x : Node) → node_of (live h) n ≡ Some x
    → node_of (records h) n ≡ Some x
live_node h n x e =
    let m = maker (live h) n x e in
    node_of_maker (records h) m.change n x (records_once h) (live_record h m.change m.among) m.makes_it

-- what a live Claim names
pub claimed_node : (t : House) (h : List Entry) (r : Record) (n : EntryPart) (account : List ℕ)
    → IsLegal t (live h) → Contains (live h) r → r.command ≡ Claim n account
    → node_of (records h) n ≡ node_of (live h) n
claimed_node t h r n account legal among is =
    let l = live h in
    let whole = legal_list t l (rises_distinct 1 l (live_rises h)) legal in
    let settled : Settled t l r =
    All-contains (Settled t l) l r (facts t l whole.replayed).settled among in
    let at : SettledAs t l r.firm (Claim n account) = subst (SettledAs t l r.firm) is settled.stands in
    live_node h n at.node at.there ∙ sym at.there

-- ---- what stands at a place among them

-- an entry of the number at the place is the change there
pub live_at : (h : List Entry) (i n : ℕ) (o : Option Record) → slice_get (map (λ (r : Record).
    r.number) (live h)) i ≡ Some n
    → o ≡ entry_of h n → o ≡ slice_get (live h) i
live_at h i n o at is = elim (slice_get_cases (live h) i).1 [
  | inl q ↦
      let same : n ≡ q.0.number = cc (at, slice_get-map (λ (r : Record). r.number) (live h) i, q.2) in
      is ∙ (ap (entry_of h) same ∙ (live_entry h q.0 (contained (live h) i q.0 q.2) ∙ sym q.2))
  | inr q ↦ absurd (cc (at, slice_get-map (λ (r : Record). r.number) (live h) i, q.1))
]

-- and where there is no number there is none
pub live_past : (h : List Entry) (i : ℕ) → slice_get (map (λ (r : Record). r.number) (live h)) i ≡ None
    → slice_get (live h) i ≡ None
live_past h i at = elim (slice_get_cases (live h) i).1 [
  | inl q ↦ absurd (cc (at, slice_get-map (λ (r : Record). r.number) (live h) i, q.2))
  | inr q ↦ q.1
]

-- ---- hops

by_terms : (whose : Whose) (k : ℕ) (n : EntryPart) (g d : List ℕ) (lots : ℕ) (o : Option Agreement) (b : Bool)
    → is_of whose (g ∷ d ∷ []) ≡ b
    → option_map (λ (c : Charge). record { entry = k; node = n; charge = c })
    (cond b (option_map (λ (a : Agreement). record { giver = g; taker = d; lots = lots; rate = a.rate }) o) None)
    ≡ seen_hop whose (option_map (λ (c : Charge). record { entry = k; node = n; charge = c })
    (option_map (λ (a : Agreement). record { giver = g; taker = d; lots = lots; rate = a.rate }) o))
by_terms whose k n g d lots None true e = refl
by_terms whose k n g d lots None false e = refl
by_terms whose k n g d lots (Some a) true e = rw e refl
by_terms whose k n g d lots (Some a) false e = rw e refl

by_kind : (t : House) (l : List Record) (whose : Whose) (k : ℕ) (n : EntryPart) (lots : ℕ) (kind : Kind)
    → option_map (λ (c : Charge). record { entry = k; node = n; charge = c }) (charge_seen t l whose lots kind)
    ≡ seen_hop whose (option_map (λ (c : Charge). record { entry = k; node = n; charge = c })
    (charge_of_kind t l lots kind))
by_kind t l whose k n lots (Root p) = refl
by_kind t l whose k n lots (Own p f a) = refl
by_kind t l whose k n lots (Given p g d) = by_terms whose k n g d lots (terms_of t l g d) (is_of whose
    (g ∷ d ∷ [])) refl

by_node : (t : House) (l : List Record) (whose : Whose) (k : ℕ) (n : EntryPart) (o : Option Node)
    → option_map (λ (c : Charge). record { entry = k; node = n; charge = c })
    (option_and_then (λ (x : Node). charge_seen t l whose x.lots x.kind) o)
    ≡ seen_hop whose (option_map (λ (c : Charge). record { entry = k; node = n; charge = c })
    (option_and_then (charge_of_node t l) o))
by_node t l whose k n None = refl
by_node t l whose k n (Some x) = by_kind t l whose k n x.lots x.kind

hop_command : (t : House) (h : List Entry) (whose : Whose) (r : Record) (c : Command) → IsLegal t (live h)
    → Contains (live h) r → r.command ≡ c
    → hop_by t h whose r.number c ≡ seen_hop whose (hop_of t (live h) r.number c)
unfolding hop_by
hop_command t h whose r (Claim n account) legal among is =
    ap (λ (o : Option Node).
    option_map (λ (c : Charge). record { entry = r.number; node = n; charge = c })
    (option_and_then (λ (x : Node). charge_seen t (live h) whose x.lots x.kind) o))
    (claimed_node t h r n account legal among is)
    ∙ by_node t (live h) whose r.number n (node_of (live h) n)
hop_command t h whose r (Trade _ _ _ _ _) legal among is = refl
hop_command t h whose r (Split _ _) legal among is = refl
hop_command t h whose r (Refuse _) legal among is = refl
hop_command t h whose r (Cancel _) legal among is = refl
hop_command t h whose r (Agree _ _ _ _) legal among is = refl
hop_command t h whose r (Raise _ _) legal among is = refl
hop_command t h whose r (Initiate _) legal among is = refl
hop_command t h whose r (Decline _) legal among is = refl
hop_command t h whose r (Reverse _) legal among is = refl

-- the hop that is made of a live change is that of the definition
pub hop_told : (t : House) (h : List Entry) (whose : Whose) (i : ℕ) (r : Record) → IsLegal t (live h)
    → Some r ≡ slice_get (live h) i
    → hop_by t h whose r.number r.command ≡ option_and_then (hop_there t (live h) whose) (slice_get (live h) i)
hop_told t h whose i r legal at =
    hop_command t h whose r r.command legal (contained (live h) i r (sym at)) refl
    ∙ ap (option_and_then (hop_there t (live h) whose)) at

-- of a change with its number, if there is one
pub hop_told_of : {P : Type 0} (number : P → ℕ) (entry : P → Entry) (t : House) (h : List Entry) (whose
    : Whose) (i : ℕ)
    (o : Option P) → IsLegal t (live h)
    → option_map (λ (p : P). numbered_as (number p) (entry p)) o ≡ slice_get (live h) i
    → option_and_then (λ (p : P). hop_by t h whose (number p) (entry p).command) o
    ≡ option_and_then (hop_there t (live h) whose) (slice_get (live h) i)
hop_told_of number entry t h whose i None legal at = ap (option_and_then (hop_there t (live h) whose)) at
hop_told_of number entry t h whose i (Some p) legal at =
    hop_told t h whose i (numbered_as (number p) (entry p)) legal at
