-- Names of nodes, and a list of changes that has some of the changes of another, each behind what it stands on.
use Rattle.gu_depend.proofs.Vocabulary
use Rattle.gu_base.proofs.NodeNames.{made_entry, part_parent}
use Rattle.gu_depend.proofs.Finds.{and_then_told, by_test, counts_less, some_there}
use Vocabulary.{All, All-contains, All-nil, All-push, All-weaker, ap, append-nil, append_assoc}
use Vocabulary.{arith, Bool, claim_of, claimed_account, Command, Contains, count_by, decides, Decides-eqb, decision_of}
use Vocabulary.{EntryPart, find, find-append, found_in, inl, inr, is_some, length, length-append, line_of, line_within}
use Vocabulary.{List, made, made_of, name_same, names, no_some, Node, node_called, node_more, node_of, nodes_of, None}
use Vocabulary.{none_or_some, option_and_then, parent, place_along, place_of, Record, refl, same_name, same_Some, Some}
use Vocabulary.{Split, splits, subst, suc, sym, Trade, true, zero, [], ℕ, ◌++◌, ◌+◌, ◌<◌, ◌==◌, ◌∙◌, ◌∷◌, ◌≡◌, ◌≤◌}

pub at_name : (l : List Record) (n : EntryPart) (x : Node) → node_of l n ≡ Some x → node_of l x.name ≡ Some x
at_name l n x h = subst (λ z. node_of l z ≡ Some x) (sym (node_called l n x h)) h

-- ---- the change that makes a node

abbrev pub makes : EntryPart → Record → Bool
makes n r = is_some (made_of r n)

-- a node is that of the first change that makes one of its name
pub node_by_maker : (l : List Record) (n : EntryPart)
    → node_of l n ≡ option_and_then (λ r. made_of r n) (find (makes n) l)
node_by_maker [] n = refl
node_by_maker (r ∷ l) n = find-append _ (made r) _ ∙ elim (none_or_some (made_of r n)) [
  | inl none ↦ cc (node_by_maker l n)
  | inr x ↦ cc
]

-- the change that makes a node that is found
pub record Maker (l : List Record) (n : EntryPart) (x : Node) : Type 0 where
  pub change : Record
  pub among : Contains l change
  pub makes_it : made_of change n ≡ Some x

pub maker : (l : List Record) (n : EntryPart) (x : Node) → node_of l n ≡ Some x → Maker l n x
maker l n x h =
    let m = and_then_told _ _ x (sym (node_by_maker l n) ∙ h) in
    record { change = m.0; among = found_in _ l m.0 m.1.0; makes_it = m.1.1 }

-- it has the number of the change that makes it
pub made_number : (r : Record) (n : EntryPart) (x : Node) → made_of r n ≡ Some x → n.entry ≡ r.number
made_number r n x h = made_entry n _ _ _ x h

parent_made : (n m : EntryPart) (k : ℕ) (by : List ℕ) (c : Command) (x : Node)
    → find (λ x. same_name x.name n) (nodes_of k by c) ≡ Some x → parent x.kind ≡ Some m → splits m c ≡ true
parent_made n m k by (Trade _ _ _ _ _) x h up =
    by_test (same_name (record { entry = k; part = 0 }) n) (λ is. cc) (λ other. cc)
parent_made n m k by (Split o ps) x h up =
    subst (λ z. same_name o z ≡ true) (same_Some o m (cc (part_parent n o k 1 by ps x h))) (name_same o)
parent_made n m k by _ x h up = cc

-- a node that has a parent is made by a Split of it
pub made_by_split : (r : Record) (n m : EntryPart) (x : Node) → made_of r n ≡ Some x → parent x.kind ≡ Some m
    → splits m r.command ≡ true
made_by_split r n m x h up = parent_made n m _ _ _ x h up

-- where a number stands once, its nodes are made once
pub makers_once : (l : List Record) (n : EntryPart) → count_by (λ r. r.number == n.entry) l ≤ 1
    → count_by (makes n) l ≤ 1
makers_once l n once =
    let a = counts_less _ _ l
    (λ r h. let x = some_there _ h in (Decides-eqb r.number n.entry).1 (sym (made_number r n x.0 x.1))) in
    omega arith

-- ---- a list of changes that has some of the changes of another, each behind what it stands on: what it says of a
-- node is what the other says

-- what is found in the second list is found in the first
pub record Within (l b : List Record) : Type 0 where
  pub nodes : (n : EntryPart) (x : Node) → node_of b n ≡ Some x → node_of l n ≡ Some x
  pub decisions : (n : EntryPart) (r : Record) → decision_of b n ≡ Some r → decision_of l n ≡ Some r

-- the node that a command, or a change, names is there
abbrev pub ThereFor : List Record → Command → Type 0
ThereFor b c = (n : EntryPart) → names n c ≡ true → (x : Node) × (node_of b n ≡ Some x)

abbrev pub NamesThere : List Record → Record → Type 0
NamesThere b r = ThereFor b r.command

-- a Split stands behind the decision of its node
abbrev pub SplitsDecided : List Record → List Record → Record → Type 0
SplitsDecided l b r = (n : EntryPart) → splits n r.command ≡ true → decision_of b n ≡ decision_of l n

-- a change follows what it stands on: the node that it names is there, and the node that it splits has its decision, if
-- it ever has one
pub record Follows (l b : List Record) (c : Command) : Type 0 where
  pub there : ThereFor b c
  pub decided : (n : EntryPart) → splits n c ≡ true → decision_of b n ≡ decision_of l n

-- each of some changes does, behind those before it
abbrev pub AllFollow : List Record → List Record → List Record → Type 0
AllFollow l b [] = Unit {0}
AllFollow l b (r ∷ rest) = Follows l b r.command × AllFollow l (b ++ r ∷ []) rest

pub follow_append : (l b xs ys : List Record) → AllFollow l b xs → AllFollow l (b ++ xs) ys → AllFollow l b (xs ++ ys)
follow_append l b [] ys first second = rw (append-nil b) at second
follow_append l b (r ∷ xs) ys first second = (
  first.0,
  follow_append l _ xs ys first.1 (rw (append_assoc b _ xs) second),
)

-- within as many steps as the list is long, each line has come to its end
abbrev pub LinesEnd : List Record → Type 0
LinesEnd b =
    (f : ℕ) (n : EntryPart) (x : Node) → node_of b n ≡ Some x → length b ≤ f
    → line_within f b (Some x) ≡ line_within (length b) b (Some x)

pub record Grown (l b : List Record) : Type 0 where
  pub within : Within l b
  pub named : All (NamesThere b) b
  pub decided : All (SplitsDecided l b) b
  pub short : length b ≤ length l
  pub ends : LinesEnd b

pub grown_none : (l : List Record) → Grown l []
grown_none l = record {
  within = record { nodes = λ n x e. cc; decisions = λ n r e. cc };
  named = All-nil _;
  decided = All-nil _;
  short = omega arith;
  ends = λ f n x e. cc;
}

-- a decision that both lists have, or neither, stays so
pub decided_more : (l b z : List Record) (n : EntryPart) → Within l (b ++ z) → decision_of b n ≡ decision_of l n
    → decision_of (b ++ z) n ≡ decision_of l n
decided_more l b z n w same = elim (none_or_some (decision_of b n)) [
  | inl none ↦
      no_some _ (λ d h. cc (w.decisions n d h))
      ∙ (cc)
  | inr d ↦ cc (find-append (λ r. decides n r.command) b z)
]

there_more : (b z : List Record) (c : Command) → ThereFor b c → ThereFor (b ++ z) c
there_more b z c h n is = let x = h n is in (x.0, node_more b z n x.0 x.1)

-- and what follows its own stays behind it
pub follows_more : (l b z : List Record) (c : Command) → Within l (b ++ z) → Follows l b c → Follows l (b ++ z) c
follows_more l b z c w f =
    record { there = there_more b z c f.there; decided = λ n is. decided_more l b z n w (f.decided n is) }

-- ---- lines

pub line_none : (f : ℕ) (l : List Record) → line_within f l None ≡ []
line_none f l = refl

-- where the nodes of the one list are those of the other, and what it names is there
module _ (l b : List Record) (nodes : (n : EntryPart) (x : Node) → node_of b n ≡ Some x → node_of l n ≡ Some x)
    (named : All (NamesThere b) b) where
  -- a node has the same line in both
  line_led : (f : ℕ) (n : EntryPart) (x : Node) → node_of b n ≡ Some x
      → line_within f b (Some x) ≡ line_within f l (Some x)
  line_led zero n x found = refl
  line_led (suc f) n x found = ap (λ xs. x ∷ xs) (elim (none_or_some (parent x.kind)) [
    | inl none ↦ cc
    | inr m ↦ (
        let by = maker b n x found in
        let y = All-contains (NamesThere b) b _ named by.among m.0
        (rw (made_by_split by.change n m.0 x by.makes_it m.1)) in
        cc (line_led f m.0 y.0 y.1, nodes m.0 y.0 y.1))
  ])

-- one change more
module _ (b : List Record) (r : Record) (named : All (NamesThere b) b) (ends : LinesEnd b)
    (there : NamesThere b r) where
  abbrev more : List Record
  more = b ++ r ∷ []

  -- so many steps, or more, lead to the same line, since above each node there are only such as were there before
  same_ends : (f g : ℕ) (n : EntryPart) (x : Node) → node_of more n ≡ Some x → length b < f → length b < g
      → line_within f more (Some x) ≡ line_within g more (Some x)
  same_ends zero g n x found far long = absurd (omega arith)
  same_ends (suc f) zero n x found far long = absurd (omega arith)
  same_ends (suc f) (suc g) n x found far long = ap (λ xs. x ∷ xs) (elim (none_or_some (parent x.kind)) [
    | inl none ↦ cc
    | inr m ↦ (
        let by = maker more n x found in
        let y = All-contains (NamesThere b) more _ (All-push (NamesThere b) b r named there) by.among m.0
        (rw (made_by_split by.change n m.0 x by.makes_it m.1)) in
        let old = λ (f : ℕ). line_led more b (node_more b _) named f m.0 y.0 y.1 in
        cc (
          node_more b (r ∷ []) m.0 y.0 y.1,
          old f,
          old g,
          ends f m.0 y.0 y.1 (omega arith),
          ends g m.0 y.0 y.1 (omega arith),
        ))
  ])

pub grown_push : (l b : List Record) (r : Record) → Grown l b → Within l (b ++ r ∷ []) → length (b ++ r ∷ []) ≤ length l
    → Follows l b r.command → Grown l (b ++ r ∷ [])
grown_push l b r g w short f =
    let more = b ++ r ∷ [] in
    record {
      within = w;
      named = All-weaker (NamesThere b) (NamesThere more) (λ d. there_more b _ _) more
          (All-push (NamesThere b) b r g.named f.there);
      decided = All-weaker (SplitsDecided l b) (SplitsDecided l more) (λ d h n is. decided_more l b _ n w (h n is)) more
          (All-push (SplitsDecided l b) b r g.decided f.decided);
      short = short;
      ends = λ s n x found far.
          let long : length more ≡ length b + 1 = length-append b (r ∷ []) in
          same_ends b r g.named g.ends f.there s _ n x found (omega arith) (omega arith);
    }

-- what is above a node: its parent, and the decision of the parent
pub record Above (l b : List Record) (m : EntryPart) : Type 0 where
  pub node : Node
  pub there : node_of b m ≡ Some node
  pub decided : decision_of b m ≡ decision_of l m

pub above : (l b : List Record) (n m : EntryPart) (x : Node) → Grown l b → node_of b n ≡ Some x → parent x.kind ≡ Some m
    → Above l b m
above l b n m x g found up =
    let by = maker b n x found in
    let split = made_by_split by.change n m x by.makes_it up in
    let y = All-contains (NamesThere b) b by.change g.named by.among m (rw split) in
    record {
      node = y.0;
      there = y.1;
      decided = All-contains (SplitsDecided l b) b by.change g.decided by.among m split;
    }

pub line_of_grown : (l b : List Record) → Grown l b → (n : EntryPart) (x : Node) → node_of b n ≡ Some x
    → line_of b n ≡ line_of l n
line_of_grown l b g n x found =
    cc (g.within.nodes n x found, g.ends _ n x found g.short, line_led l b g.within.nodes g.named _ n x found)

-- where its claim is the same, a node stands in the same place
place_grown : (f : ℕ) (l b : List Record) → Grown l b → (n : EntryPart) (x : Node) → node_of b n ≡ Some x
    → claim_of b n ≡ claim_of l n → place_along b (line_within f b (Some x)) ≡ place_along l (line_within f l (Some x))
place_grown zero l b g n x found claims = refl
place_grown (suc f) l b g n x found claims =
    let claimed = subst (λ z. claim_of b z ≡ claim_of l z) (sym (node_called b n x found)) claims in
    elim (none_or_some (parent x.kind)) [
      | inl none ↦ cc
      | inr m ↦ (
          let y = above l b n m.0 x g found m.1 in
          let same = ap (option_and_then (λ r. claimed_account r.command)) y.decided in
          cc (g.within.nodes m.0 y.node y.there, place_grown f l b g m.0 y.node y.there same))
    ]

pub place_claimed : (l b : List Record) (n : EntryPart) (x : Node) → Grown l b → node_of b n ≡ Some x
    → claim_of b n ≡ claim_of l n → place_of b n ≡ place_of l n
place_claimed l b n x g found claims =
    cc (g.within.nodes n x found, g.ends _ n x found g.short, place_grown _ l b g n x found claims)

pub place_same : (l b : List Record) (n : EntryPart) (x : Node) → Grown l b → node_of b n ≡ Some x
    → decision_of b n ≡ decision_of l n → place_of b n ≡ place_of l n
place_same l b n x g found decided = place_claimed l b n x g found (rw decided)
