-- A lawful order of a legal list is legal.
use Rattle.gu_base
use Rattle.gu_depend.proofs
use Rattle.std
use gu_base.proofs.{Basics.or_false, Dealt.fit_behind, Passing.{agree_accepted, claim_accepted}}
use gu_base.proofs.Passing.{decision_accepted, none_at_node, raise_accepted, refusal_none, split_accepted}
use gu_base.specs.Orders.{is_ready, IsLawfulOrder}
use proofs.Deals.{both_same, claim_within, deal, dealings_append}
use proofs.Deals.{dealings_cut, dealings_grown, dealings_idle, decision_row, deed_grown, deed_in, facts}
use proofs.Deals.{front_within, IsYours, named_once, NamedOnce, raised_may, Settled, SettledAs, SettledAt, split_moved}
use proofs.Finds.{count_append, count_permuted, find_permuted, none_before, once_push, some_there, stands_between}
use proofs.Grown.{AllFollow, at_name, Follows, Grown, grown_none, grown_push, line_of_grown, makers_once}
use proofs.{Grown.{node_by_maker, place_same, Within}, Vocabulary.{Agree, agreement, All-contains, AllByRecursion}}
use proofs.Vocabulary.{AllFit, and_parts, ap, append-nil, append_assoc, arith, at_node, Bool, Cancel, cases_Bool, Claim}
use proofs.Vocabulary.{Command, cond, count_by, dealings, dealings_in, decides, Decides-eqb, decision_of, Deed, deed_of}
use proofs.Vocabulary.{EntryPart, eqb_symm, false, find, first_refused, first_unfit, fits, HasDistinctNumbers, House}
use proofs.Vocabulary.{in_lawful_order, inl, inr, is_none, is_some, IsLegal, IsPermutation, Kind, legal_from_replay}
use proofs.Vocabulary.{length, length-append, limit_of, List, Makes, map, name_is, name_same, Node, node_called}
use proofs.Vocabulary.{node_of, None, none_is_some, none_or_some, Option, Raise, Raises, Record, refl, Refusal}
use proofs.Vocabulary.{refusal_of, refusal_parts, Refuse, replay_from_legal, row, same_name, Some, Split, split_of}
use proofs.Vocabulary.{splits, subst, sym, Trade, true, unfit_none, [], ℕ, ◌++◌, ◌+◌, ◌==◌, ◌||◌, ◌∙◌, ◌∷◌, ◌≡◌, ◌≤◌}
use std.proofs.Common.{◌⊎◌}
use std.proofs.lemmas.{List.Sorted.{All-permutation, length_permutation}, Map.Keys.{IsDistinct-head, IsDistinct-tail}}

-- ---- numbers that stand once

none_equal : (n : ℕ) (l : List Record) → AllByRecursion (λ y. (n == y) ≡ false) (map (λ r. r.number) l)
    → find (λ r. r.number == n) l ≡ None
none_equal n [] none = refl
none_equal n (r ∷ l) none = cc (eqb_symm _ n, none_equal n l none.1)

-- each number stands once at most
abbrev pub NumbersOnce : List Record → Type 0
NumbersOnce l = (n : ℕ) → count_by (λ r. r.number == n) l ≤ 1

pub number_once : (l : List Record) → HasDistinctNumbers l → NumbersOnce l
number_once [] distinct n = omega arith
number_once (r ∷ l) distinct n =
    let p = λ (r : Record). r.number == n in
    let last = once_push p l r (number_once l (IsDistinct-tail (λ a b. a == b) _ _ distinct) n)
    (λ is. rw ((Decides-eqb r.number n).0 is) at (none_equal _ l (IsDistinct-head (λ a b. a == b) _ _ distinct))) in
    omega (arith, count_append p l (r ∷ []), count_append p (r ∷ []) l)

-- no number stands twice, and none of the changes is refused after those before it
pub record Legal (t : House) (l : List Record) : Type 0 where
  pub once : NumbersOnce l
  pub replayed : first_refused t [] l ≡ None

pub legal_list : (t : House) (l : List Record) → HasDistinctNumbers l → IsLegal t l → Legal t l
legal_list t l distinct legal = record { once = number_once l distinct; replayed = replay_from_legal t l legal }

-- ---- two lists that find the same

pub record SameFinds (l o : List Record) : Type 0 where
  pub nodes : (n : EntryPart) → node_of o n ≡ node_of l n
  pub splits_same : (n : EntryPart) → split_of o n ≡ split_of l n
  pub decisions : (n : EntryPart) → decision_of o n ≡ decision_of l n
  pub long : length o ≡ length l

pub same_finds : (l o : List Record) → IsPermutation l o → NumbersOnce l → NamedOnce l → SameFinds l o
same_finds l o same once s = record {
  nodes = λ n. cc (node_by_maker o n, find_permuted _ l o same (makers_once l n (once _)), node_by_maker l n);
  splits_same = λ n. find_permuted _ l o same (s.splits_once n);
  decisions = λ n. find_permuted _ l o same (s.decisions_once n);
  long = length_permutation l o same;
}

-- what is found in a front of the one is found in the other
pub order_within : (l o b rest : List Record) → SameFinds l o → o ≡ b ++ rest → Within l b
order_within l o b rest same e =
    let w = front_within o b _ e in
    record {
      nodes = λ n x found. cc (same.nodes n, w.nodes n x found);
      decisions = λ n r found. cc (same.decisions n, w.decisions n r found);
    }

-- ---- a change that is ready and settled is accepted

moved : (b : List Record) (m n : EntryPart) → same_name m n ≡ true → is_some (node_of b m) ≡ true
    → (x : Node) × (node_of b n ≡ Some x)
moved b m n is h = rw (name_is m n is) at (some_there _ h)

decided_either : (o p : Option Record) → (is_none p || is_some o) ≡ true → ((d : Record) → o ≡ Some d → p ≡ Some d)
    → o ≡ p
decided_either None None h w = refl
decided_either None (Some d) h w = cc
decided_either (Some d) p h w = sym (w d refl)

module _ (l b : List Record) (w : Within l b) where
  ready_follows : (c : Command) → is_ready l b c ≡ true → Follows l b c
  ready_follows (Split m ps) h =
      let p = and_parts _ _ h in
      record {
        there = λ n is. moved b m n (cc (or_false _)) p.0;
        decided = λ n is. decided_either _ _ (rw (name_is m n is) at p.1) (w.decisions n);
      }
  ready_follows (Claim m _) h = record { there = λ n is. moved b m n is h; decided = λ n is. cc }
  ready_follows (Refuse m) h = record { there = λ n is. moved b m n is h; decided = λ n is. cc }
  ready_follows (Cancel m) h = record { there = λ n is. moved b m n is h; decided = λ n is. cc }
  ready_follows _ h = record { there = λ n is. cc; decided = λ n is. cc }

-- what a change finds before it
record IsDue (t : House) (l b : List Record) (by : List ℕ) (c : Command) : Type 0 where
  follows : Follows l b c
  whole : (n : EntryPart) → splits n c ≡ true → split_of b n ≡ None
  undecided : (n : EntryPart) → decides n c ≡ true → decision_of b n ≡ None
  afforded : (g k : List ℕ) (d : Deed) → deed_of l g k by c ≡ Some d → fits (agreement t g k) (dealings b g k) d ≡ true

module _ (t : House) (l b : List Record) (by : List ℕ) (grown : Grown l b) where
  -- the node that is there in the one is that of the other, and passes what is asked of it
  at_settled : (n : EntryPart) (line : Node → Option Refusal) (P : Node → Type 0) (s : SettledAt l n P)
      → (y : Node) × (node_of b n ≡ Some y) → (node_of b n ≡ Some s.node → line s.node ≡ None)
      → at_node line (node_of b n) ≡ None
  at_settled n line P s y passes =
      let found : node_of b n ≡ Some s.node = cc (grown.within.nodes n y.0 y.1) in
      none_at_node _ _ _ found (passes found)

  decision_accepts : (n : EntryPart) (yours : Kind → Bool) → SettledAt l n (IsYours yours)
      → (y : Node) × (node_of b n ≡ Some y) → decision_of b n ≡ None
      → at_node (decision_row b yours) (node_of b n) ≡ None
  decision_accepts n yours s there undecided =
      at_settled n _ _ s there (λ found. decision_accepted b s.node _ s.holds.0
      (rw (node_called b n s.node found) undecided) s.holds.1)

  accepts : (c : Command) → SettledAs t l by c → IsDue t l b by c → row t b by c ≡ None
  accepts (Trade _ _ _ _ _) s due = s
  accepts (Split n ps) s due =
      at_settled n _ _ s (due.follows.there n (or_false _ ∙ name_same n)) (λ found.
      let called = node_called b n _ found in
      let named = at_name b n _ found in
      let same = subst (λ z. decision_of b z ≡ decision_of l z) (sym called) (due.follows.decided n (name_same n)) in
      split_accepted t b by ps _
      (split_moved t l b by ps _ (rw (place_same l b _ _ grown named same)) same
      (rw (line_of_grown l b grown s.node.name s.node named)) s.holds)
      (rw called (due.whole n (name_same n))))
  accepts (Claim n account) s due =
      at_settled n _ _ s (due.follows.there n (name_same n)) (λ found.
      claim_accepted t b by _ _ s.holds (rw (node_called b n s.node found) (due.undecided n (name_same n)))
      (claim_within t l b n by account _ s.there due.afforded _ refl s.holds.given))
  accepts (Refuse n) s due =
      decision_accepts n _ s (due.follows.there n (name_same n)) (due.undecided n (name_same n))
  accepts (Cancel n) s due =
      decision_accepts n _ s (due.follows.there n (name_same n)) (due.undecided n (name_same n))
  accepts (Agree giver taker rate limit) s due =
      let made = Makes (record { rate = rate; limit = limit }) in
      agree_accepted t b by _ _ _ _ s (due.afforded giver taker made (rw (both_same giver taker)))
  accepts (Raise giver lots) s due =
      raise_accepted t b by _ _ s
      ((raised_may lots (limit_of t b giver by)).1 (due.afforded giver by (Raises lots) (rw (both_same giver by))))
  accepts _ s due = refl

-- ---- along the order

-- for each giver and taker but these two, what some changes deal fits behind what others do; nodes are looked up in the
-- first list
abbrev pub OthersFit : House → List Record → (x y : List ℕ) → List Record → List Record → Type 0
OthersFit t l x y b rest =
    (g k : List ℕ) → AllFit (agreement t g k) (dealings_in l b g k) (dealings_in l rest g k) ⊎ ((x ≡ g) × (y ≡ k))

pub refused_here : (o : Option Refusal) (n : ℕ) (rest : Option ℕ) → (o ≡ None → ⊥)
    → cond (is_some o) (Some n) rest ≡ Some n
refused_here None n rest refused = absurd (refused refl)
refused_here (Some r) n rest refused = refl

module _ (t : House) (l o : List Record) (legal : Legal t l) (same : IsPermutation l o) where
  abbrev sn : NamedOnce l
  sn = named_once t l legal.replayed

  pub finds : SameFinds l o
  finds = same_finds l o same legal.once sn

  -- what one change does that stands in the order, none does before it
  none_yet : (p : Record → Bool) → count_by p l ≤ 1 → (b : List Record) (r : Record) (rest : List Record)
      → o ≡ b ++ r ∷ rest → p r ≡ true → find p b ≡ None
  none_yet p once b r rest e =
      let a = count_permuted p l o same in
      none_before p b r rest (rw (← e) (omega arith))

  grown_one : (b : List Record) (r : Record) (rest : List Record) → o ≡ (b ++ r ∷ []) ++ rest → Grown l b
      → Follows l b r.command → Grown l (b ++ r ∷ [])
  grown_one b r rest e g follows =
      grown_push l b r g (order_within l o _ _ finds e)
      (omega (arith, length-append (b ++ r ∷ []) rest, ap length e, finds.long)) follows

  -- what follows its own says of its nodes what the list says
  pub grown_along : (b rest tail : List Record) → o ≡ b ++ (rest ++ tail) → AllFollow l b rest → Grown l b
      → Grown l (b ++ rest)
  grown_along b [] tail e follow g = rw (append-nil b) g
  grown_along b (r ∷ rest) tail e follow g =
      let cut = e ∙ sym (append_assoc b (r ∷ []) (rest ++ tail)) in
      rw (append_assoc b _ rest) at (grown_along _ rest _ cut follow.1 (grown_one b r _ cut g follow.0))

  -- a change that follows its own, and fits, is accepted
  taken : (b : List Record) (r : Record) (rest : List Record) → o ≡ b ++ r ∷ rest → Grown l b → Follows l b r.command
      → ((g k : List ℕ) (d : Deed) → deed_in l g k r ≡ Some d
      → fits (agreement t g k) (dealings_in l b g k) d ≡ true)
      → refusal_of t b r.firm r.command ≡ None
  taken b r rest e g follows fit =
      let all = All-permutation (Settled t l) l o same (facts t l legal.replayed).settled in
      let s = All-contains (Settled t l) o r all (rw e (stands_between b r rest)) in
      refusal_none t b r.firm r.command s.known (accepts t l b r.firm g r.command s.stands (record {
        follows = follows;
        whole = λ n is. none_yet _ (sn.splits_once n) b r rest e is;
        undecided = λ n is. none_yet _ (sn.decisions_once n) b r rest e is;
        afforded = λ x y d deals.
            rw (dealings_grown l b x y g) (fit x y d deals);
      }))

  -- so the first that is refused is the first of these two that doesn't fit, where all others do
  module _ (x y : List ℕ) where
    abbrev unfit : List Record → List Record → Option ℕ
    unfit b rest = first_unfit (agreement t x y) (dealings_in l b x y) (dealings_in l rest x y)

    pub first_along : (b rest tail : List Record) → o ≡ b ++ (rest ++ tail) → Grown l b → AllFollow l b rest
        → OthersFit t l x y b rest → first_refused t b rest ≡ unfit b rest
    first_along b [] tail e g follow others = refl
    first_along b (r ∷ rest) tail e g follow others =
        let cut = e ∙ sym (append_assoc b (r ∷ []) (rest ++ tail)) in
        let later = first_along (b ++ r ∷ []) rest tail cut (grown_one b r (rest ++ tail) cut g follow.0) follow.1
        (λ u v. elim (others u v) [
          | inl all ↦
              inl (rw (dealings_append l b (r ∷ []) u v) (fit_behind _ _ (dealings_in l (r ∷ []) u v) _
              (rw (dealings_append l (r ∷ []) rest u v) at all)))
          | inr here ↦ inr here
        ]) in
        elim (none_or_some (deed_in l x y r)) [
          | inl none ↦ accepted (λ d deals. absurd (none_is_some (deed_in l x y r) d none deals))
              ∙ (later ∙ cc (dealings_idle l b r x y none))
          | inr d ↦ elim (cases_Bool (fits (agreement t x y) (dealings_in l b x y) d.0)) [
            | inl fit ↦
                accepted (λ f deals. cc)
                ∙ (later ∙ cc (dealings_cut l b r [] x y (Some d.0) d.1))
            | inr unfits ↦
                refused_here (refusal_of t b r.firm r.command) r.number (first_refused t (b ++ r ∷ []) rest)
                (λ took. let there = deed_grown l b x y r.firm r.command g.within follow.0.there ∙ d.1 in
                let fit = (deal b r.firm r.command x y d.0 there).fit t (refusal_parts t b r.firm r.command took).1 in
                cc (dealings_grown l b x y g))
                ∙ cc
          ]
        ]
      where
        accepted : ((d : Deed) → deed_in l x y r ≡ Some d → fits (agreement t x y) (dealings_in l b x y) d ≡ true)
            → first_refused t b (r ∷ rest) ≡ first_refused t (b ++ r ∷ []) rest
        accepted fit =
            rw (taken b r (rest ++ tail) e g follow.0 (λ u v d deals. elim (others u v) [
              | inl all ↦ (rw deals at all).0
              | inr here ↦
                  (rw (here.0, here.1) at (fit d)) deals
            ]))

  -- and where all fit, none is refused
  pub none_along : (front tail : List Record) → o ≡ front ++ tail → AllFollow l [] front
      → ((g k : List ℕ) → AllFit (agreement t g k) [] (dealings_in l front g k)) → first_refused t [] front ≡ None
  none_along front tail e follow all =
      first_along [] [] [] _ _ e (grown_none l) follow (λ g k. inl (all g k))
      ∙ unfit_none _ [] _ (all [] [])

  lawful_follow : (b rest : List Record) → o ≡ b ++ rest → in_lawful_order l b rest ≡ true → AllFollow l b rest
  lawful_follow b [] e h = tt
  lawful_follow b (r ∷ rest) e h =
      let p = and_parts _ _ h in (
        ready_follows l b (order_within l o b _ finds e) _ p.0,
        lawful_follow _ rest (e ∙ sym (append_assoc b _ rest)) p.1,
      )

pub order_is_legal : (t : House) (l o : List Record) → Legal t l → IsLawfulOrder l o → IsLegal t o
order_is_legal t l o legal lawful =
    let follow = lawful_follow t l o legal lawful.same [] o refl lawful.after_its_node in
    let grown = grown_along t l o legal lawful.same [] o [] (sym (append-nil o)) follow (grown_none l) in
    legal_from_replay t o (none_along t l o legal lawful.same o [] (sym (append-nil o)) follow (λ g k.
    subst (AllFit (agreement t g k) []) (sym (lawful.pairs_stand g k) ∙ dealings_grown l o g k grown)
    ((facts t l legal.replayed).deals g k)))
