-- What is accepted under a house table is accepted under one that extends it.
use Rattle.std.proofs.Common.{◌≡◌, ℕ, ◌+◌, ◌≤◌, Bool, true, false, not, ◌&&◌, List, [], ◌∷◌, ◌++◌, length, refl, sym}
use Rattle.std.proofs.Common.{◌∙◌, ap, subst, cond, Option, append_assoc, append-nil, arith, length-append}
use Rattle.std.specs.Prelude.{⊤, Some, None, map, bytes_eq, nat_lt, is_none, option_map, unwrap_or, is_some, ◌*◌}
use Rattle.std.specs.Prelude.{◌||◌, sum_by, filter, filter_map, find, option_and_then}
use Rattle.gu_base.specs.Limits.{most_entries}
use Rattle.gu_base.specs.Numbers.{is_lots, are_terms}
use Rattle.gu_base.specs.House.{House, knows_firm, knows_account, knows_instrument, agreement, HasLawfulOpening}
use Rattle.gu_base.specs.History.{records, live, is_change}
use Rattle.gu_base.specs.Nodes.{node_of}
use Rattle.gu_base.specs.Terms.{terms_of, limit_of, dealings, terms_under, limit_under}
use Rattle.gu_base.specs.Fees.{charge_of, charge_of_kind, charge_of_node, charges}
use Rattle.gu_base.specs.Refusals.{unless, first, at_node, row, refusal_of, refusal_of_part, split_row, claim_row}
use Rattle.gu_base.specs.Refusals.{limit_row, limit_by, used_by, trade_row}
use Rattle.gu_base.specs.Refusals.{agree_row, raise_row, raised_row, knows_own_account}
use Rattle.gu_base.specs.Standing.{first_refused, standing_on, without}
use Rattle.gu_base.specs.Consents.{parties_of, consents_of, is_among, missing}
use Rattle.gu_base.specs.Answers.{answer_to, answer_by, accepted_or, command_refusal, on_change, reversal_of, entry_of}
use Rattle.gu_base.specs.Answers.{initiate_rest, decline_rest, reverse_rest, is_same_id, is_same_call, status_of}
use Rattle.gu_base.specs.Runs.{call_of, opening_history, opening_calls, IsRunFrom}
use Rattle.gu_base.specs.declared.command.Part.{Part}
use Rattle.gu_base.specs.declared.command.Command.{Command}
use Rattle.gu_base.specs.declared.command.Command.TheVariants.{Trade, Split, Claim, Refuse, Cancel, Agree, Raise}
use Rattle.gu_base.specs.declared.command.Command.TheVariants.{Initiate, Decline, Reverse}
use Rattle.gu_base.specs.declared.entry.Answer.TheVariants.{Accepted}
use Rattle.gu_base.specs.declared.entry.Entry.{Entry}
use Rattle.gu_base.specs.declared.entry.Record.{Record}
use Rattle.gu_base.specs.declared.house.Agreement.{Agreement}
use Rattle.gu_base.specs.declared.node.Charge.{Charge}
use Rattle.gu_base.specs.declared.node.Kind.{Kind}
use Rattle.gu_base.specs.declared.node.Kind.TheVariants.{Root, Own, Given}
use Rattle.gu_base.specs.declared.node.Node.{Node}
use Rattle.gu_base.specs.declared.refusal.Refusal.{Refusal}
use Rattle.gu_base.specs.declared.refusal.Refusal.TheVariants.{UnknownFirm, BookFull, NotAChange, AlreadyReversed}
use Rattle.gu_base.specs.declared.refusal.Refusal.TheVariants.{NotAParty, NeedsConsent, StandsOn, UnknownAccount}
use Rattle.gu_base.specs.declared.refusal.Refusal.TheVariants.{UnknownInstrument, BadLots, HouseOnly}
use Rattle.gu_base.specs.declared.state.State.{State}
use Rattle.std.proofs.lemmas.Bool.{and_parts}
use Rattle.gu_base.proofs.Accepted.{first_none}
use Rattle.gu_base.proofs.Passing.{agree_passes, agree_accepted, raise_passes, raise_accepted, refusal_parts}
use Rattle.gu_base.proofs.Passing.{refusal_none, split_passes, split_accepted, claim_passes, claim_accepted}
use Rattle.gu_base.proofs.RunLaws.{IsRun, run_push, run_all}
use Rattle.gu_base.proofs.Basics.{mapped_none}
use Rattle.gu_base.proofs.Opening.{opened_from, opening_is}
use Rattle.gu_base.specs.declared.house.Pair.{Pair}
use Rattle.std.specs.List.{list_all, IsDistinct}
use Rattle.std.specs.Map.{keys_of}
use Rattle.gu_base.specs.House.{can_be_made, same_pair}
use Rattle.gu_lives.specs.Extends.{Extends, HasMore, TellsTheSame}
use Rattle.gu_lives.proofs.Known.{KnowsKind, Knows, knows_node, knows_none, knows_push, knows_legal}

-- ---- rows of refusals that refuse no more than others

-- where a line of the first refuses nothing, that of the second refuses nothing
abbrev Grows : List (Option Refusal) → List (Option Refusal) → Type 0
Grows [] [] = ⊤
Grows (a ∷ xs) (b ∷ ys) = (a ≡ None → b ≡ None) × Grows xs ys
Grows _ _ = ⊥

first_grows : (xs ys : List (Option Refusal)) → Grows xs ys → first xs ≡ None → first ys ≡ None
first_grows [] [] g h = refl
first_grows [] (b ∷ ys) g h = absurd g
first_grows (a ∷ xs) [] g h = absurd g
first_grows (None ∷ xs) (b ∷ ys) g h = ap (λ o. first (o ∷ ys)) (g.0 refl) ∙ first_grows xs ys g.1 h
first_grows (Some r ∷ xs) (b ∷ ys) g h = absurd (cc)

-- the lines of some rows
abbrev pub part_lines : House → List ℕ → Part → List (Option Refusal)
part_lines t by p =
    unless (knows_firm t p.firm) UnknownFirm
    ∷ unless (knows_own_account t by p) UnknownAccount
    ∷ unless (is_lots p.lots) BadLots
    ∷ []

abbrev pub trade_lines : House → (by firm account instrument : List ℕ) → ℕ → List (Option Refusal)
trade_lines t by firm account instrument lots =
    unless (bytes_eq by t.house) HouseOnly
    ∷ unless (knows_firm t firm) UnknownFirm
    ∷ unless (knows_account t firm account) UnknownAccount
    ∷ unless (knows_instrument t instrument) UnknownInstrument
    ∷ unless (is_lots lots) BadLots
    ∷ []

abbrev change_lines : House → List Entry → List ℕ → (Record → Option Refusal) → Record → List (Option Refusal)
change_lines t h by rest r =
    unless (is_change r.command) NotAChange
    ∷ option_map (λ v. AlreadyReversed v.number) (reversal_of h r.number)
    ∷ unless (is_among by (parties_of t (live h) r.firm r.command)) NotAParty
    ∷ rest r
    ∷ []

abbrev reverse_lines : House → List Entry → Record → List (Option Refusal)
reverse_lines t h r =
    option_map (λ f. NeedsConsent f) (missing (parties_of t (live h) r.firm r.command) (consents_of h r.number))
    ∷ option_map (λ n. StandsOn n) (standing_on t (live h) r.number)
    ∷ []

unless_grows : (a b : Bool) (r : Refusal) → (a ≡ true → b ≡ true) → unless a r ≡ None → unless b r ≡ None
unless_grows true b r g h = ap (λ c. unless c r) (g refl)
unless_grows false b r g h = absurd (cc)

at_node_grows : (f g : Node → Option Refusal) (o : Option Node) → ((x : Node) → o ≡ Some x → f x ≡ None → g x ≡ None)
    → at_node f o ≡ None → at_node g o ≡ None
at_node_grows f g None more h = h
at_node_grows f g (Some x) more h = more x refl h

or_grows : (a b c : Bool) → (b ≡ true → c ≡ true) → (a || b) ≡ true → (a || c) ≡ true
or_grows true b c g h = refl
or_grows false b c g h = g h

of_account_grows : (p q : List ℕ → Bool) (o : Option (List ℕ)) → ((a : List ℕ) → p a ≡ true → q a ≡ true)
    → unwrap_or (option_map p o) false ≡ true → unwrap_or (option_map q o) false ≡ true
of_account_grows p q None g h = h
of_account_grows p q (Some a) g h = g a h

module _ {t u : House} (ext : HasMore t u) where
  -- ---- one change

  part_grows : (by : List ℕ) (p : Part) → refusal_of_part t by p ≡ None → refusal_of_part u by p ≡ None
  part_grows by p =
      first_grows (part_lines t by p) (part_lines u by p) (
        unless_grows _ _ _ (ext.firms p.firm),
        (unless_grows _ _ _ (or_grows _ _ _ (of_account_grows _ _ p.account (ext.accounts by))), (λ h. h, tt)),
      )

  parts_grow : (by : List ℕ) (ps : List Part) → first (map (refusal_of_part t by) ps) ≡ None
      → first (map (refusal_of_part u by) ps) ≡ None
  parts_grow by [] h = h
  parts_grow by (p ∷ ps) h =
      let q = first_none (refusal_of_part t by p) (map (refusal_of_part t by) ps) h in
      ap (λ o. first (o ∷ map (refusal_of_part u by) ps)) (part_grows by p q.0) ∙ parts_grow by ps q.1

  -- terms and limit of two firms of the table
  limit_same : (l : List Record) (g k : List ℕ) → knows_firm t g ≡ true → knows_firm t k ≡ true
      → limit_of u l g k ≡ limit_of t l g k
  limit_same l g k a b = ap (λ o. limit_under o (dealings l g k)) (ext.terms g k a b)

  terms_same : (l : List Record) (g k : List ℕ) → knows_firm t g ≡ true → knows_firm t k ≡ true
      → terms_of u l g k ≡ terms_of t l g k
  terms_same l g k a b = ap (λ o. terms_under o (dealings l g k)) (ext.terms g k a b)

  limit_by_same : (l : List Record) (kind : Kind) → KnowsKind t kind → limit_by u l kind ≡ limit_by t l kind
  limit_by_same l (Root _) known = refl
  limit_by_same l (Own _ _ _) known = refl
  limit_by_same l (Given _ g k) known = limit_same l g k known.0 known.1

  trade_grows : (by f a i : List ℕ) (n : ℕ) → trade_row t by f a i n ≡ None → trade_row u by f a i n ≡ None
  trade_grows by f a i n =
      first_grows (trade_lines t by f a i n) (trade_lines u by f a i n) (
        unless_grows _ _ _ (λ h. ap (bytes_eq by) ext.house ∙ h),
        (
          unless_grows _ _ _ (ext.firms f),
          (unless_grows _ _ _ (ext.accounts f a), (unless_grows _ _ _ (ext.instruments i), (λ h. h, tt))),
        ),
      )

  split_grows : (l : List Record) (by : List ℕ) (ps : List Part) (x : Node) → split_row t l by ps x ≡ None
      → split_row u l by ps x ≡ None
  split_grows l by ps x h =
      let p = split_passes t l by ps x h in
      split_accepted u l by ps x (record {
        owned = p.0.owned;
        free = p.0.free;
        count = p.0.count;
        shallow = p.0.shallow;
        parts = parts_grow by ps p.0.parts;
        sums = p.0.sums;
      }) p.1

  claim_grows : (l : List Record) (by account : List ℕ) (x : Node) → KnowsKind t x.kind
      → claim_row t l by account x ≡ None → claim_row u l by account x ≡ None
  claim_grows l by account x known h =
      let p = claim_passes t l by account x h in
      claim_accepted u l by account x
      (record { given = p.0.given; taker = p.0.taker; known = ext.accounts by account p.0.known }) p.1
      (ap (limit_row (used_by l x.kind + x.lots)) (limit_by_same l x.kind known) ∙ p.2)

  agree_grows : (l : List Record) (by g k : List ℕ) (rate limit : ℕ) → agree_row t l by g k rate limit ≡ None
      → agree_row u l by g k rate limit ≡ None
  agree_grows l by g k rate limit h =
      let p = agree_passes t l by g k rate limit h in
      agree_accepted u l by g k rate limit (record {
        house = ap (bytes_eq by) ext.house ∙ p.0.house;
        giver_known = ext.firms g p.0.giver_known;
        taker_known = ext.firms k p.0.taker_known;
        apart = p.0.apart;
        in_range = p.0.in_range;
      }) (ap is_none (terms_same l g k p.0.giver_known p.0.taker_known) ∙ p.1)

  raise_grows : (l : List Record) (by g : List ℕ) (n : ℕ) → knows_firm t by ≡ true → raise_row t l by g n ≡ None
      → raise_row u l by g n ≡ None
  raise_grows l by g n known h =
      let p = raise_passes t l by g n h in
      raise_accepted u l by g n (ext.firms g p.0) (ap (raised_row n) (limit_same l g by p.0 known) ∙ p.1)

  row_grows : (l : List Record) (by : List ℕ) (c : Command) → Knows t l → knows_firm t by ≡ true
      → row t l by c ≡ None → row u l by c ≡ None
  row_grows l by (Trade f a i s n) all known = trade_grows by f a i n
  row_grows l by (Split n ps) all known =
      at_node_grows (split_row t l by ps) (split_row u l by ps) (node_of l n) (λ x e. split_grows l by ps x)
  row_grows l by (Claim n a) all known =
      at_node_grows (claim_row t l by a) (claim_row u l by a) (node_of l n)
      (λ x e. claim_grows l by a x (knows_node t l n x all e))
  row_grows l by (Refuse n) all known = λ h. h
  row_grows l by (Cancel n) all known = λ h. h
  row_grows l by (Agree g k r m) all known = agree_grows l by g k r m
  row_grows l by (Raise g n) all known = raise_grows l by g n known
  row_grows l by (Initiate _) all known = λ h. h
  row_grows l by (Decline _) all known = λ h. h
  row_grows l by (Reverse _) all known = λ h. h

  -- a change that isn't refused under the first table isn't under the second
  pub refusal_grows : (l : List Record) (by : List ℕ) (c : Command) → Knows t l → refusal_of t l by c ≡ None
      → refusal_of u l by c ≡ None
  refusal_grows l by c all h =
      let p = refusal_parts t l by c h in
      refusal_none u l by c (ext.firms by p.0) (row_grows l by c all p.0 p.1)

  refused_or : (o p : Option Refusal) (n : ℕ) (x y : Option ℕ) → (o ≡ None → p ≡ None)
      → (o ≡ None → x ≡ None → y ≡ None) → cond (is_some o) (Some n) x ≡ None → cond (is_some p) (Some n) y ≡ None
  refused_or None p n x y one rest h = ap (λ o. cond (is_some o) (Some n) y) (one refl) ∙ rest refl h
  refused_or (Some r) p n x y one rest h = absurd (cc)

  -- nor is any of a list
  pub replay_grows : (before rest : List Record) → Knows t before → first_refused t before rest ≡ None
      → first_refused u before rest ≡ None
  replay_grows before [] all = λ h. h
  replay_grows before (r ∷ rest) all =
      refused_or (refusal_of t before r.firm r.command) (refusal_of u before r.firm r.command) r.number
      (first_refused t (before ++ r ∷ []) rest) (first_refused u (before ++ r ∷ []) rest)
      (refusal_grows before r.firm r.command all)
      (λ ok. replay_grows (before ++ r ∷ []) rest (knows_push t before r all ok))

  -- ---- one call

  parties_same : (l : List Record) (by : List ℕ) (c : Command) → parties_of u l by c ≡ parties_of t l by c
  parties_same l by (Trade f _ _ _ _) = ap (λ h. h ∷ f ∷ []) ext.house
  parties_same l by (Split _ _) = refl
  parties_same l by (Claim _ _) = refl
  parties_same l by (Refuse _) = refl
  parties_same l by (Cancel _) = refl
  parties_same l by (Agree g k _ _) = ap (λ h. h ∷ g ∷ k ∷ []) ext.house
  parties_same l by (Raise _ _) = refl
  parties_same l by (Initiate _) = refl
  parties_same l by (Decline _) = refl
  parties_same l by (Reverse _) = refl

  on_change_grows : (h : List Entry) (by : List ℕ) (f g : Record → Option Refusal) (o : Option Record)
      → ((r : Record) → f r ≡ None → g r ≡ None) → on_change t h by f o ≡ None → on_change u h by g o ≡ None
  on_change_grows h by f g None more = λ e. e
  on_change_grows h by f g (Some r) more =
      first_grows (change_lines t h by f r) (change_lines u h by g r) (
        λ e. e,
        (
          λ e. e,
          (unless_grows _ _ _ (λ e. ap (is_among by) (parties_same (live h) r.firm r.command) ∙ e), (more r, tt)),
        ),
      )

  mapped_grows : {A B : Type 0} (f : A → B) (o p : Option A) → (o ≡ None → p ≡ None) → option_map f o ≡ None
      → option_map f p ≡ None
  mapped_grows f o p g e = ap (option_map f) (g (mapped_none f o e))

  module _ (h : List Entry) (legal : first_refused t [] (live h) ≡ None) where
    standing_grows : (n : ℕ) → standing_on t (live h) n ≡ None → standing_on u (live h) n ≡ None
    standing_grows n = replay_grows [] (without (live h) n) (knows_none t)

    reverse_grows : (r : Record) → reverse_rest t h r ≡ None → reverse_rest u h r ≡ None
    reverse_grows r =
        first_grows (reverse_lines t h r) (reverse_lines u h r) (
          λ e.
              ap (λ ps. option_map (λ f. NeedsConsent f) (missing ps (consents_of h r.number)))
              (parties_same (live h) r.firm r.command) ∙ e,
          (mapped_grows (λ n. StandsOn n) _ _ (standing_grows r.number), tt),
        )

    named_grows : (by : List ℕ) (f g : Record → Option Refusal) (n : ℕ)
        → ((r : Record) → f r ≡ None → g r ≡ None)
        → first (unless (knows_firm t by) UnknownFirm ∷ on_change t h by f (entry_of h n) ∷ []) ≡ None
        → first (unless (knows_firm u by) UnknownFirm ∷ on_change u h by g (entry_of h n) ∷ []) ≡ None
    named_grows by f g n more =
        first_grows
        (unless (knows_firm t by) UnknownFirm ∷ on_change t h by f (entry_of h n) ∷ [])
        (unless (knows_firm u by) UnknownFirm ∷ on_change u h by g (entry_of h n) ∷ [])
        (unless_grows _ _ _ (ext.firms by), (on_change_grows h by f g (entry_of h n) more, tt))

    command_grows : (by : List ℕ) (c : Command) → command_refusal t h by c ≡ None
        → command_refusal u h by c ≡ None
    command_grows by (Initiate n) = named_grows by (initiate_rest h by) (initiate_rest h by) n (λ r e. e)
    command_grows by (Decline n) = named_grows by (decline_rest h) (decline_rest h) n (λ r e. e)
    command_grows by (Reverse n) = named_grows by (reverse_rest t h) (reverse_rest u h) n reverse_grows
    command_grows by (Trade f a i s n) = refusal_grows (live h) by (Trade f a i s n) (knows_legal t (live h) legal)
    command_grows by (Split n ps) = refusal_grows (live h) by (Split n ps) (knows_legal t (live h) legal)
    command_grows by (Claim n a) = refusal_grows (live h) by (Claim n a) (knows_legal t (live h) legal)
    command_grows by (Refuse n) = refusal_grows (live h) by (Refuse n) (knows_legal t (live h) legal)
    command_grows by (Cancel n) = refusal_grows (live h) by (Cancel n) (knows_legal t (live h) legal)
    command_grows by (Agree g k r m) = refusal_grows (live h) by (Agree g k r m) (knows_legal t (live h) legal)
    command_grows by (Raise g n) = refusal_grows (live h) by (Raise g n) (knows_legal t (live h) legal)

    answer_or : (same dup : Option Record) (m : ℕ) (s : State) (room : Bool) (o p : Option Refusal) (n : ℕ)
        (z : State) → (o ≡ None → p ≡ None)
        → answer_by same dup (accepted_or m s (first (unless room BookFull ∷ o ∷ []))) ≡ Accepted n z
        → answer_by same dup (accepted_or m s (first (unless room BookFull ∷ p ∷ []))) ≡ Accepted n z
    answer_or (Some r) dup m s room o p n z g e = absurd (cc)
    answer_or None (Some r) m s room o p n z g e = absurd (cc)
    answer_or None None m s false o p n z g e = absurd (cc)
    answer_or None None m s true (Some r) p n z g e = absurd (cc)
    answer_or None None m s true None p n z g e = ap (λ q. accepted_or m s (first (q ∷ []))) (g refl) ∙ e

    -- a call that is accepted under the first table is accepted under the second, as the same entry
    pub answer_grows : (e : Entry) (n : ℕ) → answer_to t h (call_of e) ≡ Accepted n e.status
        → answer_to u h (call_of e) ≡ Accepted n e.status
    answer_grows e n =
        answer_or (find (is_same_call (call_of e)) (records h)) (find (is_same_id (call_of e)) (records h))
        (length h + 1) (status_of e.firm e.command) (nat_lt (length h) most_entries)
        (command_refusal t h e.firm e.command) (command_refusal u h e.firm e.command) n e.status
        (command_grows e.firm e.command)

  -- ---- what a list tells

  charge_kind_same : (l : List Record) (lots : ℕ) (kind : Kind) → KnowsKind t kind
      → charge_of_kind u l lots kind ≡ charge_of_kind t l lots kind
  charge_kind_same l lots (Root _) known = refl
  charge_kind_same l lots (Own _ _ _) known = refl
  charge_kind_same l lots (Given _ g k) known =
      ap (option_map (λ a. record { giver = g; taker = k; lots = lots; rate = a.rate }))
      (terms_same l g k known.0 known.1)

  charge_found : (l : List Record) (o : Option Node) → ((x : Node) → o ≡ Some x → KnowsKind t x.kind)
      → option_and_then (charge_of_node u l) o ≡ option_and_then (charge_of_node t l) o
  charge_found l None known = refl
  charge_found l (Some x) known = charge_kind_same l x.lots x.kind (known x refl)

  charge_same : (l : List Record) → Knows t l → (c : Command) → charge_of u l c ≡ charge_of t l c
  charge_same l all (Claim n _) = charge_found l (node_of l n) (λ x. knows_node t l n x all)
  charge_same l all (Trade _ _ _ _ _) = refl
  charge_same l all (Split _ _) = refl
  charge_same l all (Refuse _) = refl
  charge_same l all (Cancel _) = refl
  charge_same l all (Agree _ _ _ _) = refl
  charge_same l all (Raise _ _) = refl
  charge_same l all (Initiate _) = refl
  charge_same l all (Decline _) = refl
  charge_same l all (Reverse _) = refl

  charges_same : (l : List Record) → Knows t l → charges u l ≡ charges t l
  charges_same l all = λ i. filter_map (λ r. charge_same l all r.command i) l

  pub tells_same : (l : List Record) → Knows t l → TellsTheSame t u l
  tells_same l all = record {
    paid = λ firm.
        ap (λ cs. sum_by (λ (c : Charge). c.lots * c.rate) (filter (λ c. bytes_eq c.taker firm) cs))
        (charges_same l all);
    received = λ firm.
        ap (λ cs. sum_by (λ (c : Charge). c.lots * c.rate) (filter (λ c. bytes_eq c.giver firm) cs))
        (charges_same l all);
    terms = terms_same l;
    limits = limit_same l;
  }

  -- ---- the opening

  made_grows : (e : Pair × Agreement) → can_be_made t e ≡ true → can_be_made u e ≡ true
  made_grows e can =
      let g = knows_firm t e.0.giver in
      let k = knows_firm t e.0.taker in
      let two = not (bytes_eq e.0.giver e.0.taker) in
      let d = and_parts (g && k && two && are_terms e.1.rate e.1.limit) (is_none (agreement t e.0.giver e.0.taker))
      can in
      let c = and_parts (g && k && two) (are_terms e.1.rate e.1.limit) d.0 in
      let b = and_parts (g && k) two c.0 in
      let a = and_parts g k b.0 in
      rw (ext.firms e.0.giver a.0, ext.firms e.0.taker a.1, b.1, c.1, ext.terms e.0.giver e.0.taker a.0 a.1, d.1) refl

  all_made : (es : List (Pair × Agreement)) → list_all (can_be_made t) es ≡ true → list_all (can_be_made u) es ≡ true
  all_made [] h = refl
  all_made (e ∷ es) h =
      let p = and_parts (can_be_made t e) (list_all (can_be_made t) es) h in
      rw (made_grows e p.0, all_made es p.1) refl

  lawful_grows : u.opening ≡ t.opening → HasLawfulOpening t → HasLawfulOpening u
  lawful_grows made lawful = record {
    lawful = ap (list_all (can_be_made u)) made ∙ all_made t.opening lawful.lawful;
    distinct = subst (λ es. IsDistinct same_pair (keys_of es)) (sym made) lawful.distinct;
  }

  opened_same : (i : ℕ) (es : List (Pair × Agreement)) → opened_from u i es ≡ opened_from t i es
  opened_same i [] = refl
  opened_same i (e ∷ es) = cc (ext.house, opened_same (i + 1) es)

  pub opening_same : u.opening ≡ t.opening → HasLawfulOpening t → length t.opening ≤ most_entries
      → opening_history u ≡ opening_history t
  opening_same made lawful few =
      let short : length u.opening ≤ most_entries = subst (λ es. length es ≤ most_entries) (sym made) few in
      opening_is u (lawful_grows made lawful) short
      ∙ (ap (opened_from u 1) made ∙ (opened_same 1 t.opening ∙ sym (opening_is t lawful few)))

-- ---- whole histories

pub cut_behind : {A : Type 0} (xs ys zs ws : List A) → xs ++ ys ≡ zs ++ ws → length xs ≤ length zs
    → (m : List A) × (zs ≡ xs ++ m)
cut_behind [] ys zs ws e le = (zs, refl)
cut_behind (x ∷ xs) ys [] ws e le = absurd (omega (arith, le))
cut_behind (x ∷ xs) ys (z ∷ zs) ws e le =
    let p = cut_behind xs ys zs ws (cc) (omega (arith, le)) in (p.0, cc (p.1))

module _ {t : House} {h : List Entry} (run : IsRunFrom t (opening_history t) h) where
  run_along : (done mid tail : List Entry) → h ≡ done ++ (mid ++ tail) → length (opening_history t) ≤ length done
      → IsRun t done → IsRun t (done ++ mid)
  run_along done [] tail e le is = subst (IsRun t) (sym (append-nil done)) is
  run_along done (d ∷ mid) tail e le is =
      let longer = length-append done (d ∷ []) in
      subst (IsRun t) (append_assoc done (d ∷ []) mid)
      (run_along (done ++ d ∷ []) mid tail (e ∙ sym (append_assoc done (d ∷ []) (mid ++ tail)))
      (omega (arith, le, longer))
      (run_push is d (length done + 1) (run.accepted done (mid ++ tail) d e le)))

  -- what stands before an entry is a run
  run_before : (before after : List Entry) → h ≡ before ++ after → length (opening_history t) ≤ length before
      → IsRun t before
  run_before before after e le =
      let rest = run.begins.0 in
      let cut = cut_behind (opening_history t) rest before after (sym run.begins.1 ∙ e) le in
      subst (IsRun t) (sym cut.1)
      (run_along (opening_history t) cut.0 after
      (e ∙ (ap (λ b. b ++ after) cut.1 ∙ append_assoc (opening_history t) cut.0 after))
      (omega arith) (run_all t (opening_calls t)))

  pub whole_run : IsRun t h
  whole_run =
      let rest = run.begins.0 in
      let longer = length-append (opening_history t) rest in
      run_before h [] (sym (append-nil h)) (omega (arith, longer, ap length run.begins.1))

pub run_grows : (t u : House) (h : List Entry) → Extends t u → HasLawfulOpening t → length t.opening ≤ most_entries
    → IsRunFrom t (opening_history t) h → IsRunFrom u (opening_history u) h
run_grows t u h ext lawful few run =
    let same = opening_same ext.more ext.opening lawful few in
    record {
      begins = (run.begins.0, run.begins.1 ∙ ap (λ o. o ++ run.begins.0) (sym same));
      accepted = λ before after e cut le.
          let far : length (opening_history t) ≤ length before = subst (λ o. length o ≤ length before) same le in
          answer_grows ext.more before (run_before run before (e ∷ after) cut far).replayed e (length before + 1)
          (run.accepted before after e cut far);
    }

pub tells_the_same : (t u : House) (h : List Entry) → Extends t u → IsRunFrom t (opening_history t) h
    → TellsTheSame t u (live h)
tells_the_same t u h ext run = tells_same ext.more (live h) (knows_legal t (live h) (whole_run run).replayed)
