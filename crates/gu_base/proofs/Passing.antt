-- What holds where nothing is refused, and that nothing is refused where it holds.
use Rattle.std.proofs.Common.{◌≡◌, ℕ, ◌+◌, Bool, true, not, ◌&&◌, List, [], ◌∷◌, length, refl, ◌∙◌, ap, subst, Option}
use Rattle.std.specs.Prelude.{⊤, Some, None, map, nat_le, nat_lt, ◌==◌, sum_by, option_map, is_none, bytes_eq}
use Rattle.gu_base.specs.Numbers.{EntryPart, is_lots, are_terms}
use Rattle.gu_base.specs.Terms.{terms_of, limit_of}
use Rattle.gu_base.specs.House.{House, knows_firm, knows_account, knows_instrument}
use Rattle.gu_base.specs.Nodes.{node_of, split_of, decision_of, is_offered, is_given, splits, decides}
use Rattle.gu_base.specs.Places.{depth_of}
use Rattle.gu_base.specs.Refusals.{unless, first, at_node, row, refusal_of, refusal_of_part, split_row, claim_row}
use Rattle.gu_base.specs.Refusals.{refuse_row, cancel_row, owns, is_taker, is_giver, limit_row, limit_by, used_by}
use Rattle.gu_base.specs.Refusals.{trade_row, agree_row, raise_row, raised_row, knows_own_account}
use Rattle.gu_base.specs.declared.command.Part.{Part}
use Rattle.gu_base.specs.declared.command.Command.{Command}
use Rattle.gu_base.specs.declared.command.Command.TheVariants.{Trade, Split, Claim, Refuse, Cancel, Agree, Raise}
use Rattle.gu_base.specs.declared.command.Command.TheVariants.{Initiate, Decline, Reverse}
use Rattle.gu_base.specs.declared.entry.Record.{Record}
use Rattle.gu_base.specs.declared.node.Node.{Node}
use Rattle.gu_base.specs.declared.refusal.Refusal.{Refusal}
use Rattle.gu_base.specs.declared.refusal.Refusal.TheVariants.{UnknownFirm, UnknownAccount, NotYours, AlreadySplit}
use Rattle.gu_base.specs.declared.refusal.Refusal.TheVariants.{StillOffered, NotOffered, SumDiffers, BadPartCount}
use Rattle.gu_base.specs.declared.refusal.Refusal.TheVariants.{TooDeep, UnknownInstrument, BadLots, HouseOnly}
use Rattle.gu_base.specs.declared.refusal.Refusal.TheVariants.{OwnAgreement, BadTerms, AgreementExists}
use Rattle.std.proofs.lemmas.Bool.{and_parts}
use Rattle.gu_base.proofs.Accepted.{first_none, unless_none}
use Rattle.gu_base.proofs.NodeNames.{name_is, node_called}
use Rattle.gu_base.proofs.Basics.{mapped_none}

pub none_unless : (b : Bool) (r : Refusal) → b ≡ true → unless b r ≡ None
none_unless b r e = ap (λ c. unless c r) e

pub at_node_none : (line : Node → Option Refusal) (o : Option Node) → at_node line o ≡ None
    → (x : Node) × ((o ≡ Some x) × (line x ≡ None))
at_node_none line None h = absurd (cc)
at_node_none line (Some x) h = (x, (refl, h))

pub none_at_node : (line : Node → Option Refusal) (o : Option Node) (x : Node) → o ≡ Some x → line x ≡ None
    → at_node line o ≡ None
none_at_node line o x e h = ap (at_node line) e ∙ h

-- no line of a row refuses
abbrev pub NoneOf : List (Option Refusal) → Type 0
NoneOf [] = ⊤
NoneOf (o ∷ rest) = (o ≡ None) × NoneOf rest

none_of : (row : List (Option Refusal)) → first row ≡ None → NoneOf row
none_of [] h = tt
none_of (o ∷ rest) h = let p = first_none o rest h in (p.0, none_of rest p.1)

of_none : (row : List (Option Refusal)) → NoneOf row → first row ≡ None
of_none [] h = refl
of_none (o ∷ rest) h = ap (λ p. first (p ∷ rest)) h.0 ∙ of_none rest h.1

-- the lines of a part
pub part_passes : (t : House) (by : List ℕ) (p : Part) → refusal_of_part t by p ≡ None
    → (knows_firm t p.firm ≡ true) × (knows_own_account t by p ≡ true) × (is_lots p.lots ≡ true)
part_passes t by p h =
    let each =
    none_of (unless (knows_firm t p.firm) UnknownFirm ∷ unless (knows_own_account t by p) UnknownAccount
    ∷ unless (is_lots p.lots) BadLots ∷ [])
    h in
    (unless_none _ _ each.0, unless_none _ _ each.1.0, unless_none _ _ each.1.1.0)

-- the lines of a Trade's row
pub record TradePasses (t : House) (by firm account instrument : List ℕ) (lots : ℕ) : Type 0 where
  pub house : bytes_eq by t.house ≡ true
  pub firm_known : knows_firm t firm ≡ true
  pub account_known : knows_account t firm account ≡ true
  pub instrument_known : knows_instrument t instrument ≡ true
  pub lots_fit : is_lots lots ≡ true

pub trade_passes : (t : House) (by firm account instrument : List ℕ) (lots : ℕ)
    → trade_row t by firm account instrument lots ≡ None → TradePasses t by firm account instrument lots
trade_passes t by firm account instrument lots h =
    let last_lines = unless (knows_instrument t instrument) UnknownInstrument ∷ unless (is_lots lots) BadLots ∷ [] in
    let p =
    none_of (unless (bytes_eq by t.house) HouseOnly ∷ unless (knows_firm t firm) UnknownFirm
    ∷ unless (knows_account t firm account) UnknownAccount ∷ last_lines)
    h in
    record {
      house = unless_none _ _ p.0;
      firm_known = unless_none _ _ p.1.0;
      account_known = unless_none _ _ p.1.1.0;
      instrument_known = unless_none _ _ p.1.1.1.0;
      lots_fit = unless_none _ _ p.1.1.1.1.0;
    }

-- the lines of a Split's row but the one that it is the first Split of its node
pub record SplitHolds (t : House) (l : List Record) (by : List ℕ) (ps : List Part) (x : Node) : Type 0 where
  pub owned : owns l by x.name ≡ true
  pub free : not (is_offered l x) ≡ true
  pub count : (nat_le 1 (length ps) && nat_le (length ps) 100) ≡ true
  pub shallow : nat_lt (depth_of l x.name) 64 ≡ true
  pub parts : first (map (refusal_of_part t by) ps) ≡ None
  pub sums : (sum_by (λ p. p.lots) ps == x.lots) ≡ true

-- the lines of a Split's row
abbrev split_lines : House → List Record → List ℕ → List Part → Node → List (Option Refusal)
split_lines t l by ps x =
    unless (owns l by x.name) NotYours
    ∷ option_map (λ r. AlreadySplit r.number) (split_of l x.name)
    ∷ unless (not (is_offered l x)) StillOffered
    ∷ unless (nat_le 1 (length ps) && nat_le (length ps) 100) BadPartCount
    ∷ unless (nat_lt (depth_of l x.name) 64) TooDeep
    ∷ first (map (refusal_of_part t by) ps)
    ∷ unless (sum_by (λ p. p.lots) ps == x.lots) SumDiffers
    ∷ []

pub split_passes : (t : House) (l : List Record) (by : List ℕ) (ps : List Part) (x : Node)
    → split_row t l by ps x ≡ None → SplitHolds t l by ps x × (split_of l x.name ≡ None)
split_passes t l by ps x h =
    let p = none_of (split_lines t l by ps x) h in (
      record {
        owned = unless_none _ _ p.0;
        free = unless_none _ _ p.1.1.0;
        count = unless_none _ _ p.1.1.1.0;
        shallow = unless_none _ _ p.1.1.1.1.0;
        parts = p.1.1.1.1.1.0;
        sums = unless_none _ _ p.1.1.1.1.1.1.0;
      },
      mapped_none _ _ p.1.0,
    )

pub split_accepted : (t : House) (l : List Record) (by : List ℕ) (ps : List Part) (x : Node) → SplitHolds t l by ps x
    → split_of l x.name ≡ None → split_row t l by ps x ≡ None
split_accepted t l by ps x h whole =
    of_none (split_lines t l by ps x) (
      none_unless _ _ h.owned,
      (
        ap (option_map (λ r. AlreadySplit r.number)) whole,
        (
          none_unless _ _ h.free,
          (none_unless _ _ h.count, (none_unless _ _ h.shallow, (h.parts, (none_unless _ _ h.sums, tt)))),
        ),
      ),
    )

-- the lines of a Claim's row that don't depend on what was claimed before, and its last line
pub record ClaimHolds (t : House) (by account : List ℕ) (x : Node) : Type 0 where
  pub given : is_given x.kind ≡ true
  pub taker : is_taker by x.kind ≡ true
  pub known : knows_account t by account ≡ true

pub none_told : {A : Type 0} (o : Option A) → is_none o ≡ true → o ≡ None
none_told None e = refl
none_told (Some r) e = absurd (cc)

given_of : (l : List Record) (x : Node) → is_offered l x ≡ true
    → (is_given x.kind ≡ true) × (decision_of l x.name ≡ None)
given_of l x h =
    let p = and_parts (is_given x.kind) (is_none (decision_of l x.name)) h in
    (p.0, none_told (decision_of l x.name) p.1)

pub offered_of : (l : List Record) (x : Node) → is_given x.kind ≡ true → decision_of l x.name ≡ None
    → is_offered l x ≡ true
offered_of l x given none = ap (λ b. b && is_none (decision_of l x.name)) given ∙ ap is_none none

-- the lines of a Claim's row
abbrev claim_lines : House → List Record → List ℕ → List ℕ → Node → List (Option Refusal)
claim_lines t l by account x =
    unless (is_offered l x) NotOffered
    ∷ unless (is_taker by x.kind) NotYours
    ∷ unless (knows_account t by account) UnknownAccount
    ∷ limit_row (used_by l x.kind + x.lots) (limit_by t l x.kind)
    ∷ []

pub claim_passes : (t : House) (l : List Record) (by account : List ℕ) (x : Node) → claim_row t l by account x ≡ None
    → ClaimHolds t by account x × (decision_of l x.name ≡ None)
    × (limit_row (used_by l x.kind + x.lots) (limit_by t l x.kind) ≡ None)
claim_passes t l by account x h =
    let p = none_of (claim_lines t l by account x) h in
    let g = given_of l x (unless_none _ _ p.0) in
    (record { given = g.0; taker = unless_none _ _ p.1.0; known = unless_none _ _ p.1.1.0 }, g.1, p.1.1.1.0)

pub claim_accepted : (t : House) (l : List Record) (by account : List ℕ) (x : Node) → ClaimHolds t by account x
    → decision_of l x.name ≡ None → limit_row (used_by l x.kind + x.lots) (limit_by t l x.kind) ≡ None
    → claim_row t l by account x ≡ None
claim_accepted t l by account x h none within =
    of_none (claim_lines t l by account x)
    (none_unless _ _ (offered_of l x h.given none), (none_unless _ _ h.taker, (none_unless _ _ h.known, (within, tt))))

-- a refusal or a cancel: the node is given, and who asks is its taker or its giver
pub decision_passes : (l : List Record) (x : Node) (b : Bool)
    → first (unless (is_offered l x) NotOffered ∷ unless b NotYours ∷ []) ≡ None
    → (is_given x.kind ≡ true) × (decision_of l x.name ≡ None) × (b ≡ true)
decision_passes l x b h =
    let p = none_of (unless (is_offered l x) NotOffered ∷ unless b NotYours ∷ []) h in
    let g = given_of l x (unless_none _ _ p.0) in
    (g.0, g.1, unless_none _ _ p.1.0)

pub decision_accepted : (l : List Record) (x : Node) (b : Bool) → is_given x.kind ≡ true → decision_of l x.name ≡ None
    → b ≡ true → first (unless (is_offered l x) NotOffered ∷ unless b NotYours ∷ []) ≡ None
decision_accepted l x b given none yours =
    of_none (unless (is_offered l x) NotOffered ∷ unless b NotYours ∷ [])
    (none_unless _ _ (offered_of l x given none), (none_unless _ _ yours, tt))

-- the lines of an Agree's row but the last
pub record AgreeHolds (t : House) (by giver taker : List ℕ) (rate limit : ℕ) : Type 0 where
  pub house : bytes_eq by t.house ≡ true
  pub giver_known : knows_firm t giver ≡ true
  pub taker_known : knows_firm t taker ≡ true
  pub apart : not (bytes_eq giver taker) ≡ true
  pub in_range : are_terms rate limit ≡ true

abbrev agree_lines : House → List Record → List ℕ → (giver taker : List ℕ) → ℕ → ℕ → List (Option Refusal)
agree_lines t l by giver taker rate limit =
    unless (bytes_eq by t.house) HouseOnly
    ∷ unless (knows_firm t giver) UnknownFirm
    ∷ unless (knows_firm t taker) UnknownFirm
    ∷ unless (not (bytes_eq giver taker)) OwnAgreement
    ∷ unless (are_terms rate limit) BadTerms
    ∷ unless (is_none (terms_of t l giver taker)) AgreementExists
    ∷ []

pub agree_passes : (t : House) (l : List Record) (by giver taker : List ℕ) (rate limit : ℕ)
    → agree_row t l by giver taker rate limit ≡ None
    → AgreeHolds t by giver taker rate limit × (is_none (terms_of t l giver taker) ≡ true)
agree_passes t l by giver taker rate limit h =
    let p = none_of (agree_lines t l by giver taker rate limit) h in (
      record {
        house = unless_none _ _ p.0;
        giver_known = unless_none _ _ p.1.0;
        taker_known = unless_none _ _ p.1.1.0;
        apart = unless_none _ _ p.1.1.1.0;
        in_range = unless_none _ _ p.1.1.1.1.0;
      },
      unless_none _ _ p.1.1.1.1.1.0,
    )

pub agree_accepted : (t : House) (l : List Record) (by giver taker : List ℕ) (rate limit : ℕ)
    → AgreeHolds t by giver taker rate limit → is_none (terms_of t l giver taker) ≡ true
    → agree_row t l by giver taker rate limit ≡ None
agree_accepted t l by giver taker rate limit h none =
    of_none (agree_lines t l by giver taker rate limit) (
      none_unless _ _ h.house,
      (
        none_unless _ _ h.giver_known,
        (
          none_unless _ _ h.taker_known,
          (none_unless _ _ h.apart, (none_unless _ _ h.in_range, (none_unless _ _ none, tt))),
        ),
      ),
    )

-- a raise: the giver is known, and the limit can be raised by so much
pub raise_passes : (t : House) (l : List Record) (by giver : List ℕ) (lots : ℕ) → raise_row t l by giver lots ≡ None
    → (knows_firm t giver ≡ true) × (raised_row lots (limit_of t l giver by) ≡ None)
raise_passes t l by giver lots h =
    let p = none_of (unless (knows_firm t giver) UnknownFirm ∷ raised_row lots (limit_of t l giver by) ∷ []) h in
    (unless_none _ _ p.0, p.1.0)

pub raise_accepted : (t : House) (l : List Record) (by giver : List ℕ) (lots : ℕ) → knows_firm t giver ≡ true
    → raised_row lots (limit_of t l giver by) ≡ None → raise_row t l by giver lots ≡ None
raise_accepted t l by giver lots known within =
    of_none (unless (knows_firm t giver) UnknownFirm ∷ raised_row lots (limit_of t l giver by) ∷ [])
    (none_unless _ _ known, (within, tt))

-- a change that is not refused is called for by a firm of the house table, and its row refuses nothing
pub refusal_parts : (t : House) (l : List Record) (by : List ℕ) (c : Command) → refusal_of t l by c ≡ None
    → (knows_firm t by ≡ true) × (row t l by c ≡ None)
refusal_parts t l by c h =
    let p = none_of (unless (knows_firm t by) UnknownFirm ∷ row t l by c ∷ []) h in
    (unless_none _ _ p.0, p.1.0)

pub refusal_none : (t : House) (l : List Record) (by : List ℕ) (c : Command) → knows_firm t by ≡ true
    → row t l by c ≡ None → refusal_of t l by c ≡ None
refusal_none t l by c known h =
    of_none (unless (knows_firm t by) UnknownFirm ∷ row t l by c ∷ []) (none_unless _ _ known, (h, tt))

-- ---- what a change that is accepted says of the node that it names

-- the Split of a node that is there, has none and isn't offered
pub record SplitsNode (l : List Record) (n : EntryPart) : Type 0 where
  pub node : Node
  pub there : node_of l n ≡ Some node
  pub whole : split_of l n ≡ None
  pub free : not (is_offered l node) ≡ true

-- where it is accepted
pub splits_well : (t : House) (l : List Record) (by : List ℕ) (c : Command) (n : EntryPart) → row t l by c ≡ None
    → splits n c ≡ true → SplitsNode l n
splits_well t l by (Split m ps) n h is =
    let there = at_node_none (split_row t l by ps) (node_of l m) h in
    let passes = split_passes t l by ps there.0 there.1.1 in
    let one : m ≡ n = name_is m n is in
    let called : there.0.name ≡ m = node_called l m there.0 there.1.0 in
    record {
      node = there.0;
      there = subst (λ (z : EntryPart). node_of l z ≡ Some there.0) one there.1.0;
      whole = subst (λ (z : EntryPart). split_of l z ≡ None) (called ∙ one) passes.1;
      free = passes.0.free;
    }
splits_well t l by (Trade _ _ _ _ _) n h is = absurd (cc)
splits_well t l by (Claim _ _) n h is = absurd (cc)
splits_well t l by (Refuse _) n h is = absurd (cc)
splits_well t l by (Cancel _) n h is = absurd (cc)
splits_well t l by (Agree _ _ _ _) n h is = absurd (cc)
splits_well t l by (Raise _ _) n h is = absurd (cc)
splits_well t l by (Initiate _) n h is = absurd (cc)
splits_well t l by (Decline _) n h is = absurd (cc)
splits_well t l by (Reverse _) n h is = absurd (cc)

-- the decision of a node that is there, given, and undecided
pub record DecidesNode (l : List Record) (n : EntryPart) : Type 0 where
  pub node : Node
  pub there : node_of l n ≡ Some node
  pub given : is_given node.kind ≡ true
  pub undecided : decision_of l n ≡ None

decides_from : (l : List Record) (m n : EntryPart) (x : Node) → m ≡ n → node_of l m ≡ Some x → is_given x.kind ≡ true
    → decision_of l x.name ≡ None → DecidesNode l n
decides_from l m n x one found given none = record {
  node = x;
  there = subst (λ (z : EntryPart). node_of l z ≡ Some x) one found;
  given = given;
  undecided = subst (λ (z : EntryPart). decision_of l z ≡ None) (node_called l m x found ∙ one) none;
}

-- where it is accepted
pub decides_well : (t : House) (l : List Record) (by : List ℕ) (c : Command) (n : EntryPart) → row t l by c ≡ None
    → decides n c ≡ true → DecidesNode l n
decides_well t l by (Claim m account) n h is =
    let there = at_node_none (claim_row t l by account) (node_of l m) h in
    let passes = claim_passes t l by account there.0 there.1.1 in
    decides_from l m n there.0 (name_is m n is) there.1.0 passes.0.given passes.1
decides_well t l by (Refuse m) n h is =
    let there = at_node_none (refuse_row l by) (node_of l m) h in
    let passes = decision_passes l there.0 (is_taker by there.0.kind) there.1.1 in
    decides_from l m n there.0 (name_is m n is) there.1.0 passes.0 passes.1
decides_well t l by (Cancel m) n h is =
    let there = at_node_none (cancel_row l by) (node_of l m) h in
    let passes = decision_passes l there.0 (is_giver by there.0.kind) there.1.1 in
    decides_from l m n there.0 (name_is m n is) there.1.0 passes.0 passes.1
decides_well t l by (Trade _ _ _ _ _) n h is = absurd (cc)
decides_well t l by (Split _ _) n h is = absurd (cc)
decides_well t l by (Agree _ _ _ _) n h is = absurd (cc)
decides_well t l by (Raise _ _) n h is = absurd (cc)
decides_well t l by (Initiate _) n h is = absurd (cc)
decides_well t l by (Decline _) n h is = absurd (cc)
decides_well t l by (Reverse _) n h is = absurd (cc)
