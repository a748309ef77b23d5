-- With other numbers the same is refused, for the same reason.
use Rattle.std.proofs.Common.{◌≡◌, ℕ, ◌+◌, Bool, true, false, not, ◌&&◌, List, [], ◌∷◌, ◌++◌, length, refl, sym, ◌∙◌}
use Rattle.std.proofs.Common.{ap, cond, Option, map}
use Rattle.std.specs.Prelude.{⊤, Some, None, ◌==◌, option_map, is_some, is_none, unwrap_or, bytes_eq, nat_le, nat_lt}
use Rattle.std.specs.Prelude.{sum_by}
use Rattle.std.proofs.lemmas.List.{map-append}
use Rattle.gu_base.specs.Limits.{most_parts, deepest}
use Rattle.gu_base.specs.Numbers.{EntryPart, are_terms}
use Rattle.gu_base.specs.House.{House, knows_firm, knows_account}
use Rattle.gu_base.specs.Nodes.{node_of, split_of, is_offered}
use Rattle.gu_base.specs.Places.{depth_of}
use Rattle.gu_base.specs.Terms.{terms_of, limit_of}
use Rattle.gu_base.specs.Refusals.{unless, first, at_node, row, refusal_of, refusal_of_part, split_row, claim_row}
use Rattle.gu_base.specs.Refusals.{refuse_row, cancel_row, owns, is_taker, is_giver, limit_row, limit_by, used_by}
use Rattle.gu_base.specs.Refusals.{trade_row, agree_row, raise_row, raised_row}
use Rattle.gu_base.specs.Standing.{first_refused, standing_on, without}
use Rattle.gu_base.specs.declared.command.Part.{Part}
use Rattle.gu_base.specs.declared.command.Command.{Command}
use Rattle.gu_base.specs.declared.command.Command.TheVariants.{Trade, Split, Claim, Refuse, Cancel, Agree, Raise}
use Rattle.gu_base.specs.declared.command.Command.TheVariants.{Initiate, Decline, Reverse}
use Rattle.gu_base.specs.declared.entry.Record.{Record}
use Rattle.gu_base.specs.declared.node.Kind.{Kind}
use Rattle.gu_base.specs.declared.node.Kind.TheVariants.{Root, Own, Given}
use Rattle.gu_base.specs.declared.node.Node.{Node}
use Rattle.gu_base.specs.declared.refusal.Refusal.{Refusal}
use Rattle.gu_base.specs.declared.refusal.Refusal.TheVariants.{UnknownFirm, NotYours, AlreadySplit}
use Rattle.gu_base.specs.declared.refusal.Refusal.TheVariants.{StillOffered, BadPartCount, TooDeep, SumDiffers}
use Rattle.gu_base.specs.declared.refusal.Refusal.TheVariants.{NotOffered, UnknownAccount, HouseOnly, OwnAgreement}
use Rattle.gu_base.specs.declared.refusal.Refusal.TheVariants.{BadTerms, AgreementExists}
use Rattle.gu_lives.specs.Renumbered.{mapped, mapped_name, mapped_command, mapped_record, mapped_refusal, IsInjective}
use Rattle.gu_lives.proofs.Larger.{part_lines, trade_lines}
use Rattle.gu_lives.proofs.Mapped.{mapped_kind, mapped_node, filter_mapped, number_mapped, node_mapped, split_mapped}
use Rattle.gu_lives.proofs.Mapped.{offered_mapped, place_mapped, depth_mapped, terms_mapped, limit_mapped, used_mapped}

module _ (f : ℕ → ℕ) where
  -- each line of the second is that of the first, with other numbers
  abbrev Lines : List (Option Refusal) → List (Option Refusal) → Type 0
  Lines [] [] = ⊤
  Lines (a ∷ xs) (b ∷ ys) = (b ≡ option_map (mapped_refusal f) a) × Lines xs ys
  Lines _ _ = ⊥

  first_mapped : (xs ys : List (Option Refusal)) → Lines xs ys → first ys ≡ option_map (mapped_refusal f) (first xs)
  first_mapped [] [] g = refl
  first_mapped [] (b ∷ ys) g = absurd g
  first_mapped (a ∷ xs) [] g = absurd g
  first_mapped (None ∷ xs) (b ∷ ys) g = ap (λ o. first (o ∷ ys)) g.0 ∙ first_mapped xs ys g.1
  first_mapped (Some r ∷ xs) (b ∷ ys) g = ap (λ o. first (o ∷ ys)) g.0

  unless_mapped : (a b : Bool) (r : Refusal) → mapped_refusal f r ≡ r → b ≡ a
      → unless b r ≡ option_map (mapped_refusal f) (unless a r)
  unless_mapped true b r fixed e = ap (λ c. unless c r) e
  unless_mapped false b r fixed e = ap (λ c. unless c r) e ∙ ap Some (sym fixed)

  at_node_mapped : (p q : Node → Option Refusal) (o : Option Node)
      → ((x : Node) → p (mapped_node f x) ≡ option_map (mapped_refusal f) (q x))
      → at_node p (option_map (mapped_node f) o) ≡ option_map (mapped_refusal f) (at_node q o)
  at_node_mapped p q None same = refl
  at_node_mapped p q (Some x) same = same x

  -- ---- rows without a number

  part_fixed : (t : House) (by : List ℕ) (p : Part)
      → refusal_of_part t by p ≡ option_map (mapped_refusal f) (refusal_of_part t by p)
  part_fixed t by p =
      first_mapped (part_lines t by p) (part_lines t by p)
      (unless_mapped _ _ _ refl refl, (unless_mapped _ _ _ refl refl, (unless_mapped _ _ _ refl refl, tt)))

  first_two : (a b : Option Refusal) (xs ys : List (Option Refusal)) → b ≡ option_map (mapped_refusal f) a
      → first ys ≡ option_map (mapped_refusal f) (first xs)
      → first (b ∷ ys) ≡ option_map (mapped_refusal f) (first (a ∷ xs))
  first_two None b xs ys e h = ap (λ o. first (o ∷ ys)) e ∙ h
  first_two (Some r) b xs ys e h = ap (λ o. first (o ∷ ys)) e

  parts_fixed : (t : House) (by : List ℕ) (ps : List Part)
      → first (map (refusal_of_part t by) ps) ≡ option_map (mapped_refusal f) (first (map (refusal_of_part t by) ps))
  parts_fixed t by [] = refl
  parts_fixed t by (p ∷ ps) =
      first_two (refusal_of_part t by p) (refusal_of_part t by p) (map (refusal_of_part t by) ps)
      (map (refusal_of_part t by) ps) (part_fixed t by p) (parts_fixed t by ps)

  trade_fixed : (t : House) (by g a i : List ℕ) (n : ℕ)
      → trade_row t by g a i n ≡ option_map (mapped_refusal f) (trade_row t by g a i n)
  trade_fixed t by g a i n =
      first_mapped (trade_lines t by g a i n) (trade_lines t by g a i n) (
        unless_mapped _ _ _ refl refl,
        (
          unless_mapped _ _ _ refl refl,
          (unless_mapped _ _ _ refl refl, (unless_mapped _ _ _ refl refl, (unless_mapped _ _ _ refl refl, tt))),
        ),
      )

  limit_fixed : (n m : ℕ) (o p : Option ℕ) → m ≡ n → p ≡ o
      → limit_row m p ≡ option_map (mapped_refusal f) (limit_row n o)
  limit_fixed n m None p e h = ap (limit_row m) h
  limit_fixed n m (Some k) p e h =
      ap (limit_row m) h ∙ unless_mapped (nat_le n k) (nat_le m k) _ refl (ap (λ z. nat_le z k) e)

  raised_fixed : (n : ℕ) (o p : Option ℕ) → p ≡ o → raised_row n p ≡ option_map (mapped_refusal f) (raised_row n o)
  raised_fixed n None p h = ap (raised_row n) h
  raised_fixed n (Some k) p h = ap (raised_row n) h ∙ unless_mapped _ _ _ refl refl

  taker_mapped : (by : List ℕ) (k : Kind) → is_taker by (mapped_kind f k) ≡ is_taker by k
  taker_mapped by (Root _) = refl
  taker_mapped by (Own _ _ _) = refl
  taker_mapped by (Given _ _ _) = refl

  giver_mapped : (by : List ℕ) (k : Kind) → is_giver by (mapped_kind f k) ≡ is_giver by k
  giver_mapped by (Root _) = refl
  giver_mapped by (Own _ _ _) = refl
  giver_mapped by (Given _ _ _) = refl

  split_line : (o : Option Record)
      → option_map (λ (r : Record). AlreadySplit r.number) (option_map (mapped_record f) o)
      ≡ option_map (mapped_refusal f) (option_map (λ (r : Record). AlreadySplit r.number) o)
  split_line None = refl
  split_line (Some r) = refl

  module _ (one : IsInjective f) (l : List Record) where
    owns_mapped : (by : List ℕ) (n : EntryPart) → owns (mapped f l) by (mapped_name f n) ≡ owns l by n
    owns_mapped by n =
        ap (λ o. unwrap_or (option_map (λ owner. bytes_eq owner by) (option_map (λ p. p.firm) o)) false)
        (place_mapped f one l n)

    module _ (t : House) where
      abbrev split_lines : List Record → List ℕ → List Part → Node → List (Option Refusal)
      split_lines l by ps x =
          unless (owns l by x.name) NotYours
          ∷ option_map (λ r. AlreadySplit r.number) (split_of l x.name)
          ∷ unless (not (is_offered l x)) StillOffered
          ∷ unless (nat_le 1 (length ps) && nat_le (length ps) most_parts) BadPartCount
          ∷ unless (nat_lt (depth_of l x.name) deepest) TooDeep
          ∷ first (map (refusal_of_part t by) ps)
          ∷ unless (sum_by (λ p. p.lots) ps == x.lots) SumDiffers
          ∷ []

      split_row_mapped : (by : List ℕ) (ps : List Part) (x : Node)
          → split_row t (mapped f l) by ps (mapped_node f x)
          ≡ option_map (mapped_refusal f) (split_row t l by ps x)
      split_row_mapped by ps x =
          first_mapped (split_lines l by ps x) (split_lines (mapped f l) by ps (mapped_node f x)) (
            unless_mapped _ _ _ refl (owns_mapped by x.name),
            (
              ap (option_map (λ (r : Record). AlreadySplit r.number)) (split_mapped f one l x.name)
                  ∙ split_line (split_of l x.name),
              (
                unless_mapped _ _ _ refl (ap not (offered_mapped f one l x)),
                (
                  unless_mapped _ _ _ refl refl,
                  (
                    unless_mapped _ _ _ refl (ap (λ d. nat_lt d deepest) (depth_mapped f one l x.name)),
                    (parts_fixed t by ps, (unless_mapped _ _ _ refl refl, tt)),
                  ),
                ),
              ),
            ),
          )

      used_by_mapped : (k : Kind) → used_by (mapped f l) (mapped_kind f k) ≡ used_by l k
      used_by_mapped (Root _) = refl
      used_by_mapped (Own _ _ _) = refl
      used_by_mapped (Given _ g k) = used_mapped f one l g k

      limit_by_mapped : (k : Kind) → limit_by t (mapped f l) (mapped_kind f k) ≡ limit_by t l k
      limit_by_mapped (Root _) = refl
      limit_by_mapped (Own _ _ _) = refl
      limit_by_mapped (Given _ g k) = limit_mapped f one l t g k

      abbrev claim_lines : List Record → List ℕ → List ℕ → Node → List (Option Refusal)
      claim_lines l by account x =
          unless (is_offered l x) NotOffered
          ∷ unless (is_taker by x.kind) NotYours
          ∷ unless (knows_account t by account) UnknownAccount
          ∷ limit_row (used_by l x.kind + x.lots) (limit_by t l x.kind)
          ∷ []

      claim_row_mapped : (by account : List ℕ) (x : Node)
          → claim_row t (mapped f l) by account (mapped_node f x)
          ≡ option_map (mapped_refusal f) (claim_row t l by account x)
      claim_row_mapped by account x =
          first_mapped (claim_lines l by account x) (claim_lines (mapped f l) by account (mapped_node f x)) (
            unless_mapped _ _ _ refl (offered_mapped f one l x),
            (
              unless_mapped _ _ _ refl (taker_mapped by x.kind),
              (
                unless_mapped _ _ _ refl refl,
                (
                  limit_fixed _ _ _ _ (ap (λ n. n + x.lots) (used_by_mapped x.kind)) (limit_by_mapped x.kind),
                  tt,
                ),
              ),
            ),
          )

      decision_row_mapped : (p q : Bool) (x : Node) → q ≡ p
          → first (unless (is_offered (mapped f l) (mapped_node f x)) NotOffered ∷ unless q NotYours ∷ [])
          ≡ option_map (mapped_refusal f) (first (unless (is_offered l x) NotOffered ∷ unless p NotYours ∷ []))
      decision_row_mapped p q x e =
          first_mapped (unless (is_offered l x) NotOffered ∷ unless p NotYours ∷ [])
          (unless (is_offered (mapped f l) (mapped_node f x)) NotOffered ∷ unless q NotYours ∷ [])
          (unless_mapped _ _ _ refl (offered_mapped f one l x), (unless_mapped _ _ _ refl e, tt))

      abbrev agree_lines : List Record → List ℕ → (giver taker : List ℕ) → ℕ → ℕ → List (Option Refusal)
      agree_lines l by giver taker rate limit =
          unless (bytes_eq by t.house) HouseOnly
          ∷ unless (knows_firm t giver) UnknownFirm
          ∷ unless (knows_firm t taker) UnknownFirm
          ∷ unless (not (bytes_eq giver taker)) OwnAgreement
          ∷ unless (are_terms rate limit) BadTerms
          ∷ unless (is_none (terms_of t l giver taker)) AgreementExists
          ∷ []

      agree_row_mapped : (by g k : List ℕ) (r n : ℕ)
          → agree_row t (mapped f l) by g k r n ≡ option_map (mapped_refusal f) (agree_row t l by g k r n)
      agree_row_mapped by g k r n =
          first_mapped (agree_lines l by g k r n) (agree_lines (mapped f l) by g k r n) (
            unless_mapped _ _ _ refl refl,
            (
              unless_mapped _ _ _ refl refl,
              (
                unless_mapped _ _ _ refl refl,
                (
                  unless_mapped _ _ _ refl refl,
                  (
                    unless_mapped _ _ _ refl refl,
                    (unless_mapped _ _ _ refl (ap is_none (terms_mapped f one l t g k)), tt),
                  ),
                ),
              ),
            ),
          )

      raise_row_mapped : (by g : List ℕ) (n : ℕ)
          → raise_row t (mapped f l) by g n ≡ option_map (mapped_refusal f) (raise_row t l by g n)
      raise_row_mapped by g n =
          first_mapped (unless (knows_firm t g) UnknownFirm ∷ raised_row n (limit_of t l g by) ∷ [])
          (unless (knows_firm t g) UnknownFirm ∷ raised_row n (limit_of t (mapped f l) g by) ∷ [])
          (unless_mapped _ _ _ refl refl, (raised_fixed n _ _ (limit_mapped f one l t g by), tt))

      node_row : (p q : Node → Option Refusal) (n : EntryPart)
          → ((x : Node) → p (mapped_node f x) ≡ option_map (mapped_refusal f) (q x))
          → at_node p (node_of (mapped f l) (mapped_name f n))
          ≡ option_map (mapped_refusal f) (at_node q (node_of l n))
      node_row p q n same = ap (at_node p) (node_mapped f one l n) ∙ at_node_mapped p q (node_of l n) same

      row_mapped : (by : List ℕ) (c : Command)
          → row t (mapped f l) by (mapped_command f c) ≡ option_map (mapped_refusal f) (row t l by c)
      row_mapped by (Trade g a i s n) = trade_fixed t by g a i n
      row_mapped by (Split n ps) =
          node_row (split_row t (mapped f l) by ps) (split_row t l by ps) n (split_row_mapped by ps)
      row_mapped by (Claim n a) =
          node_row (claim_row t (mapped f l) by a) (claim_row t l by a) n (claim_row_mapped by a)
      row_mapped by (Refuse n) =
          node_row (refuse_row (mapped f l) by) (refuse_row l by) n
          (λ x. decision_row_mapped (is_taker by x.kind) (is_taker by (mapped_kind f x.kind)) x
          (taker_mapped by x.kind))
      row_mapped by (Cancel n) =
          node_row (cancel_row (mapped f l) by) (cancel_row l by) n
          (λ x. decision_row_mapped (is_giver by x.kind) (is_giver by (mapped_kind f x.kind)) x
          (giver_mapped by x.kind))
      row_mapped by (Agree g k r n) = agree_row_mapped by g k r n
      row_mapped by (Raise g n) = raise_row_mapped by g n
      row_mapped by (Initiate _) = refl
      row_mapped by (Decline _) = refl
      row_mapped by (Reverse _) = refl

      -- a change is refused as before
      pub refusal_mapped : (by : List ℕ) (c : Command)
          → refusal_of t (mapped f l) by (mapped_command f c) ≡ option_map (mapped_refusal f) (refusal_of t l by c)
      refusal_mapped by c =
          first_mapped (unless (knows_firm t by) UnknownFirm ∷ row t l by c ∷ [])
          (unless (knows_firm t by) UnknownFirm ∷ row t (mapped f l) by (mapped_command f c) ∷ [])
          (unless_mapped _ _ _ refl refl, (row_mapped by c, tt))

  -- ---- along a list

  replay_step : (a b : Option Refusal) (n : ℕ) (x y : Option ℕ) → b ≡ option_map (mapped_refusal f) a
      → y ≡ option_map f x → cond (is_some b) (Some (f n)) y ≡ option_map f (cond (is_some a) (Some n) x)
  replay_step None b n x y e h = ap (λ o. cond (is_some o) (Some (f n)) y) e ∙ h
  replay_step (Some r) b n x y e h = ap (λ o. cond (is_some o) (Some (f n)) y) e

  module _ (one : IsInjective f) (t : House) where
    pub replay_mapped : (before rest : List Record)
        → first_refused t (mapped f before) (mapped f rest) ≡ option_map f (first_refused t before rest)
    replay_mapped before [] = refl
    replay_mapped before (r ∷ rest) =
        replay_step (refusal_of t before r.firm r.command)
        (refusal_of t (mapped f before) r.firm (mapped_command f r.command)) r.number
        (first_refused t (before ++ r ∷ []) rest)
        (first_refused t (mapped f before ++ mapped_record f r ∷ []) (mapped f rest))
        (refusal_mapped one before t r.firm r.command)
        (ap (λ z. first_refused t z (mapped f rest)) (sym (map-append (mapped_record f) before (r ∷ [])))
        ∙ replay_mapped (before ++ r ∷ []) rest)

    -- what stands on a change stands on it with its other number
    pub standing_mapped : (l : List Record) (k : ℕ)
        → standing_on t (mapped f l) (f k) ≡ option_map f (standing_on t l k)
    standing_mapped l k =
        ap (first_refused t [])
        (filter_mapped (mapped_record f) (λ r. not (r.number == f k)) (λ r. not (r.number == k))
        (λ r. ap not (number_mapped f one r.number k)) l)
        ∙ replay_mapped [] (without l k)
