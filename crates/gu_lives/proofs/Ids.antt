-- Ids decide nothing but whether a call was made before.
use Rattle.std.proofs.Common.{◌≡◌, ℕ, zero, suc, ◌+◌, ◌-◌, ◌≤◌, true, false, not, ◌&&◌, List, [], ◌∷◌, ◌++◌, length}
use Rattle.std.proofs.Common.{refl, sym, ◌∙◌, ap, subst, Option, map}
use Rattle.std.specs.Prelude.{Some, None, ◌==◌, find, sum_by, option_map, option_and_then, is_none}
use Rattle.std.specs.Prelude.{unwrap_or, bytes_eq, nat_le, nat_lt}
use Rattle.std.specs.List.{All, IsDistinct}
use Rattle.std.proofs.lemmas.List.{length-map}
use Rattle.std.proofs.lemmas.List.Elements.{All-nil, All-cons, All-head, All-tail}
use Rattle.gu_base.specs.Limits.{most_parts, deepest, most_entries}
use Rattle.gu_base.specs.Numbers.{EntryPart, are_terms}
use Rattle.gu_base.specs.House.{House, knows_firm, knows_account, agreement}
use Rattle.gu_base.specs.History.{is_change}
use Rattle.gu_base.specs.Nodes.{node_of, nodes, nodes_of, same_name, split_of, splits, decision_of, decides, claim_of}
use Rattle.gu_base.specs.Nodes.{claimed_account, parent, is_given, is_offered}
use Rattle.gu_base.specs.Places.{line_within, line_of, place_along, place_of_kind, depth_of}
use Rattle.gu_base.specs.Terms.{deed_of, dealing_of, dealings, terms_under, limit_under, used_under}
use Rattle.gu_base.specs.Terms.{use_of_node}
use Rattle.gu_base.specs.Refusals.{unless, first, at_node, row, refusal_of, refusal_of_part, split_row, claim_row}
use Rattle.gu_base.specs.Refusals.{owns, is_taker, is_giver, limit_row, limit_by, used_by}
use Rattle.gu_base.specs.Refusals.{raised_row}
use Rattle.gu_base.specs.Answers.{status_of}
use Rattle.gu_base.specs.declared.command.Part.{Part}
use Rattle.gu_base.specs.declared.command.Command.{Command}
use Rattle.gu_base.specs.declared.command.Command.TheVariants.{Trade, Split, Claim, Refuse, Cancel, Agree, Raise}
use Rattle.gu_base.specs.declared.command.Command.TheVariants.{Initiate, Decline, Reverse}
use Rattle.gu_base.specs.declared.entry.Record.{Record}
use Rattle.gu_base.specs.declared.node.Kind.{Kind}
use Rattle.gu_base.specs.declared.node.Kind.TheVariants.{Root, Own, Given}
use Rattle.gu_base.specs.declared.node.Node.{Node}
use Rattle.gu_base.specs.declared.refusal.Refusal.TheVariants.{UnknownFirm, NotYours, AlreadySplit, StillOffered}
use Rattle.gu_base.specs.declared.refusal.Refusal.TheVariants.{BadPartCount, TooDeep, SumDiffers, NotOffered}
use Rattle.gu_base.specs.declared.refusal.Refusal.TheVariants.{UnknownAccount, HouseOnly, OwnAgreement, BadTerms}
use Rattle.gu_base.specs.declared.refusal.Refusal.TheVariants.{AgreementExists}
use Rattle.gu_lives.specs.Renumbered.{with_id, with_ids, HasOwnIds, IsWhole}
use Rattle.gu_lives.proofs.Mapped.{find_mapped, none_mapped, and_then_mapped, and_then_same, filter_map_same}
use Rattle.gu_lives.proofs.Rolled.{map_cut}

module _ (g : Record → List ℕ) where
  nodes_ids : (l : List Record) → nodes (with_ids g l) ≡ nodes l
  nodes_ids [] = refl
  nodes_ids (r ∷ l) = ap (λ xs. nodes_of r.number r.firm r.command ++ xs) (nodes_ids l)

  module _ (l : List Record) where
    node_ids : (n : EntryPart) → node_of (with_ids g l) n ≡ node_of l n
    node_ids n = ap (find (λ x. same_name x.name n)) (nodes_ids l)

    split_ids : (n : EntryPart) → split_of (with_ids g l) n ≡ option_map (with_id g) (split_of l n)
    split_ids n = find_mapped (with_id g) (λ r. splits n r.command) (λ r. splits n r.command) (λ r. refl) l

    decision_ids : (n : EntryPart) → decision_of (with_ids g l) n ≡ option_map (with_id g) (decision_of l n)
    decision_ids n = find_mapped (with_id g) (λ r. decides n r.command) (λ r. decides n r.command) (λ r. refl) l

    claim_ids : (n : EntryPart) → claim_of (with_ids g l) n ≡ claim_of l n
    claim_ids n =
        ap (option_and_then (λ r. claimed_account r.command)) (decision_ids n)
        ∙ and_then_mapped (with_id g) (λ r. claimed_account r.command) (decision_of l n)

    offered_ids : (x : Node) → is_offered (with_ids g l) x ≡ is_offered l x
    offered_ids x =
        ap (λ b. is_given x.kind && b)
        (ap is_none (decision_ids x.name) ∙ none_mapped (with_id g) (decision_of l x.name))

    line_ids : (steps : ℕ) (o : Option Node) → line_within steps (with_ids g l) o ≡ line_within steps l o
    line_ids steps None = refl
    line_ids zero (Some x) = refl
    line_ids (suc steps) (Some x) =
        ap (λ xs. x ∷ xs)
        (ap (line_within steps (with_ids g l))
        (and_then_same (node_of (with_ids g l)) (node_of l) node_ids (parent x.kind))
        ∙ line_ids steps (option_and_then (node_of l) (parent x.kind)))

    line_of_ids : (n : EntryPart) → line_of (with_ids g l) n ≡ line_of l n
    line_of_ids n =
        ap (λ k. line_within k (with_ids g l) (node_of (with_ids g l) n)) (length-map l (with_id g))
        ∙ (ap (line_within (length l) (with_ids g l)) (node_ids n) ∙ line_ids (length l) (node_of l n))

    along_ids : (xs : List Node) → place_along (with_ids g l) xs ≡ place_along l xs
    along_ids [] = refl
    along_ids (x ∷ xs) = λ i. place_of_kind x.kind (claim_ids x.name i) (along_ids xs i)

    owns_ids : (by : List ℕ) (n : EntryPart) → owns (with_ids g l) by n ≡ owns l by n
    owns_ids by n =
        ap (λ o. unwrap_or (option_map (λ owner. bytes_eq owner by) (option_map (λ p. p.firm) o)) false)
        (ap (place_along (with_ids g l)) (line_of_ids n) ∙ along_ids (line_of l n))

    depth_ids : (n : EntryPart) → depth_of (with_ids g l) n ≡ depth_of l n
    depth_ids n = ap (λ xs. length xs - 1) (line_of_ids n)

    deed_ids : (x y by : List ℕ) (c : Command) → deed_of (with_ids g l) x y by c ≡ deed_of l x y by c
    deed_ids x y by (Claim n _) = ap (option_and_then (use_of_node x y)) (node_ids n)
    deed_ids x y by (Trade _ _ _ _ _) = refl
    deed_ids x y by (Split _ _) = refl
    deed_ids x y by (Refuse _) = refl
    deed_ids x y by (Cancel _) = refl
    deed_ids x y by (Agree _ _ _ _) = refl
    deed_ids x y by (Raise _ _) = refl
    deed_ids x y by (Initiate _) = refl
    deed_ids x y by (Decline _) = refl
    deed_ids x y by (Reverse _) = refl

    dealings_ids : (x y : List ℕ) → dealings (with_ids g l) x y ≡ dealings l x y
    dealings_ids x y =
        filter_map_same (with_id g) (dealing_of (with_ids g l) x y) (dealing_of l x y)
        (λ r. ap (option_map (λ d. record { number = r.number; deed = d })) (deed_ids x y r.firm r.command)) l

    split_line : (o : Option Record)
        → option_map (λ (r : Record). AlreadySplit r.number) (option_map (with_id g) o)
        ≡ option_map (λ (r : Record). AlreadySplit r.number) o
    split_line None = refl
    split_line (Some r) = refl

    split_line_ids : (n : EntryPart)
        → option_map (λ (r : Record). AlreadySplit r.number) (split_of (with_ids g l) n)
        ≡ option_map (λ (r : Record). AlreadySplit r.number) (split_of l n)
    split_line_ids n = ap (option_map (λ (r : Record). AlreadySplit r.number)) (split_ids n) ∙ split_line (split_of l n)

    module _ (t : House) where
      used_by_ids : (k : Kind) → used_by (with_ids g l) k ≡ used_by l k
      used_by_ids (Root _) = refl
      used_by_ids (Own _ _ _) = refl
      used_by_ids (Given _ x y) = ap used_under (dealings_ids x y)

      limit_by_ids : (k : Kind) → limit_by t (with_ids g l) k ≡ limit_by t l k
      limit_by_ids (Root _) = refl
      limit_by_ids (Own _ _ _) = refl
      limit_by_ids (Given _ x y) = ap (limit_under (agreement t x y)) (dealings_ids x y)

      split_row_ids : (by : List ℕ) (ps : List Part) (x : Node)
          → split_row t (with_ids g l) by ps x ≡ split_row t l by ps x
      split_row_ids by ps x = λ i. first (
          unless (owns_ids by x.name i) NotYours
          ∷ split_line_ids x.name i
          ∷ unless (not (offered_ids x i)) StillOffered
          ∷ unless (nat_le 1 (length ps) && nat_le (length ps) most_parts) BadPartCount
          ∷ unless (nat_lt (depth_ids x.name i) deepest) TooDeep
          ∷ first (map (refusal_of_part t by) ps)
          ∷ unless (sum_by (λ p. p.lots) ps == x.lots) SumDiffers ∷ [])

      claim_row_ids : (by account : List ℕ) (x : Node)
          → claim_row t (with_ids g l) by account x ≡ claim_row t l by account x
      claim_row_ids by account x = λ i. first (
          unless (offered_ids x i) NotOffered
          ∷ unless (is_taker by x.kind) NotYours
          ∷ unless (knows_account t by account) UnknownAccount
          ∷ limit_row (used_by_ids x.kind i + x.lots) (limit_by_ids x.kind i) ∷ [])

      row_ids : (by : List ℕ) (c : Command) → row t (with_ids g l) by c ≡ row t l by c
      row_ids by (Trade _ _ _ _ _) = refl
      row_ids by (Split n ps) = λ i. at_node (λ x. split_row_ids by ps x i) (node_ids n i)
      row_ids by (Claim n a) = λ i. at_node (λ x. claim_row_ids by a x i) (node_ids n i)
      row_ids by (Refuse n) =
          λ i. at_node (λ x. first (unless (offered_ids x i) NotOffered ∷ unless (is_taker by x.kind) NotYours ∷ []))
          (node_ids n i)
      row_ids by (Cancel n) =
          λ i. at_node (λ x. first (unless (offered_ids x i) NotOffered ∷ unless (is_giver by x.kind) NotYours ∷ []))
          (node_ids n i)
      row_ids by (Agree x y r m) = λ i. first (
          unless (bytes_eq by t.house) HouseOnly
          ∷ unless (knows_firm t x) UnknownFirm
          ∷ unless (knows_firm t y) UnknownFirm
          ∷ unless (not (bytes_eq x y)) OwnAgreement
          ∷ unless (are_terms r m) BadTerms
          ∷ unless (is_none (terms_under (agreement t x y) (dealings_ids x y i))) AgreementExists ∷ [])
      row_ids by (Raise x n) = λ i. first (
          unless (knows_firm t x) UnknownFirm
          ∷ raised_row n (limit_under (agreement t x by) (dealings_ids x by i)) ∷ [])
      row_ids by (Initiate _) = refl
      row_ids by (Decline _) = refl
      row_ids by (Reverse _) = refl

      pub refusal_ids : (by : List ℕ) (c : Command) → refusal_of t (with_ids g l) by c ≡ refusal_of t l by c
      refusal_ids by c = λ i. first (unless (knows_firm t by) UnknownFirm ∷ row_ids by c i ∷ [])

  numbers_ids : (l : List Record) → map (λ (r : Record). r.number) (with_ids g l) ≡ map (λ (r : Record). r.number) l
  numbers_ids [] = refl
  numbers_ids (r ∷ l) = ap (λ ns. r.number ∷ ns) (numbers_ids l)

  all_ids : (P : Record → Type 0) → ((r : Record) → P r → P (with_id g r)) → (l : List Record) → All P l
      → All P (with_ids g l)
  all_ids P each [] all = All-nil P
  all_ids P each (r ∷ l) all =
      All-cons P (with_id g r) (with_ids g l) (each r (All-head P r l all)) (all_ids P each l (All-tail P r l all))

  pub whole_ids : (t : House) (l : List Record) → IsWhole t l → HasOwnIds (with_ids g l) → IsWhole t (with_ids g l)
  whole_ids t l w fresh =
      let long = length-map l (with_id g) in
      record {
        legal = record {
          accepted = λ before after r e.
              let c = map_cut (with_id g) l before r after e in
              let ok : refusal_of t (with_ids g c.0) c.1.0.firm c.1.0.command ≡ None =
              refusal_ids c.0 t c.1.0.firm c.1.0.command ∙ w.legal.accepted c.0 c.1.1.0 c.1.0 c.1.1.1.0 in
              subst (λ b. refusal_of t b r.firm r.command ≡ None) c.1.1.1.1.0
              (subst (λ (d : Record). refusal_of t (with_ids g c.0) d.firm d.command ≡ None) c.1.1.1.1.1 ok);
        };
        distinct = subst (IsDistinct (λ a b. a == b)) (sym (numbers_ids l)) w.distinct;
        changes = all_ids (λ r. is_change r.command ≡ true) (λ r h. h) l w.changes;
        statuses = all_ids (λ r. r.status ≡ status_of r.firm r.command) (λ r h. h) l w.statuses;
        ids = fresh;
        few = subst (λ n. n ≤ most_entries) (sym long) w.few;
      }
