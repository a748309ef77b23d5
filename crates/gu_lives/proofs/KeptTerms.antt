-- The changes of some trades alone leave all terms and limits, and use no more.
use Rattle.std.proofs.Common.{◌≡◌, ℕ, ◌+◌, ◌≤◌, Bool, true, false, ◌&&◌, List, [], ◌∷◌, refl, sym, ◌∙◌, ap, subst}
use Rattle.std.proofs.Common.{cond, arith, Option}
use Rattle.std.specs.Prelude.{⊤, Some, None, filter, filter_map, option_map, option_and_then, bytes_eq}
use Rattle.std.specs.List.{All, cons_option}
use Rattle.std.specs.Option.{option_or}
use Rattle.std.proofs.lemmas.List.Elements.{All-head, All-tail}
use Rattle.std.proofs.lemmas.List.Sums.{sum_by-cons}
use Rattle.gu_base.specs.House.{House, agreement}
use Rattle.gu_base.specs.History.{RisesFrom}
use Rattle.gu_base.specs.Nodes.{node_of}
use Rattle.gu_base.specs.Standing.{IsLegal}
use Rattle.gu_base.specs.Terms.{deed_of, dealings, made_in, made_by_deed, raised_by_deed, used_by_deed}
use Rattle.gu_base.specs.Terms.{raised_under, used_under, terms_of, use_of_node, use_of_kind}
use Rattle.gu_base.specs.declared.command.Command.{Command}
use Rattle.gu_base.specs.declared.command.Command.TheVariants.{Trade, Split, Claim, Refuse, Cancel, Agree, Raise}
use Rattle.gu_base.specs.declared.command.Command.TheVariants.{Initiate, Decline, Reverse}
use Rattle.gu_base.specs.declared.entry.Record.{Record}
use Rattle.gu_base.specs.declared.house.Agreement.{Agreement}
use Rattle.gu_base.specs.declared.house.Deed.{Deed}
use Rattle.gu_base.specs.declared.house.Deed.TheVariants.{Uses}
use Rattle.gu_base.specs.declared.house.Dealing.{Dealing}
use Rattle.gu_base.specs.declared.node.Kind.{Kind}
use Rattle.gu_base.specs.declared.node.Kind.TheVariants.{Root, Own, Given}
use Rattle.gu_base.specs.declared.node.Node.{Node}
use Rattle.gu_depend.proofs.Finds.{all_in}
use Rattle.gu_lives.specs.Trades.{trade_of, passes, in_trades, TellsOfTrades}
use Rattle.gu_lives.proofs.KeptTrees.{node_kept, trees_kept}

-- the first deals make the same terms, raise as much, and use no more
record IsLess (xs ys : List Dealing) : Type 0 where
  made : made_in xs ≡ made_in ys
  raised : raised_under xs ≡ raised_under ys
  used : used_under xs ≤ used_under ys

-- it only uses
abbrev OnlyUses : Option Deed → Type 0
OnlyUses None = ⊤
OnlyUses (Some d) = (made_by_deed d ≡ None) × (raised_by_deed d ≡ 0)

less_both : (d : Dealing) (xs ys : List Dealing) → IsLess xs ys → IsLess (d ∷ xs) (d ∷ ys)
less_both d xs ys h =
    let a = sum_by-cons (λ (d : Dealing). raised_by_deed d.deed) d xs in
    let b = sum_by-cons (λ (d : Dealing). raised_by_deed d.deed) d ys in
    let c = sum_by-cons (λ (d : Dealing). used_by_deed d.deed) d xs in
    let e = sum_by-cons (λ (d : Dealing). used_by_deed d.deed) d ys in
    record {
      made = ap (option_or (made_by_deed d.deed)) h.made;
      raised = a ∙ (ap (λ n. raised_by_deed d.deed + n) h.raised ∙ sym b);
      used = omega (arith, c, e, h.used);
    }

less_second : (d : Dealing) (xs ys : List Dealing) → OnlyUses (Some d.deed) → IsLess xs ys → IsLess xs (d ∷ ys)
less_second d xs ys only h =
    let b = sum_by-cons (λ (d : Dealing). raised_by_deed d.deed) d ys in
    let e = sum_by-cons (λ (d : Dealing). used_by_deed d.deed) d ys in
    record {
      made = h.made ∙ sym (ap (λ o. option_or o (made_in ys)) only.0);
      raised = omega (arith, b, h.raised, only.1);
      used = omega (arith, e, h.used);
    }

numbered : ℕ → Option Deed → Option Dealing
numbered n o = option_map (λ d. record { number = n; deed = d }) o

module _ (q : Record → Bool) (f g : Record → Option Deed) where
  abbrev dealt : (Record → Option Deed) → Record → Option Dealing
  dealt f r = option_map (λ d. record { number = r.number; deed = d }) (f r)

  kept_step : (r : Record) (xs ys : List Dealing) (o : Option Deed) → IsLess xs ys
      → IsLess (cons_option (option_map (λ d. record { number = r.number; deed = d }) o) xs)
      (cons_option (option_map (λ d. record { number = r.number; deed = d }) o) ys)
  kept_step r xs ys None h = h
  kept_step r xs ys (Some d) h = less_both (record { number = r.number; deed = d }) xs ys h

  out_step : (r : Record) (xs ys : List Dealing) (o : Option Deed) → OnlyUses o → IsLess xs ys
      → IsLess xs (cons_option (option_map (λ d. record { number = r.number; deed = d }) o) ys)
  out_step r xs ys None only h = h
  out_step r xs ys (Some d) only h = less_second (record { number = r.number; deed = d }) xs ys only h

  less_at : (r : Record) (l : List Record) (b : Bool) → (b ≡ true → f r ≡ g r) → (b ≡ false → OnlyUses (g r))
      → IsLess (filter_map (dealt f) (filter q l)) (filter_map (dealt g) l)
      → IsLess (filter_map (dealt f) (cond b (r ∷ filter q l) (filter q l))) (filter_map (dealt g) (r ∷ l))
  less_at r l true same only h =
      subst (λ o. IsLess (cons_option (option_map (λ d. record { number = r.number; deed = d }) o)
      (filter_map (dealt f) (filter q l))) (filter_map (dealt g) (r ∷ l))) (sym (same refl))
      (kept_step r (filter_map (dealt f) (filter q l)) (filter_map (dealt g) l) (g r) h)
  less_at r l false same only h =
      out_step r (filter_map (dealt f) (filter q l)) (filter_map (dealt g) l) (g r) (only refl) h

  less_along : (l : List Record) → All (λ r. q r ≡ true → f r ≡ g r) l → All (λ r. q r ≡ false → OnlyUses (g r)) l
      → IsLess (filter_map (dealt f) (filter q l)) (filter_map (dealt g) l)
  less_along [] same only = record { made = refl; raised = refl; used = omega arith }
  less_along (r ∷ l) same only =
      less_at r l (q r) (All-head (λ (r : Record). q r ≡ true → f r ≡ g r) r l same)
      (All-head (λ (r : Record). q r ≡ false → OnlyUses (g r)) r l only)
      (less_along l (All-tail (λ (r : Record). q r ≡ true → f r ≡ g r) r l same)
      (All-tail (λ (r : Record). q r ≡ false → OnlyUses (g r)) r l only))

-- a Claim only uses
use_only : (b : Bool) (lots : ℕ) → OnlyUses (cond b (Some (Uses lots)) None)
use_only true lots = (refl, refl)
use_only false lots = tt

claim_only : (g k : List ℕ) (o : Option Node) → OnlyUses (option_and_then (use_of_node g k) o)
claim_only g k None = tt
claim_only g k (Some x) = kind_only x.lots x.kind
  where
    kind_only : (n : ℕ) (z : Kind) → OnlyUses (use_of_kind g k n z)
    kind_only n (Root _) = tt
    kind_only n (Own _ _ _) = tt
    kind_only n (Given _ h j) = use_only (bytes_eq h g && bytes_eq j k) n

only_of : (l : List Record) (p : ℕ → Bool) (g k by : List ℕ) (n : ℕ) (c : Command)
    → passes p (trade_of l n c) ≡ false → OnlyUses (deed_of l g k by c)
only_of l p g k by n (Claim m _) out = claim_only g k (node_of l m)
only_of l p g k by n (Agree _ _ _ _) out = absurd (cc)
only_of l p g k by n (Raise _ _) out = absurd (cc)
only_of l p g k by n (Trade _ _ _ _ _) out = tt
only_of l p g k by n (Split _ _) out = tt
only_of l p g k by n (Refuse _) out = tt
only_of l p g k by n (Cancel _) out = tt
only_of l p g k by n (Initiate _) out = tt
only_of l p g k by n (Decline _) out = tt
only_of l p g k by n (Reverse _) out = tt

module _ (t : House) (l : List Record) (rises : RisesFrom 0 l) (legal : IsLegal t l) (p : ℕ → Bool) where
  abbrev b : List Record
  b = filter (in_trades l p) l

  pub deed_kept : (g k by : List ℕ) (n : ℕ) (c : Command) → passes p (trade_of l n c) ≡ true
      → deed_of b g k by c ≡ deed_of l g k by c
  deed_kept g k by n (Claim m _) kept =
      ap (option_and_then (use_of_node g k)) (node_kept t l rises legal p m kept)
  deed_kept g k by n (Trade _ _ _ _ _) kept = refl
  deed_kept g k by n (Split _ _) kept = refl
  deed_kept g k by n (Refuse _) kept = refl
  deed_kept g k by n (Cancel _) kept = refl
  deed_kept g k by n (Agree _ _ _ _) kept = refl
  deed_kept g k by n (Raise _ _) kept = refl
  deed_kept g k by n (Initiate _) kept = refl
  deed_kept g k by n (Decline _) kept = refl
  deed_kept g k by n (Reverse _) kept = refl

  dealings_less : (g k : List ℕ) → IsLess (dealings b g k) (dealings l g k)
  dealings_less g k =
      less_along (in_trades l p) (λ r. deed_of b g k r.firm r.command) (λ r. deed_of l g k r.firm r.command) l
      (all_in (λ (r : Record). in_trades l p r ≡ true
      → deed_of b g k r.firm r.command ≡ deed_of l g k r.firm r.command) l
      (λ r among kept. deed_kept g k r.firm r.number r.command kept))
      (all_in (λ (r : Record). in_trades l p r ≡ false → OnlyUses (deed_of l g k r.firm r.command)) l
      (λ r among out. only_of l p g k r.firm r.number r.command out))

  pub tells_of_trades : TellsOfTrades t l p
  tells_of_trades = record {
    trees = trees_kept t l rises legal p;
    terms = λ g k. ap (option_or (agreement t g k)) (dealings_less g k).made;
    limits = λ g k.
        let h = dealings_less g k in
        ap (λ o. option_map (λ (a : Agreement). a.limit + raised_under (dealings b g k))
        (option_or (agreement t g k) o)) h.made
        ∙ ap (λ n. option_map (λ (a : Agreement). a.limit + n) (terms_of t l g k)) h.raised;
    used = λ g k. (dealings_less g k).used;
  }
