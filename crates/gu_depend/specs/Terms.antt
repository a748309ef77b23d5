-- Terms that are those of a list of changes.
use Rattle.std.specs.Prelude.{◌≡◌, ℕ, List, Contains, length, Option, Some, None, option_map}
use Rattle.std.specs.Prelude.{option_and_then, unwrap_or}
use Rattle.std.specs.Map.{lookup}
use Rattle.gu_base.specs.House.{House, agreement}
use Rattle.gu_base.specs.Nodes.{node_of}
use Rattle.gu_base.specs.Terms.{dealings}
use Rattle.gu_base.specs.declared.house.Pair.{Pair}
use Rattle.gu_base.specs.declared.command.Command.{Command}
use Rattle.gu_base.specs.declared.command.Command.TheVariants.{Claim, Agree, Raise}
use Rattle.gu_base.specs.declared.entry.Record.{Record}
use Rattle.gu_base.specs.declared.node.Kind.{Kind}
use Rattle.gu_base.specs.declared.node.Kind.TheVariants.{Given}
use Rattle.gu_fees.specs.Rows.{is_pair}
use Rattle.gu_fees.specs.Pairs.{PairView}
use Rattle.gu_fees.specs.Terms.{TermsView, row_of, pair_at}
use Rattle.gu_tree.specs.ShownAll.{change_of}

abbrev pub pair_of_kind : Kind → Option Pair
pair_of_kind (Given _ giver taker) = Some (record { giver = giver; taker = taker })
pair_of_kind _ = None

-- the giver and the taker whose terms a command of a firm makes, raises or uses
abbrev pub pair_of : List Record → List ℕ → Command → Option Pair
pair_of l by (Agree giver taker _ _) = Some (record { giver = giver; taker = taker })
pair_of l by (Raise giver _) = Some (record { giver = giver; taker = by })
pair_of l by (Claim n _) = option_and_then (λ x. pair_of_kind x.kind) (node_of l n)
pair_of l by _ = None

-- where a pair stands
abbrev pub place_of_pair : TermsView → Pair → Option ℕ
place_of_pair v p = lookup (is_pair p.giver p.taker) v.places

-- how many entries the giver and the taker of a change have, their Agree, Raises and Claims; 0
-- where it deals for nobody
abbrev pub entries_dealt : List Record → ℕ → ℕ
entries_dealt l k = unwrap_or (option_map (λ p. length (dealings l p.giver p.taker))
    (option_and_then (λ r. pair_of l r.firm r.command) (change_of l k))) 0

-- each row has the terms of the house table and what is dealt; each change that deals is placed at
-- its pair, which has a row, and nothing else is placed
pub record AreTermsOf (t : House) (l : List Record) (v : TermsView) : Type 0 where
  pub rows : (giver taker : List ℕ) (r : PairView) → row_of v giver taker ≡ Some r
      → (r.file ≡ agreement t giver taker) × (r.dealings ≡ dealings l giver taker)
  pub ready : (r : Record) (p : Pair) → Contains l r → pair_of l r.firm r.command ≡ Some p
      → (q : PairView) × (row_of v p.giver p.taker ≡ Some q)
  pub placed : (n : ℕ) → pair_at v n ≡ option_and_then
      (λ r. option_and_then (place_of_pair v) (pair_of l r.firm r.command)) (change_of l n)
