-- What the changes other than one on which nothing stands say, and the trees that show them.
use Rattle.gu_book.proofs
use proofs.{ByNumber.change_left, Filed.{apart, changed, IsBeside, more_beside, place_of_own, rooted, Spot}}
use proofs.{Orders.{in_order, InOrder}, Undoing.{finds, once, others, unmade}}
use proofs.Vocabulary.{ap, EntryPart, false, find_filter, Grove, House, IsFree, IsGroveOf, List, named_node}
use proofs.Vocabulary.{named_place, names, None, not, place_in, Record, refl, Rose, Some, sym, without, ℕ, ◌∙◌, ◌≡◌}
use Rattle.gu_tree.specs.{Grove.{ChangesTree, place_of, Takes, TakesTree}, Shown.IsTreeOf}

module _ {t : House} {l : List Record} {r : Record} {g : Grove} (u : IsFree t l r g) where
  pub order : InOrder l
  order = in_order t l u.replayed u.rises

  -- as if the change stood last
  pub less_beside : IsBeside r l (others u)
  less_beside =
      let last = more_beside (others u) r in
      record {
        nodes = λ n none. cc (last.nodes n none, (finds u).nodes n);
        alike = λ n un.
            let a = last.alike n un in
            record { splits = cc ((finds u).splits_same n); decides = cc ((finds u).decisions n) };
        places = λ k other. cc (change_left r.number k l (λ e. other (sym e)));
      }

  place_gone : place_in (others u) r.number ≡ None
  place_gone = cc (find_filter _ _ _ l (λ d is. ap not is))

  -- its place is the node that it made or named
  pub own_place : place_of g r.number ≡ named_place r.number r.command
  own_place = u.filed.places _ ∙ place_of_own l r (once u) u.among

  -- an Agree or a Raise, which has no place in the trees
  pub left_alone : named_place r.number r.command ≡ None → IsGroveOf (without l r.number) g
  left_alone placeless = apart less_beside u.filed placeless (cc (place_gone, own_place))

  -- a Split or a decision, taken back at its node
  pub taken_back : {trade : ℕ} {p : List ℕ} {n : EntryPart} → Spot l g trade p n → named_node r.command ≡ Some n
      → (h : Grove) (new : Rose) → ChangesTree g h trade new → Takes g h r.number
      → IsTreeOf (without l r.number) trade new → IsGroveOf (without l r.number) h
  taken_back s is h new tree place shows = changed less_beside u.filed place place_gone order s is new tree shows

  -- a Trade, whose tree goes
  pub uprooted : ((n : EntryPart) → names n r.command ≡ false) → (h : Grove) → TakesTree g h r.number
      → Takes g h r.number → IsGroveOf (without l r.number) h
  uprooted unnamed h tree place =
      rooted less_beside u.filed place place_gone unnamed _ tree (unmade u _ refl)
