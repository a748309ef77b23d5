-- What a book keeps stays true behind a growth, and with one accepted entry more.
use Rattle.gu_book.proofs
use Rattle.gu_book.specs
use proofs.{AllShown.undone, Keeps.{kept_change, kept_consents, kept_reverse, lawful, live_few, live_more, next_number}}
use proofs.{Leaves.live_rises, LookedUp.{first_added, reversals_put, reversals_same}}
use proofs.Vocabulary.{arith, cond, Consents, Entry, found_in, get_or, given, House}
use proofs.Vocabulary.{is_change, known_entry, length, List, live, LiveState, numbered_as, Record, Reversals}
use proofs.Vocabulary.{Reverse, same_Some, Some, sym, true, without, [], ℕ, ◌++◌, ◌+◌, ◌-◌, ◌==◌, ◌∙◌, ◌∷◌, ◌≡◌}
use Rattle.gu_base.proofs.LiveLaws.{change_is_no_reverse, consent_is_no_reverse, live_push_consent, live_push_reverse}
use Rattle.gu_depend.proofs.Vocabulary.{Accepted, answer_to, call_of, Decline, Initiate, is_consenting}
use specs.{Found.AreTreesOf, Kept.{IsBook, IsKept}}
use specs.LiveState.{Becomes, CanFollow, CanGo, IsLiveList, IsStateOf}
use specs.Lookups.{AreReversalsOf, reversal_in}

module _ {t : House} {h : List Entry} {cs : Consents} {reversals : Reversals} {s : LiveState}
    (book : IsBook t h cs reversals s) where
  -- the live changes are a list that a book may have
  pub list_live : IsLiveList t (live h)
  list_live = record {
    few = (omega (arith, book.kept.few, live_few h));
    replayed = book.kept.replayed;
    within = book.kept.within;
  }

  -- the trees are those of the live changes
  pub trees_kept : AreTreesOf (live h) s.trees
  trees_kept = record { house = t; filed = book.state.filed; replayed = book.kept.replayed; rises = live_rises h }

  -- the reversals have got room, and the state says the same
  pub still : (rs : Reversals) → ((m : ℕ) → reversal_in rs m ≡ reversal_in reversals m) → (now : LiveState)
      → IsStateOf t (live h) (length h + 1) now → IsBook t h cs rs now
  still rs same now is = record {
    kept = book.kept;
    looked_up = record {
      ids = book.looked_up.ids;
      reversals = record { numbers = λ m. same m ∙ book.looked_up.reversals.numbers m };
    };
    state = is;
  }

  -- ---- one accepted entry more

  module _ (n : ℕ) (e : Entry) (ok : answer_to t h (call_of e) ≡ Accepted n e.status) where
    number_is : n ≡ length h + 1
    number_is = (next_number book.kept n e ok).0

    -- a change may follow the live changes
    pub can_follow : is_change e.command ≡ true → CanFollow t (live h) (numbered_as n e) s
    can_follow change = record {
      list = list_live;
      state = rw number_is book.state;
      lawful = lawful book.kept n e ok change;
      rises = rw (live_more book.kept n e ok change) (live_rises (h ++ e ∷ []));
    }

    -- what a Reverse names may go from the live changes
    pub can_go : (k : ℕ) → e.command ≡ Reverse k → (d : Entry) → d ≡ get_or h (k - 1) d
        → CanGo t (live h) (numbered_as k d) s
    can_go k reverse d here =
        let u = undone t h e n k ok reverse in
        let there = known_entry h k d u.1.from (omega (arith, u.1.from, u.1.within)) here in
        let is = rw (same_Some u.0 (numbered_as k d) (sym u.1.entry ∙ there)) at u.1 in
        record {
          list = list_live;
          next = length h + 1;
          state = book.state;
          free = record {
            filed = book.state.filed;
            replayed = book.kept.replayed;
            rises = live_rises h;
            among = found_in _ (live h) _ is.found;
            free = is.free;
          };
          change = is.change;
        }

    module _ where
      -- what an accepted entry leaves, of any kind
      book_next : (l : List Record) → l ≡ live (h ++ e ∷ []) → {ds : Consents} → IsKept t (h ++ e ∷ []) ds
          → {rs : Reversals} → AreReversalsOf rs (h ++ e ∷ []) → {now : LiveState} → IsStateOf t l (n + 1) now
          → IsBook t (h ++ e ∷ []) ds rs now
      book_next l is kept are {now} state = record {
        kept = kept;
        looked_up = record { ids = first_added book.looked_up.ids t e n ok; reversals = are };
        state = rw ((next_number book.kept n e ok).1) (rw is at state);
      }

      pub book_more : (change : is_change e.command ≡ true) → (now : LiveState)
          → IsStateOf t (live h ++ numbered_as n e ∷ []) (n + 1) now
          → IsBook t (h ++ e ∷ []) cs reversals now
      book_more change now state =
          book_next _ (live_more book.kept n e ok change) (kept_change book.kept n e ok change)
          (reversals_same book.looked_up.reversals e (λ m. change_is_no_reverse m _ change)) state

      -- the state stays where the list does
      later : (l : List Record) → (now : LiveState) → IsStateOf t l (length h + 1) now → IsStateOf t l (n + 1) now
      later l now is = record {
        filed = is.filed;
        charged = is.charged;
        stands = is.stands;
        dealt = is.dealt;
        placed = omega (arith, is.placed, number_is);
        dealt_before = omega (arith, number_is);
      }

      -- an Initiate or a Decline
      pub book_consenting : is_consenting e.command ≡ true → (ds : Consents)
          → ((k m : ℕ) → e.command ≡ Initiate k → given ds m ≡ cond (m == k) (given cs m ++ e.firm ∷ []) (given cs m))
          → ((k m : ℕ) → e.command ≡ Decline k → given ds m ≡ cond (m == k) [] (given cs m))
          → IsBook t (h ++ e ∷ []) ds reversals s
      book_consenting consents ds gives clears =
          book_next _ (sym (live_push_consent h e consents)) (kept_consents book.kept n e ok consents ds gives clears)
          (reversals_same book.looked_up.reversals e (λ m. consent_is_no_reverse m _ consents)) (later _ s book.state)

      -- a Reverse
      pub book_less : (k : ℕ) → e.command ≡ Reverse k → (now : LiveState)
          → Becomes t (live h) (without (live h) k) s now → (ds : Consents)
          → ((m : ℕ) → given ds m ≡ cond (m == k) [] (given cs m)) → (mid rs : Reversals)
          → ((m : ℕ) → reversal_in mid m ≡ reversal_in reversals m)
          → ((m : ℕ) → reversal_in rs m ≡ cond (k == m) (Some n) (reversal_in mid m))
          → IsBook t (h ++ e ∷ []) ds rs now
      book_less k reverse now gone ds cleared mid rs same put =
          book_next _ (sym (live_push_reverse h e k reverse)) (kept_reverse book.kept n e ok k reverse ds cleared)
          (reversals_put book.looked_up.reversals t e n k ok reverse rs
          (λ m. cc (put m, same m))) (later (without (live h) k) now (gone (length h + 1) book.state))
