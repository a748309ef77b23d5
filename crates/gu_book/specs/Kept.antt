-- What a book keeps true of its fields.
use Rattle.std.specs.Prelude.{◌≡◌, ℕ, ◌+◌, ◌<◌, ◌≤◌, false, List, [], ◌∷◌, ◌++◌, length, None}
use Rattle.gu_base.specs.Limits.{most_entries}
use Rattle.gu_base.specs.House.{House}
use Rattle.gu_base.specs.History.{live, is_reversed}
use Rattle.gu_base.specs.Standing.{first_refused}
use Rattle.gu_base.specs.Answers.{answer_to}
use Rattle.gu_base.specs.Consents.{consents_left}
use Rattle.gu_base.specs.Runs.{call_of}
use Rattle.gu_base.specs.declared.entry.Answer.TheVariants.{Accepted}
use Rattle.gu_base.specs.declared.entry.Entry.{Entry}
use Rattle.gu_consent.specs.Given.{given}
use Rattle.gu_consent.specs.declared.Consents.{Consents}
use Rattle.gu_book.specs.Ids.{NoIdTwice}
use Rattle.gu_book.specs.Limits.{AllWithinLimits}
use Rattle.gu_book.specs.Live.{entry_of_change}
use Rattle.gu_book.specs.LiveState.{IsStateOf}
use Rattle.gu_book.specs.Lookups.{AreLookupsOf}
use Rattle.gu_book.specs.Seen.{BookView}
use Rattle.gu_book.specs.declared.live.Change.{Change}
use Rattle.gu_book.specs.declared.live_state.LiveState.{LiveState}
use Rattle.gu_book.specs.declared.lookups.Reversals.{Reversals}

-- each of these entries is what is accepted after those before it
abbrev pub AcceptedFrom : House → List Entry → List Entry → Type 0
AcceptedFrom t before [] = Unit {0}
AcceptedFrom t before (e ∷ rest) = (answer_to t before (call_of e)
    ≡ Accepted (length before + 1) e.status) × AcceptedFrom t (before ++ e ∷ []) rest

-- some house accepts the entry after these, with this number
pub record IsAccepted (h : List Entry) (e : Entry) (n : ℕ) : Type 0 where
  pub house : House
  pub answered : answer_to house h (call_of e) ≡ Accepted n e.status

-- the book accepts the entry, with its number
abbrev pub IsAcceptedBy : BookView → Change → Type 0
IsAcceptedBy b c =
    answer_to b.house b.history (call_of (entry_of_change c)) ≡ Accepted c.number c.status

-- the book with the entry at the end of its history
abbrev pub with_entry : BookView → Change → BookView
with_entry b c = record b { history = b.history ++ entry_of_change c ∷ [] }

-- no live change is refused after those before it; the consents are those of the history, and none
-- of a change that is reversed; no Reverse names an entry that is still to come
pub record IsKept (house : House) (history : List Entry) (consents : Consents) : Type 0 where
  pub few : length history ≤ most_entries
  pub behind : (n : ℕ) → length history < n → is_reversed history n ≡ false
  pub replayed : first_refused house [] (live history) ≡ None
  pub within : AllWithinLimits (live history)
  pub accepted : AcceptedFrom house [] history
  pub once : NoIdTwice history
  pub consented : (n : ℕ) → given consents n ≡ consents_left history n

-- all that a book keeps: the same, that its look-ups are those of the history, and its state is
-- that of the live changes
pub record IsBook (house : House) (history : List Entry) (consents : Consents)
    (reversals : Reversals) (s : LiveState) : Type 0 where
  pub kept : IsKept house history consents
  pub looked_up : AreLookupsOf reversals history
  pub state : IsStateOf house (live history) (length history + 1) s
