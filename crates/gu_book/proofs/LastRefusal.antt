-- The last refusal of a command that names an entry, by what a book keeps beside its history.
use Rattle.gu_book.proofs.Vocabulary
use Rattle.gu_depend.proofs
use proofs.Vocabulary.{command_refusal, consents_left}
use proofs.Vocabulary.{consents_of, Decline, Initiate, knows_firm, NotAParty, Refusal, UnknownFirm, unless}
use Rattle.gu_book.specs.Front.{IsStandingOn, own_refusal, rest_of}
use Vocabulary.{Bool}
use Vocabulary.{Command, Entry, entry_of, first, House, is_among, IsLiveAt, left_open, List, live, None, not_reversed}
use Vocabulary.{on_change, Option, parties_of, Record, refl, reversal_of, Reverse, Some, true, [], ℕ, ◌∙◌, ◌∷◌, ◌≡◌}

-- of a live change only the last two refusals of the row are asked
pub live_row : (t : House) (h : List Entry) (n : ℕ) (r : Record) → IsLiveAt h n r → (by : List ℕ)
    → (rest : Record → Option Refusal) → on_change t h by rest (entry_of h n)
    ≡ first (unless (is_among by (parties_of t (live h) r.firm r.command)) NotAParty ∷ rest r ∷ [])
live_row t h n r is by rest = rw (is.there, is.change, is.number, is.unreversed) refl

-- the last of these
pub last_of_row : (party : Bool) (last : Option Refusal) → party ≡ true
    → last ≡ first (unless party NotAParty ∷ last ∷ [])
last_of_row party None among = rw among refl
last_of_row party (Some x) among = rw among refl

module _ (t : House) (h : List Entry) (given : ℕ → List (List ℕ)) (left : (n : ℕ) → given n ≡ consents_left h n) where
  given_open : (n : ℕ) → reversal_of h n ≡ None → given n ≡ consents_of h n
  given_open n unnamed = left n ∙ left_open h n (not_reversed n 1 h unnamed)

  -- of an entry that no Reverse names, it is that of the rules
  pub last_kept : (by : List ℕ) (c : Command) (r : Record) (standing : Option ℕ)
      → IsStandingOn t (live h) c r.number standing → reversal_of h r.number ≡ None
      → own_refusal (given r.number) (parties_of t (live h) r.firm r.command) standing by c ≡ rest_of t h by c r
  last_kept by (Initiate _) r standing is unnamed = rw (given_open r.number unnamed) refl
  last_kept by (Decline _) r standing is unnamed = rw (given_open r.number unnamed) refl
  last_kept by (Reverse _) r standing is unnamed = rw (given_open r.number unnamed, is) refl
  last_kept by _ r standing is unnamed = refl

-- ---- the row of a command that names an entry

abbrev named_row : House → List Entry → List ℕ → ℕ → Command → Option Refusal
named_row t h by n c =
    first (unless (knows_firm t by) UnknownFirm ∷ on_change t h by (rest_of t h by c) (entry_of h n) ∷ [])

pub initiate_row : (t : House) (h : List Entry) (by : List ℕ) (n : ℕ) (c : Command)
    → c ≡ Initiate n → command_refusal t h by c ≡ named_row t h by n c
initiate_row t h by n c is = rw is refl

pub decline_row : (t : House) (h : List Entry) (by : List ℕ) (n : ℕ) (c : Command)
    → c ≡ Decline n → command_refusal t h by c ≡ named_row t h by n c
decline_row t h by n c is = rw is refl

pub reverse_row : (t : House) (h : List Entry) (by : List ℕ) (n : ℕ) (c : Command)
    → c ≡ Reverse n → command_refusal t h by c ≡ named_row t h by n c
reverse_row t h by n c is = rw is refl
