-- Small histories that compute: what a roll gives, and why each condition is there.
use Rattle.std.proofs.Common.{◌++◌, cond, ◌≡◌, ℕ, true, false, List, [], ◌∷◌, refl, map}
use Rattle.std.specs.Prelude.{codes, decimal, Some, None, filter, ◌==◌, not}
use Rattle.gu_base.specs.House.{House}
use Rattle.gu_base.specs.History.{live}
use Rattle.gu_base.specs.Standing.{first_refused}
use Rattle.gu_base.specs.Fees.{paid_by}
use Rattle.gu_base.specs.Terms.{used_of}
use Rattle.gu_base.specs.Answers.{Call, answer_to}
use Rattle.gu_base.specs.Runs.{answers, after_all, call_of, opening_history}
use Rattle.gu_base.specs.declared.command.Side.TheVariants.{Buy}
use Rattle.gu_base.specs.declared.command.Part.{Part}
use Rattle.gu_base.specs.declared.command.Command.{Command}
use Rattle.gu_base.specs.declared.command.Command.TheVariants.{Trade, Split, Claim, Agree, Raise, Initiate, Reverse}
use Rattle.gu_base.specs.declared.entry.Entry.{Entry}
use Rattle.gu_base.specs.declared.entry.Record.{Record}
use Rattle.gu_base.specs.declared.entry.Answer.TheVariants.{Accepted, Repeated, Refused}
use Rattle.gu_base.specs.declared.house.Pair.{Pair}
use Rattle.gu_base.specs.declared.house.Agreement.{Agreement}
use Rattle.gu_base.specs.declared.state.State.TheVariants.{Held, Offered, Claimed, ReversalPending, Reversed}
use Rattle.gu_base.specs.declared.refusal.Refusal.TheVariants.{UnknownFirm, LimitExceeded, AgreementExists}
use Rattle.gu_base.specs.declared.refusal.Refusal.TheVariants.{AlreadyConsented, DuplicateId}
use Rattle.gu_base.proofs.Worked.{hse, aaa, bbb, a1, b1, esz6, node}
use Rattle.gu_lives.specs.Extends.{extends}
use Rattle.gu_lives.specs.Renumbered.{with_ids, rolled}
use Rattle.gu_lives.specs.Roll.{kept}
use Rattle.gu_lives.specs.Trades.{in_trades, is_open}

abbrev terms : ℕ → ℕ → Pair × Agreement
terms rate limit = (record { giver = aaa; taker = bbb }, record { rate = rate; limit = limit })

-- two firms; their agreement fixed, or made by the opening, or none
abbrev house_of : List (Pair × Agreement) → List (Pair × Agreement) → House
house_of fixed opening = record {
  house = hse;
  firms = aaa ∷ bbb ∷ [];
  accounts = record { firm = aaa; name = a1 } ∷ record { firm = bbb; name = b1 } ∷ [];
  instruments = esz6 ∷ [];
  agreements = fixed;
  opening = opening;
}

abbrev house : House
house = house_of (terms 125 100 ∷ []) []

-- with no agreement, and with one that the opening makes
abbrev bare : House
bare = house_of [] []

abbrev opened : House
opened = house_of [] (terms 125 100 ∷ [])

abbrev call : List ℕ → ℕ → Command → Call
call firm id command = record { firm = firm; id = id ∷ []; command = command }

abbrev to : ℕ → List ℕ → Part
to lots firm = record { lots = lots; firm = firm; account = None }

abbrev trade : ℕ → Call
trade id = call hse id (Trade aaa a1 esz6 Buy 60)

-- a trade that is given up and claimed, one that is reversed, and one with an open offer
abbrev day : List Call
day =
    trade 1
    ∷ call aaa 2 (Split (node 1 0) (to 60 bbb ∷ []))
    ∷ call bbb 3 (Claim (node 2 1) b1)
    ∷ trade 4
    ∷ call hse 5 (Initiate 4) ∷ call aaa 6 (Initiate 4) ∷ call hse 7 (Reverse 4)
    ∷ trade 8
    ∷ call aaa 9 (Split (node 8 0) (to 60 bbb ∷ []))
    ∷ call hse 10 (Initiate 8)
    ∷ []

abbrev history : List Entry
history = after_all house [] day

all_accepted : answers house [] day
    ≡ Accepted 1 Held ∷ Accepted 2 Offered ∷ Accepted 3 Claimed ∷ Accepted 4 Held ∷ Accepted 5 ReversalPending
    ∷ Accepted 6 ReversalPending ∷ Accepted 7 Reversed ∷ Accepted 8 Held ∷ Accepted 9 Offered
    ∷ Accepted 10 ReversalPending ∷ []
all_accepted = refl

-- the new book: five entries, and the last Split names the Trade by its new number
abbrev new_book : List Entry
new_book = rolled (live history)

new_calls : map call_of new_book
    ≡ trade 1 ∷ call aaa 2 (Split (node 1 0) (to 60 bbb ∷ [])) ∷ call bbb 3 (Claim (node 2 1) b1) ∷ trade 8
    ∷ call aaa 9 (Split (node 4 0) (to 60 bbb ∷ [])) ∷ []
new_calls = refl

accepted_anew : answers house [] (map call_of new_book)
    ≡ Accepted 1 Held ∷ Accepted 2 Offered ∷ Accepted 3 Claimed ∷ Accepted 4 Held ∷ Accepted 5 Offered ∷ []
accepted_anew = refl

-- ---- a larger house

-- a third firm with an account, fixed terms with it, and an instrument
abbrev ccc : List ℕ
ccc = codes "CCC"

abbrev larger : House
larger = record {
  house = hse;
  firms = ccc ∷ bbb ∷ aaa ∷ [];
  accounts = record { firm = ccc; name = a1 } ∷ house.accounts;
  instruments = codes "NQZ6" ∷ esz6 ∷ [];
  agreements = (record { giver = bbb; taker = ccc }, record { rate = 40; limit = 100 }) ∷ house.agreements;
  opening = [];
}

tested : (extends house larger ≡ true) × (extends larger house ≡ false) × (extends house house ≡ true)
    × (extends house (house_of (terms 126 100 ∷ []) []) ≡ false) × (extends bare house ≡ false)
    × (extends house bare ≡ false) × (extends bare opened ≡ false)
tested = (refl, refl, refl, refl, refl, refl, refl)

-- the same history there, and then the new firm
goes_on : (map call_of (after_all larger [] day) ≡ map call_of history)
    × (answer_to house history (call bbb 13 (Split (node 2 1) (to 60 ccc ∷ []))) ≡ Refused UnknownFirm)
    × (answer_to larger history (call bbb 13 (Split (node 2 1) (to 60 ccc ∷ []))) ≡ Accepted 11 Offered)
goes_on = (refl, refl, refl)

-- ---- what a roll forgets

-- the id of a reversed change, so that a late retry is done once more; and consents
retried : (answer_to house history (trade 4) ≡ Repeated 4 Held) × (answer_to house new_book (trade 4) ≡ Accepted 6 Held)
retried = (refl, refl)

consents_lost : (answer_to house history (call hse 11 (Initiate 8)) ≡ Refused AlreadyConsented)
    × (answer_to house new_book (call hse 11 (Initiate 4)) ≡ Accepted 6 ReversalPending)
consents_lost = (refl, refl)

-- a call that names an entry, made again at the new book with its old number, is no repeat: its id is used
abbrev again : Call
again = call aaa 9 (Split (node 8 0) (to 60 bbb ∷ []))

number_is_old : (answer_to house history again ≡ Repeated 9 Offered)
    × (answer_to house new_book again ≡ Refused (DuplicateId 5))
number_is_old = (refl, refl)

-- open trades alone: entries 8 and 9; the limit that the claim of the first trade had used is free again
abbrev open_book : List Entry
open_book = rolled (kept (in_trades (live history) (is_open (live history))) history)

open_calls : map call_of open_book ≡ trade 8 ∷ call aaa 9 (Split (node 1 0) (to 60 bbb ∷ [])) ∷ []
open_calls = refl

limit_freed : (answer_to house history (call bbb 12 (Claim (node 9 1) b1)) ≡ Refused LimitExceeded)
    × (answer_to house new_book (call bbb 12 (Claim (node 5 1) b1)) ≡ Refused LimitExceeded)
    × (answer_to house open_book (call bbb 12 (Claim (node 2 1) b1)) ≡ Accepted 3 Claimed)
    × (used_of (live history) aaa bbb ≡ 60) × (used_of (live open_book) aaa bbb ≡ 0)
    × (paid_by house (live history) bbb ≡ 7500) × (paid_by house (live open_book) bbb ≡ 0)
limit_freed = (refl, refl, refl, refl, refl, refl, refl)

-- a part that isn't closed isn't legal: without its Split a Claim is refused, and without its Agree or Raise too
split_left_out : first_refused house [] (filter (λ r. not (r.number == 2)) (live history)) ≡ Some 3
split_left_out = refl

abbrev raised : List Call
raised =
    call hse 1 (Agree aaa bbb 125 50) ∷ call bbb 2 (Raise aaa 10) ∷ trade 3
    ∷ call aaa 4 (Split (node 3 0) (to 60 bbb ∷ [])) ∷ call bbb 5 (Claim (node 4 1) b1) ∷ []

raise_left_out : (first_refused bare [] (live (after_all bare [] raised)) ≡ None)
    × (first_refused bare [] (filter (λ r. not (r.number == 2)) (live (after_all bare [] raised))) ≡ Some 5)
    × (first_refused bare [] (filter (λ r. not (r.number == 1)) (live (after_all bare [] raised))) ≡ Some 2)
raise_left_out = (refl, refl, refl)

-- a table with more between two old firms doesn't keep the history: an Agree of the day is refused

agreed_in_the_file : answer_to (house_of (terms 125 50 ∷ []) []) [] (call hse 1 (Agree aaa bbb 125 50))
    ≡ Refused AgreementExists
agreed_in_the_file = refl

-- nor one with other terms: another fee
other_fee : (paid_by house (live history) bbb ≡ 7500)
    × (paid_by (house_of (terms 126 100 ∷ []) []) (live history) bbb ≡ 7560)
other_fee = (refl, refl)

-- an agreement of the opening that was reversed: no live change is left of it, and a new book under the same file
-- makes it again
abbrev unmade : List Call
unmade =
    call hse 1 (Initiate 1) ∷ call aaa 2 (Initiate 1) ∷ call bbb 3 (Initiate 1) ∷ call hse 4 (Reverse 1)
    ∷ call hse 5 (Agree aaa bbb 40 100) ∷ []

abbrev unmade_history : List Entry
unmade_history = after_all opened (opening_history opened) unmade

opening_reversed : (map call_of (rolled (live unmade_history)) ≡ call hse 5 (Agree aaa bbb 40 100) ∷ [])
    × (answer_to opened (opening_history opened) (call hse 5 (Agree aaa bbb 40 100)) ≡ Refused AgreementExists)
opening_reversed = (refl, refl)

-- what is live of a day whose opening made two agreements, of which the first was reversed: under a file without its
-- line, and with a new id for the other, the new book begins with its opening
abbrev back : Pair × Agreement
back = (record { giver = bbb; taker = aaa }, record { rate = 50; limit = 60 })

abbrev left : House
left = house_of [] (back ∷ [])

abbrev second_left : List Record
second_left =
    record { number = 2; firm = hse; id = codes "OPEN-" ++ decimal 2; command = Agree bbb aaa 50 60; status = Held }
    ∷ record { number = 7; firm = hse; id = 5 ∷ []; command = (trade 5).command; status = Held } ∷ []

opened_anew :
    map call_of (rolled (with_ids (λ r. cond (r.number == 2) (codes "OPEN-" ++ decimal 1) r.id) second_left))
    ≡ map call_of (opening_history left) ++ trade 5 ∷ []
opened_anew = refl
