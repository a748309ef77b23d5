-- What a list of calls makes of a history.
use Rattle.std.specs.Prelude.{◌≡◌, ℕ, ◌+◌, ◌≤◌, List, [], ◌∷◌, ◌++◌, length, codes, decimal}
use Rattle.gu_base.specs.House.{House}
use Rattle.gu_base.specs.declared.house.Pair.{Pair}
use Rattle.gu_base.specs.declared.house.Agreement.{Agreement}
use Rattle.gu_base.specs.declared.command.Command.TheVariants.{Agree}
use Rattle.gu_base.specs.Answers.{Call, answer_to, after}
use Rattle.gu_base.specs.declared.entry.Entry.{Entry}
use Rattle.gu_base.specs.declared.entry.Answer.{Answer}
use Rattle.gu_base.specs.declared.entry.Answer.TheVariants.{Accepted}

-- the history after a list of calls
abbrev pub after_all : House → List Entry → List Call → List Entry
after_all t h [] = h
after_all t h (c ∷ cs) = after_all t (after t h c) cs

-- the answers to a list of calls
abbrev pub answers : House → List Entry → List Call → List Answer
answers t h [] = []
answers t h (c ∷ cs) = answer_to t h c ∷ answers t (after t h c) cs

-- the i-th call of the clearing house, which makes an agreement
abbrev pub opening_call : House → ℕ → Pair × Agreement → Call
opening_call t i e = record {
  firm = t.house;
  id = codes "OPEN-" ++ decimal i;
  command = Agree e.0.giver e.0.taker e.1.rate e.1.limit;
}

-- the calls that make these agreements one after the other, from the i-th on
abbrev pub opening_from : House → ℕ → List (Pair × Agreement) → List Call
opening_from t i [] = []
opening_from t i (e ∷ es) = opening_call t i e ∷ opening_from t (i + 1) es

-- the calls that make the agreements of the opening
abbrev pub opening_calls : House → List Call
opening_calls t = opening_from t 1 t.opening

-- the history of a book that makes them
abbrev pub opening_history : House → List Entry
opening_history t = after_all t [] (opening_calls t)

-- the call that an entry records
abbrev pub call_of : Entry → Call
call_of e = record { firm = e.firm; id = e.id; command = e.command }

-- a history that begins with the opening one, each entry behind which is what the rules accept
-- after those before it
pub record IsRunFrom (t : House) (opening h : List Entry) : Type 0 where
  pub begins : (rest : List Entry) × (h ≡ opening ++ rest)
  pub accepted : (before after : List Entry) (e : Entry) → h ≡ before ++ e ∷ after
      → length opening ≤ length before
      → answer_to t before (call_of e) ≡ Accepted (length before + 1) e.status
