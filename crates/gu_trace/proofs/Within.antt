-- Each entry of a history of a run is within the limits.
use Rattle.std.proofs.Common.{◌≡◌, ℕ, ◌+◌, List, [], ◌∷◌, ◌++◌, refl, sym, ◌∙◌, subst, append_assoc, arith, length}
use Rattle.std.proofs.Common.{Bool, true, false, cond, eqb, Option}
use Rattle.std.specs.Prelude.{Some, None, find, ◌==◌}
use Rattle.std.specs.List.{All}
use Rattle.std.proofs.lemmas.List.Elements.{All-nil, All-cons, All-head, All-tail}
use Rattle.gu_base.specs.House.{House}
use Rattle.gu_base.specs.History.{live, numbered_as, numbered_from}
use Rattle.gu_base.specs.Answers.{command_refusal, entry_of}
use Rattle.gu_base.specs.Runs.{IsRunFrom}
use Rattle.gu_base.specs.declared.entry.Entry.{Entry}
use Rattle.gu_base.specs.declared.entry.Record.{Record}
use Rattle.gu_base.specs.declared.command.Command.{Command}
use Rattle.gu_base.specs.declared.command.Command.TheVariants.{Trade, Split, Claim, Refuse, Cancel, Agree, Raise}
use Rattle.gu_base.specs.declared.command.Command.TheVariants.{Initiate, Decline, Reverse}
use Rattle.gu_book.specs.Limits.{IsWithinLimits}
use Rattle.gu_base.proofs.Accepted.{allowed}
use Rattle.gu_book.proofs.Refused.{accepted_small}
use Rattle.std.proofs.lemmas.Option.{same_Some}

small : (t : House) (h : List Entry) (by : List ℕ) (c : Command) → command_refusal t h by c ≡ None → IsWithinLimits c
small t h by (Trade f a i s n) none = accepted_small t (live h) by (Trade f a i s n) none
small t h by (Split n ps) none = accepted_small t (live h) by (Split n ps) none
small t h by (Claim _ _) none = tt
small t h by (Refuse _) none = tt
small t h by (Cancel _) none = tt
small t h by (Agree g k r l) none = accepted_small t (live h) by (Agree g k r l) none
small t h by (Raise g n) none = accepted_small t (live h) by (Raise g n) none
small t h by (Initiate _) none = tt
small t h by (Decline _) none = tt
small t h by (Reverse _) none = tt

within_from : (t : House) (h before rest : List Entry) → IsRunFrom t [] h → h ≡ before ++ rest
    → All (λ e. IsWithinLimits e.command) rest
within_from t h before [] run cut = All-nil (λ e. IsWithinLimits e.command)
within_from t h before (e ∷ rest) run cut =
    All-cons (λ e. IsWithinLimits e.command) e rest
    (let free = allowed t before e (length before + 1) (run.accepted before rest e cut (omega arith)) in
    small t before e.firm e.command free.lawful)
    (within_from t h (before ++ e ∷ []) rest run (cut ∙ sym (append_assoc before (e ∷ []) rest)))

-- each entry of a history of a run is within the limits
pub run_within : (t : House) (h : List Entry) → IsRunFrom t [] h → All (λ e. IsWithinLimits e.command) h
run_within t h run = within_from t h [] h run refl

pick : (b : Bool) (k : ℕ) (e : Entry) (others : Option Record) (r : Record) → IsWithinLimits e.command
    → (Some r ≡ others → IsWithinLimits r.command) → Some r ≡ cond b (Some (numbered_as k e)) others
    → IsWithinLimits r.command
pick true k e others r here later found =
    let s : numbered_as k e ≡ r = same_Some (numbered_as k e) r (sym found) in
    subst (λ (q : Record). IsWithinLimits q.command) s here
pick false k e others r here later found = later found

within_numbered : (k n : ℕ) (h : List Entry) (r : Record) → All (λ e. IsWithinLimits e.command) h
    → Some r ≡ find (λ q. q.number == n) (numbered_from k h) → IsWithinLimits r.command
within_numbered k n [] r all found = absurd (cc)
within_numbered k n (e ∷ es) r all found =
    pick (eqb k n) k e (find (λ q. q.number == n) (numbered_from (k + 1) es)) r
    (All-head (λ q. IsWithinLimits q.command) e es all)
    (within_numbered (k + 1) n es r (All-tail (λ q. IsWithinLimits q.command) e es all)) found

-- an entry that is found among such entries is within the limits
pub within_found : (h : List Entry) (n : ℕ) (r : Record) → All (λ e. IsWithinLimits e.command) h → Some r ≡ entry_of h n
    → IsWithinLimits r.command
within_found h n r all found = within_numbered 1 n h r all found
