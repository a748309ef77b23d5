-- A call that a message means has a lawful name and a lawful id, and names lawful firms.
use Rattle.std.proofs.Common.{◌≡◌, ℕ, Bool, true, false, cond, List, [], ◌∷◌, refl}
use Rattle.std.specs.Prelude.{Option, Some, None, Result, Ok, Err, IsTrue, bytes_eq}
use Rattle.std.specs.List.{All}
use Rattle.std.proofs.lemmas.List.Elements.{All-nil, All-cons}
use Rattle.std.specs.Option.{ok_or}
use Rattle.gu_base.specs.Names.{is_firm_text, is_id_text}
use Rattle.gu_base.specs.declared.command.Part.{Part}
use Rattle.gu_base.specs.declared.command.Command.{Command}
use Rattle.gu_base.specs.declared.command.Command.TheVariants.{Refuse, Cancel, Initiate, Decline, Reverse}
use Rattle.gu_message.specs.declared.fault.Reject.{Reject}
use Rattle.gu_message.specs.declared.heading.Heading.{Heading}
use Rattle.gu_message.specs.declared.inbound.Inbound.{Inbound}
use Rattle.gu_message.specs.declared.inbound.Inbound.TheVariants as inbound
use Rattle.gu_message.specs.declared.instruction.Asked.{Asked}
use Rattle.gu_message.specs.declared.instruction.Asked.TheVariants as asked
use Rattle.gu_message.specs.Checks.{◌>>=◌, ok_map, bad_value, name_of, id_of}
use Rattle.gu_message.specs.Finding.{value_of}
use Rattle.gu_message.specs.SplitParts.{named, named_in, named_if, named_by, given_to, part_for, part_of, parts_of}
use Rattle.gu_message.specs.SplitParts.{counted_parts}
use Rattle.gu_message.specs.Heading.{heading_of}
use Rattle.gu_message.specs.TradeReport.{trading_firm, trade_of}
use Rattle.gu_message.specs.Instructions.{node_in, entry_in, firm_in, terms_in, agreement_in, raise_in, command_of}
use Rattle.gu_message.specs.Instructions.{instruction_of}
use Rattle.gu_message.specs.SessionMessages.{logon_of, test_request_of, resend_request_of, sequence_reset_of}
use Rattle.gu_message.specs.SessionMessages.{session_message_of}
use Rattle.gu_message.specs.Meaning.{by_type, meaning_of}
use Rattle.gu_base.specs.FirmsNamed.{NamesOnly}

-- ---- what passes the checks

-- what holds of the value that passed, if one did
abbrev pub Passes : {A : Type 0} → (A → Type 0) → Result A Reject → Type 0
Passes p (Ok x) = p x
Passes p (Err e) = Unit {0}

-- whatever passed, the rest gives so
any_then : {A B : Type 0} (q : B → Type 0) (r : Result A Reject) (f : A → Result B Reject) → ((x : A) → Passes q (f x))
    → Passes q (r >>= f)
any_then q (Ok x) f h = h x
any_then q (Err e) f h = tt

any_map : {A B : Type 0} (q : B → Type 0) (f : A → B) (r : Result A Reject) → ((x : A) → q (f x))
    → Passes q (ok_map f r)
any_map q f (Ok x) h = h x
any_map q f (Err e) h = tt

-- from what holds of it, the rest gives so
then : {A B : Type 0} (p : A → Type 0) (q : B → Type 0) (r : Result A Reject) (f : A → Result B Reject) → Passes p r
    → ((x : A) → p x → Passes q (f x)) → Passes q (r >>= f)
then p q (Ok x) f k h = h x k
then p q (Err e) f k h = tt

-- a text that passes its test
text_passes : (is : List ℕ → Bool) (t : List ℕ) (e : Reject)
    → Passes (λ x. IsTrue (is x)) (ok_or (cond (is t) (Some t) None) e)
text_passes is t e = by_test (is t) refl
  where
    by_test : (b : Bool) → is t ≡ b → Passes (λ x. IsTrue (is x)) (ok_or (cond b (Some t) None) e)
    by_test true h = h
    by_test false h = tt

name_passes : (t : List ℕ) (e : Reject) → Passes (λ firm. IsTrue (is_firm_text firm)) (ok_or (name_of t) e)
name_passes = text_passes is_firm_text

id_passes : (t : List ℕ) (e : Reject) → Passes (λ id. IsTrue (is_id_text id)) (ok_or (id_of t) e)
id_passes = text_passes is_id_text

name_then : {B : Type 0} (q : B → Type 0) (t : List ℕ) (e : Reject) (f : List ℕ → Result B Reject)
    → ((x : List ℕ) → IsTrue (is_firm_text x) → Passes q (f x)) → Passes q (ok_or (name_of t) e >>= f)
name_then q t e f h = then (λ x. IsTrue (is_firm_text x)) q (ok_or (name_of t) e) f (name_passes t e) h

id_then : {B : Type 0} (q : B → Type 0) (t : List ℕ) (e : Reject) (f : List ℕ → Result B Reject)
    → ((x : List ℕ) → IsTrue (is_id_text x) → Passes q (f x)) → Passes q (ok_or (id_of t) e >>= f)
id_then q t e f h = then (λ x. IsTrue (is_id_text x)) q (ok_or (id_of t) e) f (id_passes t e) h

heading_passes : (house : List ℕ) (fs : List (ℕ × List ℕ))
    → Passes (λ (h : Heading). IsTrue (is_firm_text h.firm)) (heading_of house fs)
unfolding heading_of
heading_passes house fs = search (name_then, any_then) depth 20 fits 4000

-- a call of a lawful firm with a lawful id, whose command names lawful firms
pub record IsLawfulCall (firm id : List ℕ) (command : Command) : Type 0 where
  pub named : IsTrue (is_firm_text firm)
  pub known : IsTrue (is_id_text id)
  pub names : NamesOnly is_firm_text command

call_passes : (firm id : List ℕ) (command : Command) → IsTrue (is_firm_text firm) → IsTrue (is_id_text id)
    → NamesOnly is_firm_text command → IsLawfulCall firm id command
call_passes firm id command n k c = record { named = n; known = k; names = c }

abbrev pub IsLawfulMeaning : Inbound → Type 0
IsLawfulMeaning (inbound.Call firm trade id command) = IsLawfulCall firm id command
IsLawfulMeaning _ = Unit {0}

-- ---- a trade

firm_passes : (fs : List (ℕ × List ℕ)) → Passes (λ firm. IsTrue (is_firm_text firm)) (trading_firm fs)
unfolding trading_firm
firm_passes fs = search (name_passes, any_then) depth 20 fits 4000

firm_then : {B : Type 0} (q : B → Type 0) (fs : List (ℕ × List ℕ)) (f : List ℕ → Result B Reject)
    → ((x : List ℕ) → IsTrue (is_firm_text x) → Passes q (f x)) → Passes q (trading_firm fs >>= f)
firm_then q fs f h = then (λ x. IsTrue (is_firm_text x)) q (trading_firm fs) f (firm_passes fs) h

trade_passes : (by : List ℕ) (fs : List (ℕ × List ℕ)) → IsTrue (is_firm_text by)
    → Passes IsLawfulMeaning (trade_of by fs)
unfolding trade_of
trade_passes by fs lawful = search (id_then, firm_then, any_then, call_passes) depth 24 fits 4000

-- ---- the parts of a split

-- who is named, if somebody is
abbrev IfNamed : Option (List ℕ) → Type 0
IfNamed None = Unit {0}
IfNamed (Some firm) = IsTrue (is_firm_text firm)

-- the firm of a party
named_passes : (party : Option (List ℕ)) → Passes IfNamed (named party)
named_passes None = tt
named_passes (Some text) = name_then IfNamed text (bad_value 524) (λ firm. Ok (Some firm)) (λ firm h. h)

named_in_passes : (text : List ℕ) (fs : List (ℕ × List ℕ)) → Passes IfNamed (named_in text fs)
unfolding named_in
named_in_passes text fs = search (named_passes, any_then) depth 12 fits 2000

named_by_passes : (fs : List (ℕ × List ℕ)) → Passes IfNamed (named_by fs)
unfolding named_by
named_by_passes fs = by_value (value_of 539 fs)
  where
    by_value : (text : Option (List ℕ)) → Passes IfNamed (named_if text fs)
    by_value None = tt
    by_value (Some text) = named_in_passes text fs

-- the firm to which a part is given
given_passes : (by : List ℕ) (firm : Option (List ℕ)) → IfNamed firm → IfNamed (given_to by firm)
given_passes by None h = tt
given_passes by (Some firm) h = by_test (bytes_eq firm by)
  where
    by_test : (b : Bool) → IfNamed (cond b None (Some firm))
    by_test true = tt
    by_test false = h

part_for_passes : (by text : List ℕ) (lots : ℕ) (firm : Option (List ℕ)) → IsTrue (is_firm_text by)
    → IfNamed firm → Passes (λ (q : Part). IsTrue (is_firm_text q.firm)) (part_for by text lots firm)
part_for_passes by text lots None lawful h =
    any_then (λ (q : Part). IsTrue (is_firm_text q.firm)) (ok_or (name_of text) (bad_value 79)) _ (λ account. lawful)
part_for_passes by text lots (Some firm) lawful h = h

named_then : {B : Type 0} (q : B → Type 0) (fs : List (ℕ × List ℕ)) (f : Option (List ℕ) → Result B Reject)
    → ((x : Option (List ℕ)) → IfNamed x → Passes q (f x)) → Passes q (named_by fs >>= f)
named_then q fs f h = then IfNamed q (named_by fs) f (named_by_passes fs) h

-- one part, and all
part_passes : (by : List ℕ) (e : List ℕ × List (ℕ × List ℕ)) → IsTrue (is_firm_text by)
    → Passes (λ (q : Part). IsTrue (is_firm_text q.firm)) (part_of by e)
unfolding part_of
part_passes by e lawful = search (named_then, any_then, part_for_passes, given_passes) depth 16 fits 4000

parts_passes : (by : List ℕ) (es : List (List ℕ × List (ℕ × List ℕ))) → IsTrue (is_firm_text by)
    → Passes (All (λ (q : Part). IsTrue (is_firm_text q.firm))) (parts_of by es)
parts_passes by [] lawful = All-nil (λ (q : Part). IsTrue (is_firm_text q.firm))
parts_passes by (e ∷ es) lawful =
    then (λ (q : Part). IsTrue (is_firm_text q.firm)) (All (λ (q : Part). IsTrue (is_firm_text q.firm))) (part_of by e)
    _ (part_passes by e lawful) (λ p h.
    then (All (λ (q : Part). IsTrue (is_firm_text q.firm))) (All (λ (q : Part). IsTrue (is_firm_text q.firm)))
    (parts_of by es) _ (parts_passes by es lawful)
    (λ ps k. All-cons (λ (q : Part). IsTrue (is_firm_text q.firm)) p ps h k))

counted_passes : (by : List ℕ) (fs : List (ℕ × List ℕ)) → IsTrue (is_firm_text by)
    → Passes (All (λ (q : Part). IsTrue (is_firm_text q.firm))) (counted_parts by fs)
unfolding counted_parts
counted_passes by fs lawful = search (parts_passes, any_then) depth 12 fits 2000

-- ---- an instruction

firm_in_passes : (tag : ℕ) (fs : List (ℕ × List ℕ)) → Passes (λ firm. IsTrue (is_firm_text firm)) (firm_in tag fs)
unfolding firm_in
firm_in_passes tag fs = search (name_passes, any_then) depth 12 fits 2000

firm_in_then : {B : Type 0} (q : B → Type 0) (tag : ℕ) (fs : List (ℕ × List ℕ)) (f : List ℕ → Result B Reject)
    → ((x : List ℕ) → IsTrue (is_firm_text x) → Passes q (f x)) → Passes q (firm_in tag fs >>= f)
firm_in_then q tag fs f h = then (λ x. IsTrue (is_firm_text x)) q (firm_in tag fs) f (firm_in_passes tag fs) h

agreement_passes : (fs : List (ℕ × List ℕ)) → Passes (NamesOnly is_firm_text) (agreement_in fs)
unfolding agreement_in
agreement_passes fs =
    firm_in_then (NamesOnly is_firm_text) 5001 fs _ (λ giver g.
    firm_in_then (NamesOnly is_firm_text) 5002 fs _ (λ taker t.
    any_then (NamesOnly is_firm_text) (terms_in 5003 fs) _
    (λ rate. any_then (NamesOnly is_firm_text) (terms_in 5004 fs) _ (λ limit. (g, t)))))

raise_passes : (fs : List (ℕ × List ℕ)) → Passes (NamesOnly is_firm_text) (raise_in fs)
unfolding raise_in
raise_passes fs =
    firm_in_then (NamesOnly is_firm_text) 5001 fs _
    (λ giver g. any_then (NamesOnly is_firm_text) (terms_in 5004 fs) _ (λ lots. g))

command_passes : (by : List ℕ) (what : Asked) (fs : List (ℕ × List ℕ)) → IsTrue (is_firm_text by)
    → Passes (NamesOnly is_firm_text) (command_of by what fs)
unfolding command_of
command_passes by asked.Split fs lawful =
    any_then (NamesOnly is_firm_text) (node_in fs) _ (λ node.
    then (All (λ (q : Part). IsTrue (is_firm_text q.firm))) (NamesOnly is_firm_text) (counted_parts by fs) _
    (counted_passes by fs lawful) (λ parts h. h))
command_passes by asked.Claim fs lawful = search any_then
command_passes by asked.Refuse fs lawful = any_map (NamesOnly is_firm_text) Refuse (node_in fs) (λ node. tt)
command_passes by asked.Cancel fs lawful = any_map (NamesOnly is_firm_text) Cancel (node_in fs) (λ node. tt)
command_passes by asked.Agree fs lawful = agreement_passes fs
command_passes by asked.Raise fs lawful = raise_passes fs
command_passes by asked.Initiate fs lawful = any_map (NamesOnly is_firm_text) Initiate (entry_in fs) (λ entry. tt)
command_passes by asked.Decline fs lawful = any_map (NamesOnly is_firm_text) Decline (entry_in fs) (λ entry. tt)
command_passes by asked.Reverse fs lawful = any_map (NamesOnly is_firm_text) Reverse (entry_in fs) (λ entry. tt)

command_then : {B : Type 0} (q : B → Type 0) (by : List ℕ) (what : Asked) (fs : List (ℕ × List ℕ))
    (f : Command → Result B Reject) → IsTrue (is_firm_text by)
    → ((x : Command) → NamesOnly is_firm_text x → Passes q (f x)) → Passes q (command_of by what fs >>= f)
command_then q by what fs f lawful h =
    then (NamesOnly is_firm_text) q (command_of by what fs) f (command_passes by what fs lawful) h

instruction_passes : (by : List ℕ) (fs : List (ℕ × List ℕ)) → IsTrue (is_firm_text by)
    → Passes IsLawfulMeaning (instruction_of by fs)
unfolding instruction_of
instruction_passes by fs lawful = search (id_then, command_then, any_then, call_passes) depth 20 fits 4000

-- a choice is one of the two
chosen : (b : Bool) (x y : Result Inbound Reject) → Passes IsLawfulMeaning x → Passes IsLawfulMeaning y
    → Passes IsLawfulMeaning (cond b x y)
chosen true x y h k = h
chosen false x y h k = k

session_passes : (t : List ℕ) (fs : List (ℕ × List ℕ)) → Passes IsLawfulMeaning (session_message_of t fs)
unfolding session_message_of logon_of test_request_of resend_request_of sequence_reset_of
session_passes t fs = search (chosen, any_then) depth 40 fits 16000

type_passes : (by t : List ℕ) (fs : List (ℕ × List ℕ)) → IsTrue (is_firm_text by)
    → Passes IsLawfulMeaning (by_type by t fs)
unfolding by_type
type_passes by t fs lawful = search (chosen, trade_passes, instruction_passes, session_passes) depth 8

heading_then : {B : Type 0} (q : B → Type 0) (house : List ℕ) (fs : List (ℕ × List ℕ)) (f : Heading → Result B Reject)
    → ((x : Heading) → IsTrue (is_firm_text x.firm) → Passes q (f x)) → Passes q (heading_of house fs >>= f)
heading_then q house fs f h =
    then (λ (x : Heading). IsTrue (is_firm_text x.firm)) q (heading_of house fs) f (heading_passes house fs) h

pub meaning_passes : (house : List ℕ) (fs : List (ℕ × List ℕ)) → Passes IsLawfulMeaning (meaning_of house fs)
unfolding meaning_of
meaning_passes house fs = search (heading_then, any_then, type_passes) depth 20 fits 4000
