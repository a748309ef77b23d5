-- A command that can be said, and has lawful names, is lawful.
use Rattle.gu_journal.proofs.Vocabulary.{Agree, AllByRecursion, and_parts, Bool, bytes_eq, bytes_eq-Decides, Command}
use Rattle.gu_journal.proofs.Vocabulary.{false, is_sayable_part, IsLawfulCommand, IsLawfulPart, IsLawfulTo, IsNamedPart}
use Rattle.gu_journal.proofs.Vocabulary.{leb-true, length, List, list_all, ltb-true, nat_le, None, not, Option, Part}
use Rattle.gu_journal.proofs.Vocabulary.{Raise, Some, Split, Trade, true, [], ℕ, ◌<◌, ◌^◌, ◌∷◌, ◌≡◌, ◌≢◌}
use Rattle.gu_journal.specs.Entries.{HasFewParts, HasLawfulNames, is_sayable, is_sayable_to, is_short, IsNamedTo}

-- tests
short_is : (n : ℕ) → is_short n ≡ true → n < 10 ^ 18
short_is n h = ltb-true n (10 ^ 18) h

differ : (a b : List ℕ) → not (bytes_eq a b) ≡ true → a ≢ b
differ a b h = λ e. go (bytes_eq a b) ((bytes_eq-Decides a b).1 e) h
  where
    go : (x : Bool) → x ≡ true → not x ≡ true → ⊥
    go true e h = cc h
    go false e h = cc e

-- one part, and all
to_lawful : (by firm : List ℕ) (lots : ℕ) (account : Option (List ℕ)) → is_sayable_to by firm lots account ≡ true
    → IsNamedTo firm account → IsLawfulTo by firm lots account
to_lawful by firm lots (Some account) said named =
    let both = and_parts (bytes_eq firm by) (is_short lots) said in
    ((bytes_eq-Decides firm by).0 both.0, named.1, short_is lots both.1)
to_lawful by firm lots None said named =
    let both = and_parts (not (bytes_eq firm by)) (is_short lots) said in
    (differ firm by both.0, named, short_is lots both.1)

parts_lawful : (by : List ℕ) (ps : List Part) → list_all (is_sayable_part by) ps ≡ true → AllByRecursion IsNamedPart ps
    → AllByRecursion (IsLawfulPart by) ps
parts_lawful by [] said named = tt
parts_lawful by (p ∷ ps) said named =
    let both = and_parts (is_sayable_part by p) (list_all (is_sayable_part by) ps) said in
    (to_lawful by p.firm p.lots p.account both.0 named.0, parts_lawful by ps both.1 named.1)

-- each command
pub lawful_from : (by : List ℕ) (c : Command) → is_sayable by c ≡ true → HasLawfulNames c → IsLawfulCommand by c
lawful_from by (Trade firm account instrument side lots) said named = (named.0, named.1, named.2, short_is lots said)
lawful_from by (Split node parts) said named =
    let both = and_parts (nat_le (length parts) 100) (list_all (is_sayable_part by) parts) said in
    (named.0, leb-true (length parts) 100 both.0, parts_lawful by parts both.1 named.1)
lawful_from by (Agree giver taker rate limit) said named =
    let both = and_parts (is_short rate) (is_short limit) said in
    (named.0, named.1, short_is rate both.0, short_is limit both.1)
lawful_from by (Raise giver lots) said named = (named, short_is lots said)
lawful_from by _ said named = named

-- a split that can be said has few parts
pub few_parts : (by : List ℕ) (c : Command) → is_sayable by c ≡ true → HasFewParts c
few_parts by (Split node parts) said = leb-true (length parts) 100
    (and_parts (nat_le (length parts) 100) (list_all (is_sayable_part by) parts) said).0
few_parts by _ said = tt
