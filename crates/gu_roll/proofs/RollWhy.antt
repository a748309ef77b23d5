-- What comes of a roll, and why there is none.
use Rattle.std.proofs.Common.{◌≡◌, ℕ, List, map, sym, ◌∙◌, subst}
use Rattle.std.specs.Prelude.{Result, Ok, Err, IfOk, IfErr}
use Rattle.gu_base.specs.House.{House}
use Rattle.gu_base.specs.declared.entry.Entry.{Entry}
use Rattle.gu_journal.specs.Counting.{Recovers, IsPart}
use Rattle.gu_journal.specs.Damages.{HasNoLater}
use Rattle.gu_lives.specs.Extends.{HasMore}
use Rattle.gu_lives.specs.Renumbered.{rolled}
use Rattle.gu_roll.specs.Carried.{carried}
use Rattle.gu_roll.specs.Extended.{IsUnwritten}
use Rattle.gu_roll.specs.Losing.{IsLost}
use Rattle.gu_roll.specs.Reopened.{begun_under, live_opening}
use Rattle.gu_roll.specs.Rolled.{IsRolledInto, IsRollWhy, IsOtherWhy, IsOtherLack, IsUncarried, IsUnmade, IsUnrolled}
use Rattle.gu_roll.specs.declared.error.ExtendError.{ExtendError}
use Rattle.gu_roll.specs.declared.error.ExtendError.TheVariants.{Lacks, Refused, Unbegun, Unwritten}
use Rattle.gu_roll.specs.declared.error.RollError.{RollError}
use Rattle.gu_roll.specs.declared.error.RollError.TheVariants.{Extend, OtherOpening, Unlike}
use Rattle.gu_roll.specs.declared.keep.Keep.{Keep}
use Rattle.gu_roll.specs.declared.lost.Lost.{Lost}
use Rattle.gu_roll.proofs.Renamed.{number_of}

-- what is read of a file under the first table, and of what was made under the second
pub is_rolled : {A : Type 0} (bytes numbers : A → List ℕ) (lost : A → Lost) (t u : House) (pin new_pin file : List ℕ)
    (keep : Keep) (h entries : List Entry) (had : List ℕ) (gone : Lost) (r : Result A RollError) → HasMore t u
    → u.opening ≡ live_opening t h → Recovers t pin file h → HasNoLater t pin file h
    → entries ≡ rolled (carried keep h) → had ≡ map number_of (carried keep h)
    → IfOk r (λ a. Recovers u new_pin (bytes a) (begun_under u entries)) → IfOk r (λ a. IsPart u new_pin (bytes a))
    → IfOk r (λ a. numbers a ≡ had) → IsLost keep h gone → IfOk r (λ a. lost a ≡ gone)
    → IfOk r (λ a. IsRolledInto t u pin new_pin file keep (lost a) (numbers a) (bytes a))
is_rolled bytes numbers lost t u pin new_pin file keep h entries had gone (Ok a) more opens recovers later are had_are
    again part given lacks same =
    record {
      h = h;
      more = more;
      opens = opens;
      recovers = recovers;
      later = later;
      again = subst (λ (k : List Entry). Recovers u new_pin (bytes a) (begun_under u k)) are again;
      part = part;
      had = given ∙ had_are;
      lacks = subst (IsLost keep h) (sym same) lacks;
    }
is_rolled bytes numbers lost t u pin new_pin file keep h entries had gone (Err e) more opens recovers later are had_are
    again part given lacks same = tt

why_unwritten : (t u : House) (pin file : List ℕ) (e : ExtendError) → IsUnwritten e → IsOtherWhy t u pin file e
why_unwritten t u pin file (Lacks lack) is = absurd is
why_unwritten t u pin file (Refused e) is = absurd is
why_unwritten t u pin file (Unbegun e) is = tt
why_unwritten t u pin file (Unwritten e) is = tt

why_unrolled : (t u : House) (pin file : List ℕ) (keep : Keep) (e : RollError) → IsUnrolled e
    → IsRollWhy t u pin file keep e
why_unrolled t u pin file keep (OtherOpening n) is = absurd is
why_unrolled t u pin file keep (Unlike n) is = absurd is
why_unrolled t u pin file keep (Extend e) is = why_unwritten t u pin file e is

pub why_no_roll : {A : Type 0} (t u : House) (pin file : List ℕ) (keep : Keep) (r : Result A RollError)
    → IfErr r IsUnrolled → IfErr r (IsRollWhy t u pin file keep)
why_no_roll t u pin file keep (Ok a) is = tt
why_no_roll t u pin file keep (Err e) is = why_unrolled t u pin file keep e is

-- the new table lacks something
why_lacking : (t u : House) (pin file : List ℕ) (e : ExtendError) → IsOtherLack t u (Extend e)
    → IsOtherWhy t u pin file e
why_lacking t u pin file (Lacks lack) is = is
why_lacking t u pin file (Refused e) is = absurd is
why_lacking t u pin file (Unbegun e) is = absurd is
why_lacking t u pin file (Unwritten e) is = tt

pub why_lacks : (t u : House) (pin file : List ℕ) (keep : Keep) (e : RollError) → IsOtherLack t u e
    → IsRollWhy t u pin file keep e
why_lacks t u pin file keep (OtherOpening n) is = absurd is
why_lacks t u pin file keep (Unlike n) is = absurd is
why_lacks t u pin file keep (Extend e) is = why_lacking t u pin file e is

-- nothing is carried
pub why_uncarried : (t u : House) (pin file : List ℕ) (keep : Keep) (h : List Entry) (e : RollError)
    → Recovers t pin file h → IsUncarried t u h e → IsRollWhy t u pin file keep e
why_uncarried t u pin file keep h (OtherOpening n) recovers is = (h, recovers, is)
why_uncarried t u pin file keep h (Unlike n) recovers is = absurd is
why_uncarried t u pin file keep h (Extend e) recovers is = why_unwritten t u pin file e is

-- what is carried makes no book
unmade : (t u : House) (pin file : List ℕ) (keep : Keep) (h entries : List Entry) (e : RollError)
    → Recovers t pin file h → entries ≡ rolled (carried keep h) → IsUnmade u entries e → IsRollWhy t u pin file keep e
unmade t u pin file keep h entries (OtherOpening n) recovers are is = absurd is
unmade t u pin file keep h entries (Unlike n) recovers are is =
    (h, recovers, subst (λ (k : List Entry). IsUnmade u k (Unlike n)) are is)
unmade t u pin file keep h entries (Extend e) recovers are is = why_unwritten t u pin file e is

pub why_unmade : {A : Type 0} (t u : House) (pin file : List ℕ) (keep : Keep) (h entries : List Entry)
    (r : Result A RollError) → Recovers t pin file h → entries ≡ rolled (carried keep h) → IfErr r (IsUnmade u entries)
    → IfErr r (IsRollWhy t u pin file keep)
why_unmade t u pin file keep h entries (Ok a) recovers are is = tt
why_unmade t u pin file keep h entries (Err e) recovers are is = unmade t u pin file keep h entries e recovers are is

-- what isn't written of a book isn't made
not_made : (u : House) (entries : List Entry) (e : RollError) → IsUnrolled e → IsUnmade u entries e
not_made u entries (OtherOpening n) is = absurd is
not_made u entries (Unlike n) is = absurd is
not_made u entries (Extend e) is = is

pub why_not_made : {A : Type 0} (u : House) (entries : List Entry) (r : Result A RollError) → IfErr r IsUnrolled
    → IfErr r (IsUnmade u entries)
why_not_made u entries (Ok a) is = tt
why_not_made u entries (Err e) is = not_made u entries e is
