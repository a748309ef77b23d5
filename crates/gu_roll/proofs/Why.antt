-- What comes of an extension, and why there is none.
use Rattle.std.proofs.Common.{ℕ, List}
use Rattle.std.specs.Prelude.{Result, Ok, Err, IfOk, IfErr}
use Rattle.gu_base.specs.House.{House}
use Rattle.gu_base.specs.declared.entry.Entry.{Entry}
use Rattle.gu_journal.specs.Counting.{Recovers, IsPart}
use Rattle.gu_journal.specs.Damages.{HasNoLater}
use Rattle.gu_lives.specs.Extends.{Extends}
use Rattle.gu_roll.specs.Extended.{IsExtended, IsLack, IsUnwritten, IsWhy}
use Rattle.gu_roll.specs.declared.error.ExtendError.{ExtendError}
use Rattle.gu_roll.specs.declared.error.ExtendError.TheVariants.{Lacks, Refused, Unbegun, Unwritten}

pub why_lacks : (t u : House) (pin file : List ℕ) (e : ExtendError) → IsLack t u e → IsWhy t u pin file e
why_lacks t u pin file (Lacks lack) is = is
why_lacks t u pin file (Refused e) is = absurd is
why_lacks t u pin file (Unbegun e) is = absurd is
why_lacks t u pin file (Unwritten e) is = tt

pub why_unwritten : (t u : House) (pin file : List ℕ) (e : ExtendError) → IsUnwritten e → IsWhy t u pin file e
why_unwritten t u pin file (Lacks lack) is = absurd is
why_unwritten t u pin file (Refused e) is = absurd is
why_unwritten t u pin file (Unbegun e) is = tt
why_unwritten t u pin file (Unwritten e) is = tt

pub why_not : {A : Type 0} (t u : House) (pin file : List ℕ) (r : Result A ExtendError) → IfErr r IsUnwritten
    → IfErr r (IsWhy t u pin file)
why_not t u pin file (Ok x) is = tt
why_not t u pin file (Err e) is = why_unwritten t u pin file e is

-- what is read of a file under the first table, and of what was made under the second
pub is_extended : {A : Type 0} (items : A → List ℕ) (t u : House) (pin new_pin file : List ℕ) (h : List Entry)
    (r : Result A ExtendError) → Extends t u → Recovers t pin file h → HasNoLater t pin file h
    → IfOk r (λ new. Recovers u new_pin (items new) h) → IfOk r (λ new. IsPart u new_pin (items new))
    → IfOk r (λ new. IsExtended t u pin new_pin file (items new))
is_extended items t u pin new_pin file h (Ok new) extends recovers later again part =
    record { h = h; extends = extends; recovers = recovers; later = later; again = again; part = part }
is_extended items t u pin new_pin file h (Err e) extends recovers later again part = tt
