-- What an answer is read from.
use Rattle.std.specs.Prelude.{◌≡◌, ◌≤◌, ℕ, List, Option, Result, length}
use Rattle.gu_base.specs.Consents.{consents_left}
use Rattle.gu_base.specs.History.{live}
use Rattle.gu_base.specs.House.{House}
use Rattle.gu_base.specs.Limits.{most_entries}
use Rattle.gu_base.specs.declared.entry.Entry.{Entry}
use Rattle.gu_base.specs.declared.refusal.Refusal.{Refusal}
use Rattle.gu_book.specs.Ids.{NoIdTwice}
use Rattle.gu_book.specs.Lookups.{IsNewestFirst}
use Rattle.gu_book.specs.declared.found.Named.{Named}
use Rattle.gu_book.specs.declared.undo.Undo.{Undo}
use Rattle.gu_consent.specs.Given.{given}
use Rattle.gu_consent.specs.declared.Consents.{Consents}
use Rattle.gu_depend.specs.Terms.{AreTermsOf}
use Rattle.gu_fees.specs.Terms.{TermsView}

-- the house table, the history, and what was looked up for a command: the node or the change that
-- it names, and what stands on this
pub record BasisView : Type 0 where
  pub house : House
  pub history : List Entry
  pub named : Option Named
  pub undo : Option (Result Undo Refusal)
  pub standing : Option ℕ

-- what is kept beside the history is that of the history
pub record IsBasis (t : House) (h : List Entry) (terms : TermsView) (consents : Consents)
    : Type 0 where
  pub few : length h ≤ most_entries
  pub once : NoIdTwice h
  pub ids : IsNewestFirst h
  pub dealt : AreTermsOf t (live h) terms
  pub consented : (n : ℕ) → given consents n ≡ consents_left h n
