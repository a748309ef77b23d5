-- Which change decides a node.
use Rattle.std.proofs.Common.{◌≡◌, Bool, true, false, List, [], ◌∷◌, ◌++◌, refl, sym, ◌∙◌, cond, Option}
use Rattle.std.specs.Prelude.{Some, None}
use Rattle.std.specs.Option.{option_or}
use Rattle.std.proofs.lemmas.List.Folds.{find-append}
use Rattle.std.proofs.lemmas.Option.{same_Some}
use Rattle.gu_base.specs.Numbers.{EntryPart}
use Rattle.gu_base.specs.Nodes.{decides, decision_of}
use Rattle.gu_base.specs.declared.entry.Record.{Record}

-- a decision of the longer list is one of the shorter, or the new one
pub data Which (l : List Record) (r : Record) (n : EntryPart) (d : Record) : Type 0 where
  before : decision_of l n ≡ Some d → Which l r n d
  here : decides n r.command ≡ true → r ≡ d → Which l r n d

-- of one more change
which_new : (l : List Record) (r : Record) (n : EntryPart) (d : Record) (b : Bool) → decides n r.command ≡ b
    → cond b (Some r) None ≡ Some d → Which l r n d
which_new l r n d true is h = here is (same_Some r d h)
which_new l r n d false is h = absurd (cc)

which_of : (l : List Record) (r : Record) (n : EntryPart) (d : Record) (o : Option Record) → decision_of l n ≡ o
    → option_or o (cond (decides n r.command) (Some r) None) ≡ Some d → Which l r n d
which_of l r n d None e h = which_new l r n d (decides n r.command) refl h
which_of l r n d (Some s) e h = before (e ∙ h)

pub which : (l : List Record) (r : Record) (n : EntryPart) (d : Record) → decision_of (l ++ r ∷ []) n ≡ Some d
    → Which l r n d
which l r n d h = which_of l r n d (decision_of l n) refl (sym (find-append (λ r. decides n r.command) l (r ∷ [])) ∙ h)
