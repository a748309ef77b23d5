use Rattle.std.proofs.Common.{◌≡◌, ◌∙◌, ℕ, List, length, sym, ap, subst}
use Rattle.std.specs.Prelude.{Option}
use Rattle.std.specs.List.{filter_map}
use Rattle.gu_lives.specs.Renumbered.{rolled}
use Rattle.gu_roll.specs.Numbering.{entry_at_number, new_in, IsTableOf}
use Rattle.gu_roll.proofs.Renamed.{all_renamed, if_ok}
use Rattle.gu_roll.proofs.renumbered.entries_of.Goals as goal

pub returns : goal.returns
returns c t l whole of same =
    let h = c.args.history.now in
    let numbers = c.args.numbers.now in
    let table = c.deref.result.now in
    let told : IsTableOf numbers (length h) table =
    subst (λ (k : List (Option ℕ)). IsTableOf numbers (length h) k) (sym c.deref.ensures.value)
    c.in_ok-table.ensures in
    let all = all_renamed t l whole h of table (subst (λ (k : List ℕ). IsTableOf k (length h) table) same told) in
    if_ok (λ v. v.items ≡ filter_map (entry_at_number (new_in table) h) numbers) (λ v. v.items ≡ rolled l)
    (λ v is. is ∙ (ap (filter_map (entry_at_number (new_in table) h)) same ∙ all)) c.renumbered.result
    c.renumbered.ensures
