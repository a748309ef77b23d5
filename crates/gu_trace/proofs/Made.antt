-- The lines of the agreements that live changes made, by their numbers.
use Rattle.std.proofs.Common.{◌≡◌, ℕ, List, [], ◌∷◌, ◌++◌, refl, sym, ◌∙◌, ap, Option, append_assoc}
use Rattle.std.specs.Prelude.{Some, None, not, ◌&&◌, map, flat_map}
use Rattle.gu_base.specs.House.{House}
use Rattle.gu_base.specs.History.{live, is_change, is_reversed}
use Rattle.gu_base.specs.Answers.{entry_of}
use Rattle.gu_base.specs.declared.entry.Entry.{Entry}
use Rattle.gu_base.specs.declared.entry.Record.{Record}
use Rattle.gu_base.proofs.Numbered.{listed}
use Rattle.gu_trace.specs.Totals.{made_line}

abbrev pub made_line_of : House → List Record → Option Record → List ℕ
made_line_of t l None = []
made_line_of t l (Some r) = made_line t l r.command

-- the line of the entry of a number
abbrev pub made_at : House → List Entry → ℕ → List ℕ
made_at t h n = made_line_of t (live h) (entry_of h n)

made_along : (t : House) (h : List Entry) (before after : List Record) → live h ≡ before ++ after
    → flat_map (made_at t h) (map (λ r. r.number) after) ≡ flat_map (λ r. made_line t (live h) r.command) after
made_along t h before [] is = refl
made_along t h before (r ∷ after) is =
    let found = (listed (λ r. is_change r.command && not (is_reversed h r.number)) 1 h r before after is).found in
    ap (λ o. made_line_of t (live h) o ++ flat_map (made_at t h) (map (λ r. r.number) after)) found
    ∙ ap (λ ts. made_line t (live h) r.command ++ ts)
    (made_along t h (before ++ r ∷ []) after (is ∙ sym (append_assoc before (r ∷ []) after)))

-- the lines by the numbers of the live changes are those of the live changes
pub made_all : (t : House) (h : List Entry)
    → flat_map (made_at t h) (map (λ r. r.number) (live h)) ≡ flat_map (λ r. made_line t (live h) r.command) (live h)
made_all t h = made_along t h [] (live h) refl
