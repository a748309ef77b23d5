-- A new book whose opening lacks agreements of the old one's.
use Rattle.std.specs.Prelude.{◌≡◌, ℕ, ◌+◌, ◌-◌, List, ◌∷◌, ◌++◌, length, map, drop, slice_get}
use Rattle.std.specs.List.{filter_map}
use Rattle.gu_base.specs.House.{House}
use Rattle.gu_base.specs.History.{live}
use Rattle.gu_base.specs.Answers.{answer_to}
use Rattle.gu_base.specs.Runs.{call_of, opening_history}
use Rattle.gu_base.specs.declared.entry.Answer.TheVariants.{Accepted}
use Rattle.gu_base.specs.declared.entry.Entry.{Entry}
use Rattle.gu_base.specs.declared.house.Pair.{Pair}
use Rattle.gu_base.specs.declared.house.Agreement.{Agreement}

-- the agreements of a table's opening that are live in a history
abbrev pub live_opening : House → List Entry → List (Pair × Agreement)
live_opening t h =
    filter_map (λ n. slice_get t.opening (n - 1)) (map (λ r. r.number) (live h))

-- the opening of a table, and behind it those of the entries that stand behind as many
abbrev pub begun_under : House → List Entry → List Entry
begun_under u entries = opening_history u ++ drop (length u.opening) entries

-- the entry of this number isn't accepted as it was, behind those before it
abbrev pub IsUnlike : House → List Entry → ℕ → Type 0
IsUnlike u entries n =
    (before after : List Entry) × (e : Entry) × (begun_under u entries ≡ before ++ e ∷ after)
    × (length before + 1 ≡ n) × (answer_to u before (call_of e) ≡ Accepted n e.status → ⊥)
