-- Whom new entries concern.
use Rattle.std.specs.Prelude.{ℕ, ◌==◌, Bool, ◌&&◌, List, drop, bytes_eq}
use Rattle.std.specs.List.{list_any}
use Rattle.gu_base.specs.History.{records}
use Rattle.gu_base.specs.declared.entry.Entry.{Entry}
use Rattle.gu_trace.specs.Concerns.{concerns}
use Rattle.gu_trace.specs.declared.news.News.{News}

-- whether the firm is told that the entry of this number concerns it
abbrev pub is_told : List News → List ℕ → ℕ → Bool
is_told news f n = list_any (λ x. (x.number == n) && bytes_eq x.firm f) news

-- whether the entry of this number stands above the one of that number, and concerns the firm
abbrev pub is_news : List ℕ → List Entry → ℕ → List ℕ → ℕ → Bool
is_news house h above f n =
    list_any (λ r. (r.number == n) && concerns house h f r.firm r.command) (drop above (records h))
