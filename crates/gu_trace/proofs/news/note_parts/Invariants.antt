use Rattle.std.proofs.Common.{◌≡◌, ◌==◌, ◌&&◌, ◌||◌, ℕ, List, bytes_eq, drop}
use Rattle.std.specs.List.{list_any}
use Rattle.gu_trace.specs.News.{is_told}
use Rattle.gu_trace.proofs.news.note_parts.Given as goal

abbrev pub invariant-loop-part : goal.invariant-loop-part
invariant-loop-part l = (f : List ℕ) (n : ℕ)
    → (is_told l.news.items f n || ((l.number == n) && list_any (λ p. bytes_eq p.firm f) (drop l.part-index l.parts)))
    ≡ (is_told l.initial.news.items f n || ((l.number == n) && list_any (λ p. bytes_eq p.firm f) l.parts))
