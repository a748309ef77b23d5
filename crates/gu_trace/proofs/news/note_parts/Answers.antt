use Rattle.std.proofs.Common.{◌≡◌, ◌∙◌, ◌==◌, ◌&&◌, ◌||◌, suc, ◌+◌, ◌∷◌, drop, sym, ap, drop-cons, arith}
use Rattle.std.specs.Prelude.{bytes_eq}
use Rattle.std.specs.List.{list_any}
use Rattle.gu_trace.specs.News.{is_told}
use Rattle.gu_trace.proofs.Newest.{one_more}
use Rattle.gu_trace.proofs.news.note_parts.Goals as goal
use Rattle.gu_trace.proofs.news.note_parts.Goals.{After-part-item}

pub loop-part-preserved : goal.loop-part-preserved
loop-part-preserved c =
    let at = (goal.at.loop-part-preserved c).After-part-item in
    let i = c.loop-part.part-index in
    let ps = c.args.parts.now in
    let others = drop (i + 1) ps in
    let next : suc i ≡ i + 1 = omega arith in
    let here : drop i ps ≡ c.part-item.result ∷ others =
    drop-cons ps i c.part-item.result at.loop-part-test.true
    ∙ (ap (λ p. p ∷ drop (suc i) ps) (sym c.part-item.is) ∙ ap (λ k. c.part-item.result ∷ drop k ps) next) in
    λ f n.
    ap (λ b. b || ((c.args.number == n) && list_any (λ p. bytes_eq p.firm f) others)) (c.in_ok-note.ensures f n)
    ∙ (one_more (is_told c.loop-part.news.items f n) (c.args.number == n) (bytes_eq c.part-item.result.firm f)
    (list_any (λ p. bytes_eq p.firm f) others)
    ∙ (sym (ap (λ qs. is_told c.loop-part.news.items f n
    || ((c.args.number == n) && list_any (λ p. bytes_eq p.firm f) qs)) here)
    ∙ c.loop-part.invariant f n))
