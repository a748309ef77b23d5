use Rattle.std.proofs.Common.{◌≡◌, ◌∙◌, ℕ, suc, ◌+◌, ◌∷◌, drop, sym, ap, subst, drop-cons, arith}
use Rattle.std.specs.Prelude.{bytes_eq}
use Rattle.std.specs.List.{All, list_any}
use Rattle.std.proofs.lemmas.List.Elements.{All-head, All-tail, All-weaker}
use Rattle.gu_base.specs.declared.command.Part.{Part}
use Rattle.gu_trace.specs.Index.{numbers_of, filed, CanPut}
use Rattle.gu_trace.specs.declared.firm_numbers.FirmNumbers.{FirmNumbers}
use Rattle.gu_trace.proofs.RowPut.{filed_or}
use Rattle.gu_trace.proofs.firm_numbers.FirmNumbers.put_parts.Goals as goal
use Rattle.gu_trace.proofs.firm_numbers.FirmNumbers.put_parts.Goals.{After-part-item}

abbrev IsReady : FirmNumbers → ℕ → Part → Type 0
IsReady r n p = CanPut r n p.firm

-- the part that is next, and those behind it
here : (c : After-part-item) → drop c.loop-part.part-index c.args.parts.now
    ≡ c.part-item.result ∷ drop (c.loop-part.part-index + 1) c.args.parts.now
here c =
    let i = c.loop-part.part-index in
    let ps = c.args.parts.now in
    let next : suc i ≡ i + 1 = omega arith in
    drop-cons ps i c.part-item.result c.loop-part-test.true
    ∙ (ap (λ p. p ∷ drop (suc i) ps) (sym c.part-item.is) ∙ ap (λ k. c.part-item.result ∷ drop k ps) next)

ready : (c : After-part-item) → All (IsReady c.loop-part.self c.args.number) (c.part-item.result ∷ drop
    (c.loop-part.part-index + 1) c.args.parts.now)
ready c = subst (All (IsReady c.loop-part.self c.args.number)) (here c) c.loop-part.invariant.ready

pub put-requires : goal.put-requires
put-requires c =
    let at = (goal.at.put-requires c).After-part-item in
    All-head (IsReady c.loop-part.self c.args.number) c.part-item.result
    (drop (c.loop-part.part-index + 1) c.args.parts.now) (ready at)

pub loop-part-preserved : goal.loop-part-preserved
loop-part-preserved c =
    let at = (goal.at.loop-part-preserved c).After-part-item in
    let n = c.args.number in
    let others = drop (c.loop-part.part-index + 1) c.args.parts.now in
    record {
      ready = All-weaker (IsReady c.loop-part.self n) (IsReady c.put.new.self n)
          (λ q. c.put.ensures.stays_ready q.firm) others
          (All-tail (IsReady c.loop-part.self n) c.part-item.result others (ready at));
      rest = λ f.
          ap (filed n (list_any (λ p. bytes_eq p.firm f) others)) (c.put.ensures.put f)
          ∙ (filed_or n (bytes_eq c.part-item.result.firm f) (list_any (λ p. bytes_eq p.firm f) others)
          (numbers_of c.loop-part.self f)
          ∙ (sym (ap (λ ps. filed n (list_any (λ p. bytes_eq p.firm f) ps) (numbers_of c.loop-part.self f)) (here at))
          ∙ c.loop-part.invariant.rest f));
    }
