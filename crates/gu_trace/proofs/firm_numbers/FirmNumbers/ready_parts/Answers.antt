use Rattle.std.proofs.Common.{◌∙◌, ℕ, take, subst, arith}
use Rattle.std.specs.List.{All}
use Rattle.std.proofs.lemmas.List.Elements.{All-more, All-weaker}
use Rattle.std.proofs.lemmas.List.{take_all}
use Rattle.gu_base.specs.declared.command.Part.{Part}
use Rattle.gu_trace.specs.Index.{CanPut}
use Rattle.gu_trace.specs.declared.firm_numbers.FirmNumbers.{FirmNumbers}
use Rattle.gu_trace.proofs.firm_numbers.FirmNumbers.ready_parts.Goals as goal

abbrev IsReady : FirmNumbers → Part → Type 0
IsReady r p = (n : ℕ) → CanPut r n p.firm

pub loop-part-preserved : goal.loop-part-preserved
loop-part-preserved c =
    let i = c.loop-part.part-index in
    let ps = c.args.parts.now in
    let p = c.part-item.result in
    let now = c.in_ok-ready.ensures in
    record {
      ready = All-more (IsReady c.ready.new.self) ps i p c.loop-part-test.true
          (All-weaker (IsReady c.loop-part.self) (IsReady c.ready.new.self)
          (λ q was n. now.stays_ready n q.firm (was n)) (take i ps) c.loop-part.invariant.ready)
          (subst (IsReady c.ready.new.self) c.part-item.is now.ready);
      same = λ f. now.same f ∙ c.loop-part.invariant.same f;
      stays_ready = λ n f was. now.stays_ready n f (c.loop-part.invariant.stays_ready n f was);
    }

pub returns-clause-ready : goal.returns-clause-ready
returns-clause-ready c = subst (All (IsReady c.loop-part.self))
    (take_all c.loop-part.part-index c.args.parts.now
    (omega (arith, c.loop-part-test.false))) c.loop-part.invariant.ready
