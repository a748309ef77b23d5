use Rattle.std.proofs.Common.{◌∙◌, sym, ap}
use Rattle.std.specs.Prelude.{bytes_eq}
use Rattle.std.specs.List.{list_any}
use Rattle.gu_trace.specs.Concerned.{is_among}
use Rattle.gu_trace.specs.Index.{filed, numbers_of}
use Rattle.gu_trace.proofs.RowPut.{filed_or}
use Rattle.gu_trace.proofs.firm_numbers.FirmNumbers.file.Goals as goal

pub returns-in_ok-ready-in-Two-2-clause-filed : goal.returns-in_ok-ready-in-Two-2-clause-filed
returns-in_ok-ready-in-Two-2-clause-filed c f =
    let n = c.args.number in
    let a = bytes_eq c.in-Two.first f in
    let b = bytes_eq c.in-Two.second f in
    c.put-in-Two.ensures.put f
    ∙ (ap (filed n b) (c.put.ensures.put f ∙ ap (filed n a) (c.in_ok-ready-in-Two-2.ensures.same f
    ∙ c.in_ok-ready-in-Two.ensures.same f))
    ∙ (filed_or n a b (numbers_of c.args.self.now f)
    ∙ ap (λ x. filed n (is_among f x) (numbers_of c.args.self.now f)) (sym c.in-Two.is)))

pub returns-in_ok-ready_parts-in-Parts-clause-filed : goal.returns-in_ok-ready_parts-in-Parts-clause-filed
returns-in_ok-ready_parts-in-Parts-clause-filed c f =
    let n = c.args.number in
    let a = bytes_eq c.in-Parts.by f in
    let b = list_any (λ p. bytes_eq p.firm f) c.in-Parts.parts.now in
    c.put_parts.ensures f
    ∙ (ap (filed n b) (c.put-in-Parts.ensures.put f
    ∙ ap (filed n a) (c.in_ok-ready_parts-in-Parts.ensures.same f ∙ c.in_ok-ready-in-Parts.ensures.same f))
    ∙ (filed_or n a b (numbers_of c.args.self.now f)
    ∙ ap (λ x. filed n (is_among f x) (numbers_of c.args.self.now f)) (sym c.in-Parts.is)))
