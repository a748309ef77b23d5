use Rattle.std.proofs.Common.{◌≡◌, ◌∙◌, ◌<◌, true, false, sym, ap, vec_len, vec_capacity, rules, true≢false}
use Rattle.std.specs.Prelude.{bytes_eq}
use Rattle.std.specs.Map.{lookup}
use Rattle.gu_trace.specs.Index.{ends_with}
use Rattle.gu_trace.proofs.Indexed.{ends_pushed}
use Rattle.gu_trace.proofs.RowPut.{still}
use Rattle.gu_trace.proofs.firm_numbers.FirmNumbers.put.Goals as goal

pub returns-then-not-ends_with-clause-stays_ready : goal.returns-then-not-ends_with-clause-stays_ready
returns-then-not-ends_with-clause-stays_ready c =
    let w = c.push_reserved.new.self in
    let n = c.args.number in
    let put = ((c.get_mut.follows.holds w).3 (search rules)).0 in
    still (λ v. v.items) (λ v. ends_with n v.items ≡ false → vec_len v < vec_capacity v)
    (λ q. lookup (bytes_eq q) c.args.self.now.firms.entries)
    (λ q. lookup (bytes_eq q) (c.get_mut.follows.lender w).entries)
    c.args.firm.now w (λ was isn. absurd
    (true≢false (sym (ap (ends_with n) c.push_reserved.ensures.items ∙ ends_pushed n c.in-Some.numbers.now.items)
    ∙ isn)))
    put

pub returns-else-not-ends_with-clause-stays_ready : goal.returns-else-not-ends_with-clause-stays_ready
returns-else-not-ends_with-clause-stays_ready c =
    let w = c.in-Some.numbers.now in
    let n = c.args.number in
    let put = ((c.get_mut.follows.holds w).3 (search rules)).0 in
    let last : ends_with n w.items ≡ true = ap (ends_with n) (sym c.as_slice.ensures.value)
    ∙ (sym c.ends_with.ensures ∙ c.if-not-ends_with.false) in
    still (λ v. v.items) (λ v. ends_with n v.items ≡ false → vec_len v < vec_capacity v)
    (λ q. lookup (bytes_eq q) c.args.self.now.firms.entries)
    (λ q. lookup (bytes_eq q) (c.get_mut.follows.lender w).entries)
    c.args.firm.now w (λ was isn. absurd (true≢false (sym last ∙ isn)))
    put
