use Rattle.std.proofs.Common.{◌≡◌, ◌∙◌, ◌<◌, ◌≤◌, ℕ, List, false, Vec, Global, sym, ap, subst, cond, vec_len}
use Rattle.std.proofs.Common.{vec_capacity, rules, arith}
use Rattle.std.specs.Prelude.{bytes_eq, IsSomeAnd, Some}
use Rattle.std.specs.Map.{lookup}
use Rattle.gu_base.specs.declared.numbers.Number.{Number}
use Rattle.gu_trace.specs.Index.{ends_with}
use Rattle.gu_trace.proofs.RowPut.{numbers, IsPut, same, still}
use Rattle.gu_trace.proofs.firm_numbers.FirmNumbers.ready.Goals as goal
use Rattle.gu_trace.proofs.firm_numbers.FirmNumbers.ready.Goals.{Joined-branch-4}

abbrev items : Vec Number Global → List ℕ
items v = v.items

abbrev HasRoom : ℕ → Vec Number Global → Type 0
HasRoom n v = ends_with n v.items ≡ false → vec_len v < vec_capacity v

-- a row that was made no smaller has room where it had
keeps_room : (n : ℕ) (was w : Vec Number Global) → w.items ≡ was.items → vec_len w ≡ vec_len was
    → vec_capacity was ≤ vec_capacity w → HasRoom n was → HasRoom n w
keeps_room n was w items len capacity room new =
    let old = room (ap (ends_with n) (sym items) ∙ new) in
    omega (arith, len, capacity, old)

pub returns-in_err-reserve-clause-same : goal.returns-in_err-reserve-clause-same
returns-in_err-reserve-clause-same c =
    let w = c.reserve.new.self in
    same items (λ q. lookup (bytes_eq q) c.args.self.now.firms.entries)
    (λ q. lookup (bytes_eq q) (c.get_mut.follows.lender w).entries) c.args.firm.now w
    (c.reserve.ensures.items ∙ ap (numbers items) c.in-Some.ensures.value)
    ((c.get_mut.follows.holds w).3 (search rules)).0

pub returns-in_err-reserve-clause-stays_ready : goal.returns-in_err-reserve-clause-stays_ready
returns-in_err-reserve-clause-stays_ready c n =
    let w = c.reserve.new.self in
    still items (HasRoom n) (λ q. lookup (bytes_eq q) c.args.self.now.firms.entries)
    (λ q. lookup (bytes_eq q) (c.get_mut.follows.lender w).entries) c.args.firm.now w
    (λ was. keeps_room n c.in-Some.numbers.now w
    c.reserve.ensures.items c.reserve.ensures.len c.reserve.ensures.capacity
    (subst (λ o. IsSomeAnd o (HasRoom n)) (sym c.in-Some.ensures.value) was))
    ((c.get_mut.follows.holds w).3 (search rules)).0

pub returns-in-Some-clause-same : goal.returns-in-Some-clause-same
returns-in-Some-clause-same c =
    let w = c.reserve.new.self in
    same items (λ q. lookup (bytes_eq q) c.args.self.now.firms.entries)
    (λ q. lookup (bytes_eq q) (c.get_mut.follows.lender w).entries) c.args.firm.now w
    (c.reserve.ensures.items ∙ ap (numbers items) c.in-Some.ensures.value)
    ((c.get_mut.follows.holds w).3 (search rules)).0

pub returns-in-Some-clause-stays_ready : goal.returns-in-Some-clause-stays_ready
returns-in-Some-clause-stays_ready c n =
    let w = c.reserve.new.self in
    still items (HasRoom n) (λ q. lookup (bytes_eq q) c.args.self.now.firms.entries)
    (λ q. lookup (bytes_eq q) (c.get_mut.follows.lender w).entries) c.args.firm.now w
    (λ was. keeps_room n c.in-Some.numbers.now w
    c.reserve.ensures.items c.reserve.ensures.len c.reserve.ensures.capacity
    (subst (λ o. IsSomeAnd o (HasRoom n)) (sym c.in-Some.ensures.value) was))
    ((c.get_mut.follows.holds w).3 (search rules)).0

-- a row was put where the firm had none
put : (c : Joined-branch-4) → IsPut items (λ q. lookup (bytes_eq q) c.args.self.now.firms.entries) (λ q. lookup
    (bytes_eq q) c.insert.new.self.entries) c.args.firm.now c.reserve-2.new.self
put c q = c.in_ok-insert.ensures.updates.0 q ∙ ap (λ m. cond (bytes_eq c.args.firm.now q) (Some c.reserve-2.new.self)
    (lookup (bytes_eq q) m.entries)) c.get_mut.follows.holds-at-none

pub returns-clause-same : goal.returns-clause-same
returns-clause-same c =
    let w = c.reserve-2.new.self in
    same items (λ q. lookup (bytes_eq q) c.args.self.now.firms.entries)
    (λ q. lookup (bytes_eq q) c.insert.new.self.entries) c.args.firm.now w
    (c.reserve-2.ensures.items ∙ (c.new-numbers.ensures.items ∙ ap (numbers items) c.in_default.ensures.value)) (put c)

pub returns-clause-stays_ready : goal.returns-clause-stays_ready
returns-clause-stays_ready c n =
    let w = c.reserve-2.new.self in
    still items (HasRoom n) (λ q. lookup (bytes_eq q) c.args.self.now.firms.entries)
    (λ q. lookup (bytes_eq q) c.insert.new.self.entries) c.args.firm.now w
    (λ was new. let room = c.in_ok-reserve-2.ensures.ok in omega (arith, room)) (put c)
