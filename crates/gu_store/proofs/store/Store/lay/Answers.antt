use Rattle.gu_store.proofs.store.Store.lay.Goals as goal
use Rattle.gu_store.proofs.Steps.{from_one, laid, laying}
use Rattle.std.proofs.Common.{arith, refl, sym, ◌∙◌}

pub returns-in_err-write_zeros-clause-crash : goal.returns-in_err-write_zeros-clause-crash
returns-in_err-write_zeros-clause-crash g c before c' rest left =
    laying before _ rest.end rest.file (from_one rest.durable c.write_zeros.ensures.zeroing.crash c' left)

pub returns-in_err-sync-clause-crash : goal.returns-in_err-sync-clause-crash
returns-in_err-sync-clause-crash g c before c' rest left =
    laying before _ rest.end rest.file
    (from_one rest.durable c.write_zeros.ensures.zeroing.crash c' (c.sync.ensures.crash c' left))

pub returns-clause-crash : goal.returns-clause-crash
returns-clause-crash g c before c' rest left =
    laying before _ rest.end rest.file
    (from_one rest.durable c.write_zeros.ensures.zeroing.crash c' (c.sync.ensures.crash c' left))

pub returns-clause-rest : goal.returns-clause-rest
returns-clause-rest g c before rest = record {
  file = c.sync.ensures.seen ∙ laid before _ rest.end rest.file refl c.write_zeros.ensures.zeroing.others
      c.in_ok-write_zeros.ensures.written;
  end = rest.end;
  some = omega (arith, rest.some);
  no_zero = rest.no_zero;
  durable = λ f left. c.in_ok-sync.ensures.durable f left ∙ sym c.sync.ensures.seen;
}
