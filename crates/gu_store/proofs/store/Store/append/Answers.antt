use Rattle.gu_store.proofs.store.Store.append.Goals as goal
use Rattle.gu_store.proofs.Steps.{left_laying, zero_laying}

pub returns-in_err-lay-clause-mixed : goal.returns-in_err-lay-clause-mixed
returns-in_err-lay-clause-mixed g c all before c' rest left =
    left_laying before c.args.group.now c' _ rest.no_zero rest.some (c.lay.ensures.crash before c' rest left)

pub returns-in_err-lay-clause-zero : goal.returns-in_err-lay-clause-zero
returns-in_err-lay-clause-zero g c before c' rest left =
    zero_laying before c' _ rest.no_zero rest.some (c.lay.ensures.crash before c' rest left)
