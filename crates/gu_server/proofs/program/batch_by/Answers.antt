use Rattle.std.proofs.Common.{inl, inr, refl}
use Rattle.gu_server.proofs.program.batch_by.Goals as goal

-- the batch was answered to its end
pub returns-in-Ok-run_batch-clause-does : goal.returns-in-Ok-run_batch-clause-does
returns-in-Ok-run_batch-clause-does g c words is asked =
    inl (record {
      asks = record { path = c.args.path.now; is = is; asked = asked; house = c.in-Ok.house; named = c.in-Ok.ensures };
      runs = c.in-Ok-run_batch.ensures;
    })

-- the batch ended with an error, which the fault tells
pub returns-in-Err-run_batch-clause-does : goal.returns-in-Err-run_batch-clause-does
returns-in-Err-run_batch-clause-does g c words is asked =
    inr (
      c.in-Err-run_batch.error,
      refl,
      inl (record {
        asks = record {
          path = c.args.path.now;
          is = is;
          asked = asked;
          house = c.in-Ok.house;
          named = c.in-Ok.ensures;
        };
        runs = c.in-Err-run_batch.ensures;
      }),
    )
