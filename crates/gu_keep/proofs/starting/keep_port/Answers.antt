use Rattle.std.proofs.Common.{◌∙◌, subst}
use Rattle.gu_base.specs.House.{House}
use Rattle.gu_base.specs.Runs.{IsRunFrom, opening_history}
use Rattle.gu_keep.proofs.Runs.{run_on}
use Rattle.gu_keep.proofs.starting.keep_port.Goals as goal

-- what was recovered is a run from the opening history, and what was served is one of that
pub returns-in-Ok-serve_kept-clause-served : goal.returns-in-Ok-serve_kept-clause-served
returns-in-Ok-serve_kept-clause-served g c =
    let before = c.in-Ok.opened.0 in
    let after = c.in-Ok-serve_kept.book in
    let served = c.in-Ok-serve_kept.ensures in
    let house = c.in-Ok.ensures.book in (
      served.0 ∙ house,
      run_on c.args.house (opening_history c.args.house) before.history after.history c.in-Ok.ensures.run
          (subst (λ (t : House). IsRunFrom t before.history after.history) house served.1),
    )
