use Rattle.std.proofs.Common.{rules, ◌≡◌, ◌-◌, length, sym, ◌∙◌}
use Rattle.std.specs.Prelude.{slice_get}
use Rattle.std.specs.Option.{option_map_or}
use Rattle.gu_base.specs.declared.report.Report.{Report}
use Rattle.gu_connection.proofs.Looking.{last_of}
use Rattle.gu_connection.proofs.connection.last_number.Goals as goal

pub returns-in-Some : goal.returns-in-Some
returns-in-Some c =
    let last : option_map_or (λ (r : Report). r.number) (slice_get c.args.reports.now (length c.args.reports.now - 1))
    c.args.before ≡ c.get.result =
    search rules in
    sym last ∙ last_of c.args.reports.now c.args.before
