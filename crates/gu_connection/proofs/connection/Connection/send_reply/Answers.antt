use Rattle.gu_connection.proofs.Closing.{reply_shuts}
use Rattle.std.proofs.Common.{rules, ◌≡◌, ◌∙◌}
use Rattle.gu_trace.specs.Between.{last_told, looked_to}
use Rattle.gu_trace.specs.Reports.{reports_for}
use Rattle.gu_connection.proofs.Looking.{noted}
use Rattle.gu_connection.proofs.connection.Connection.send_reply.Goals as goal

-- the reading tells what one above the last report tells, and nothing between what is noted concerns the firm
pub returns-in-Ok-clause-same : goal.returns-in-Ok-clause-same
returns-in-Ok-clause-same g c =
    let told : c.last_number-told.result ≡ last_told c.args.self.now.told c.args.reports.items = search rules in
    let looked : c.if-behind.looked ≡ looked_to c.args.self.now.looked c.args.entries c.args.reports.items =
    search rules in
    λ t h f run entries has read. (
      read ∙ c.nothing_is_passed_over.ensures.same t h f c.args.self.now.told c.args.self.now.looked has,
      noted t.house h f c.args.self.now.told c.args.self.now.looked c.args.entries c.last_number-told.result
          c.if-behind.looked (reports_for t.house h f c.args.self.now.looked) c.args.reports.items entries read told
          looked (c.nothing_is_passed_over.ensures.read t h f c.args.self.now.told c.args.self.now.looked run has),
    )

pub returns-in-Err-clause-same : goal.returns-in-Err-clause-same
returns-in-Err-clause-same g c =
    λ t h f run entries has read.
    (read ∙ c.nothing_is_passed_over.ensures.same t h f c.args.self.now.told c.args.self.now.looked has, tt)

pub returns-in-Ok-clause-looked : goal.returns-in-Ok-clause-looked
returns-in-Ok-clause-looked g c = search rules

pub returns-in-Ok-clause-behind : goal.returns-in-Ok-clause-behind
returns-in-Ok-clause-behind g c = search rules

pub returns-in-Ok-clause-told : goal.returns-in-Ok-clause-told
returns-in-Ok-clause-told g c = search rules

pub returns-in-Err-clause-err : goal.returns-in-Err-clause-err
returns-in-Err-clause-err g c =
    reply_shuts c.args.answer c.args.reports c.args.self.now.session c.args.self.now.out.items
    c.quiet.new.self.out.items c.in-Err.ensures.err
