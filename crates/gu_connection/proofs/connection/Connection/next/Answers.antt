use Rattle.std.proofs.Common.{◌≡◌, rules}
use Rattle.std.specs.Prelude.{is_some, option_map}
use Rattle.gu_connection.specs.Turns.{Learns}
use Rattle.gu_connection.proofs.Turning.{is_brought}
use Rattle.gu_connection.proofs.connection.Connection.next.Goals as goal

pub returns-in-Ok-clause-brings : goal.returns-in-Ok-clause-brings
returns-in-Ok-clause-brings g c =
    let learns : Learns c.args.self.now.feed c.args.self.now.session c.step.new.session
    c.next.follows.lender-at-none c.in-Some-Whole.fields c.in-Ok.actions = search rules in
    let was : c.is_some-was_on.result ≡ is_some c.args.self.now.session.link.firm = search rules in
    let now : c.is_some-is_on.result ≡ is_some c.step.new.session.link.firm = search rules in
    is_brought (option_map (λ b. b.now) c.args.self.now.book) c.args.self.now.feed c.next.follows.lender-at-none
    c.args.self.now.session c.step.new.session c.in-Some-Whole.fields c.in-Ok.actions c.is_some-was_on.result
    c.is_some-is_on.result c.brought_by.result learns was now c.brought_by.ensures
