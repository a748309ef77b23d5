use Rattle.std.proofs.Common.{◌≡◌, ℕ, true, List, ◌++◌, ap, ◌∙◌, refl}
use Rattle.gu_session.specs.Steps.{Seen, fits, call_of, resends, sayings, time_of}
use Rattle.gu_session.specs.Text.{wire, fields_of}
use Rattle.gu_session.proofs.Giving.{act_gives}
use Rattle.gu_session.proofs.session.Session.act.Goals as goal

pub returns-clause-ok : goal.returns-clause-ok
returns-clause-ok c =
    let v = c.args.verdict in
    let within : fits v.link ≡ true = cc in
    let time : List ℕ = time_of c.args.moment in
    let came = fields_of c.args.came in
    let house =
    ap (λ (h : List ℕ).
    wire h v.link.firm time (resends time c.self.inside.kept v.resend ++ sayings came c.self.inside.link.next v.say))
    c.house.ensures in
    let seen =
    ap
    (λ (t : Seen). wire t.house.house v.link.firm time (resends time t.kept v.resend ++ sayings came t.link.next v.say))
    c.self.view_is in
    act_gives c.args.moment c.args.self.now _ came (call_of c.args.meaning v.call) v _ within
    (ap (λ (t : Seen). record t { link = v.link }) c.self.view_is) (c.in_ok-send.ensures ∙ house ∙ seen)
    c.call_of.ensures refl
