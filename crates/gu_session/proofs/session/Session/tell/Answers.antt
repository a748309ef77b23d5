use Rattle.std.proofs.Common.{◌≡◌, ℕ, ◌+◌, ◌<◌, ◌≤◌, true, List, length, map, ap, subst, ◌∙◌, refl, arith}
use Rattle.std.specs.Prelude.{Some, nat_le}
use Rattle.std.proofs.lemmas.Bool.Decides.{nat_tests}
use Rattle.gu_session.specs.Keeping.{Kept}
use Rattle.gu_session.specs.declared.link.LinkState.{LinkState}
use Rattle.gu_session.specs.Steps.{Seen, fits, tells, kept_from, reply_bodies, new, time_of}
use Rattle.gu_session.specs.Text.{wire}
use Rattle.gu_session.proofs.Giving.{shut_gives, tells_give, length_bodies, tells_too_many}
use Rattle.gu_session.proofs.session.Session.tell.Goals.{After-has_numbers}
use Rattle.gu_session.proofs.session.Session.tell.Goals as goal

-- the messages that tell the answer and the reports, and whether there are numbers for them
abbrev fresh : After-has_numbers → List Kept
fresh c =
    kept_from (time_of c.args.moment) c.args.self.now.link.next
    (reply_bodies (time_of c.args.moment) c.args.self.now.link.waiting c.args.answer.now c.args.reports.now)

has_room : (c : After-has_numbers)
    → c.has_numbers.result ≡ nat_le (c.args.self.now.link.next + length (fresh c)) 1000000000
has_room c =
    let s = c.args.self.now in
    let link : c.self.inside.link ≡ s.link = ap (λ (t : Seen). t.link) c.self.view_is in
    let len = length_bodies (time_of c.args.moment) s.link.next s.link.waiting c.args.answer.now c.args.reports.now in
    let answers = rw link at c.answers.ensures in
    let has = rw link at c.has_numbers.ensures in
    grind (arith, nat_tests, len, answers, has)

pub returns-then-not-has_numbers-clause-ok : goal.returns-then-not-has_numbers-clause-ok
returns-then-not-has_numbers-clause-ok c =
    let s = c.args.self.now in
    let ms = fresh (goal.at.returns-then-not-has_numbers-clause-ok c).After-has_numbers in
    let has = has_room (goal.at.returns-then-not-has_numbers-clause-ok c).After-has_numbers in
    let many : 1000000000 < s.link.next + length ms = grind (arith, nat_tests, has, c.if-not-has_numbers.true) in
    shut_gives c.args.moment s (tells c.args.moment s ms) _ _ (tells_too_many c.args.moment s ms many)
    c.shut_down.ensures.session c.shut_down.ensures.actions

pub keep_fresh-requires : goal.keep_fresh-requires
keep_fresh-requires c =
    let link : c.self.inside.link ≡ c.args.self.now.link = ap (λ (t : Seen). t.link) c.self.view_is in
    let has = has_room (goal.at.keep_fresh-requires c).After-has_numbers in
    let kept = ap (λ (t : List Kept). length t) (rw link at c.in_ok-fresh.ensures.kept) in
    grind (arith, nat_tests, has, kept, c.if-not-has_numbers.false)

pub returns-clause-ok : goal.returns-clause-ok
returns-clause-ok c =
    let s = c.args.self.now in
    let link : c.self.inside.link ≡ s.link = ap (λ (t : Seen). t.link) c.self.view_is in
    let time : List ℕ = time_of c.args.moment in
    let ms = fresh (goal.at.returns-clause-ok c).After-has_numbers in
    let has = has_room (goal.at.returns-clause-ok c).After-has_numbers in
    let fresh : c.in_ok-fresh.fresh ≡ ms = rw link at c.in_ok-fresh.ensures.kept in
    let fits_before : fits s.link ≡ true = subst (λ (l : LinkState). fits l ≡ true) link c.self.invariant in
    let few : s.link.next + length ms ≤ 1000000000 = grind (arith, nat_tests, has, c.if-not-has_numbers.false) in
    let house =
    ap (λ (h : List ℕ). wire h (Some c.args.firm) time (map new c.in_ok-fresh.fresh)) c.house.ensures in
    let seen =
    ap (λ (t : Seen). wire t.house.house (Some c.args.firm) time (map new c.in_ok-fresh.fresh)) c.self.view_is in
    let send = c.in_ok-fresh.ensures.send ∙ house ∙ seen
    ∙ ap (λ (t : List Kept). wire s.house.house (Some c.args.firm) time (map new t)) fresh in
    tells_give c.args.moment s _ c.args.firm ms _ c.requires.firm fits_before few
    (c.in_ok-keep_fresh.ensures.ok ∙ ap (λ (t : List Kept). (tells c.args.moment s t).after) fresh) send refl refl
