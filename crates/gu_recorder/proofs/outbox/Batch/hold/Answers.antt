use Rattle.std.proofs.Common.{◌≡◌, ◌≤◌, ◌++◌, List, ℕ, length, sym, ap, ◌∙◌, subst, arith}
use Rattle.gu_base.specs.declared.entry.Entry.{Entry}
use Rattle.gu_desk.specs.Begins.{BeginsWith}
use Rattle.gu_desk.specs.Views.{TicketView}
use Rattle.gu_recorder.specs.Waiting.{bytes_of, RestOn}
use Rattle.gu_recorder.specs.declared.made.MadeByte.{MadeByte}
use Rattle.gu_recorder.proofs.Waiting.{covers_older, more_bytes, more_rests}
use Rattle.gu_recorder.proofs.outbox.Batch.hold.Goals as goal

-- what was made stands behind the rest, and rests on what the new ticket has seen, as the rest does
pub invariant_of-self : goal.invariant_of-self
invariant_of-self g c =
    let made = c.self.inside.made.bytes in
    let mine = c.self.inside.ticket in
    let out = c.made.result.now in
    let newer = c.ticket-newer.result.seen in
    let enough : length mine.seen ≤ length newer = omega (arith, c.seen.ensures, c.seen-2.ensures) in
    let longer =
    covers_older mine c.ticket-newer.result c.replace-older.result c.replace-older.new.dest c.covers.new.self
    c.covers.result c.replace-older.ensures.value c.replace-older.ensures.after enough c.covers.ensures.found
    c.covers.ensures.covers in
    let same : c.covers.new.self.seen ≡ newer =
    ap (λ (t : TicketView). t.seen) (c.covers.ensures.same ∙ c.replace-older.ensures.after) in
    let further : BeginsWith newer mine.seen = subst (λ (h : List Entry). BeginsWith h mine.seen) same longer in
    let all = c.made_behind-made.ensures in
    let rests = more_rests out made mine.seen newer further c.self.invariant.1 in
    let bytes : c.hand_out.new.to.items ≡ c.self.inside.bytes.items ++ out =
    c.in-Ok.ensures.ok ∙ ap (λ (l : List ℕ). c.self.inside.bytes.items ++ l) (sym c.made.ensures) in (
      bytes ∙ more_bytes c.self.inside.bytes.items out made newer c.self.invariant.0
          ∙ ap (λ (l : List MadeByte). bytes_of l) (sym all),
      subst (λ (h : List Entry). RestOn c.made_behind-made.result.bytes h) (sym same)
          (subst (λ (l : List MadeByte). RestOn l newer) (sym all) rests),
    )
