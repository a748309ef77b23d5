use Rattle.std.proofs.Common.{◌≡◌, ◌++◌, List, ℕ, sym, ap, ◌∙◌, subst}
use Rattle.gu_desk.proofs.Moves.{begins_itself}
use Rattle.gu_recorder.specs.Waiting.{bytes_of, RestOn}
use Rattle.gu_recorder.specs.declared.made.MadeByte.{MadeByte}
use Rattle.gu_recorder.proofs.Waiting.{more_bytes, more_rests}
use Rattle.gu_recorder.proofs.outbox.Batch.hold_still.Goals as goal

-- what was made stands behind the rest, and rests on what that does
pub invariant_of-self : goal.invariant_of-self
invariant_of-self g c =
    let made = c.self.inside.made.bytes in
    let seen = c.self.inside.ticket.seen in
    let out = c.made.result.now in
    let all = c.made_behind-made.ensures in
    let bytes : c.hand_out.new.to.items ≡ c.self.inside.bytes.items ++ out =
    ◌∙◌ {A = List ℕ} c.in-Ok.ensures.ok (ap (λ (l : List ℕ). c.self.inside.bytes.items ++ l) (sym c.made.ensures)) in (
      bytes ∙ more_bytes c.self.inside.bytes.items out made seen c.self.invariant.0
          ∙ ap (λ (l : List MadeByte). bytes_of l) (sym all),
      subst (λ (l : List MadeByte). RestOn l seen) (sym all)
          (more_rests out made seen seen (begins_itself seen) c.self.invariant.1),
    )
