use Rattle.gu_journal.proofs.replay.Replay.take.Goals as goal
use Rattle.gu_journal.proofs.{Going.{passed_on, replays_on}, Reasons.{refused_on, unpinned_refused}}
use Rattle.gu_journal.proofs.{replay.Replay.take.Goals.{else-eq, then-eq+in_ok-check_head}, Vocabulary.{arith, Fresh}}
use Rattle.gu_journal.proofs.Vocabulary.{Holds512, IsPinned, length-append, pairs, rules, sym, ◌∙◌, ◌≡◌}

pub returns-clause-takes : goal.returns-clause-takes
returns-clause-takes c t taken place is =
    let m = c.new-message.result in
    let pinned : c.args.self.now.stand ≡ Fresh → IsPinned c.args.pin.now.bytes m = elim c.if-eq.branch [
      | then-eq+in_ok-check_head w ↦ λ fresh. w.in_ok-check_head.ensures.ok
      | else-eq w ↦ λ fresh. absurd (search rules)
    ] in
    let held : Holds512 c.read_meaning.new.self.hasher taken = rw c.read_meaning.ensures.hasher is.hashed in
    let kept : Holds512 c.take_message.new.self.hasher taken = rw c.take_message.ensures.hasher held in
    let stand = c.note_seal.ensures.stand in
    let mid = c.take_message.ensures.sealed in
    let old = c.read_meaning.ensures.sealed in
    replays_on c.args.frame.now is c.new-message.ensures c.read_meaning.ensures.stand
    (rw stand (c.in_ok-take_message.ensures.takes c.args.pin.now.bytes taken
    (λ fresh. pinned (sym c.read_meaning.ensures.stand ∙ fresh)) held)) c.in_ok-take_message.ensures.house
    c.requires.frame
    (λ seal. let now = c.note_seal.ensures.sealed (sym stand ∙ seal) in
    (omega (arith, now.0, place, length-append taken c.args.frame.now), now.1 ∙ c.next_number-entry.ensures.number))
    (λ other. let now = c.note_seal.ensures.unsealed (λ e. other (stand ∙ e)) in
    (now.0 ∙ mid.0 ∙ old.0, now.1 ∙ mid.1 ∙ old.1))
    (rw c.note_seal.ensures.hasher (c.update.ensures taken kept))

pub returns-in_err-check_head-clause-cause : goal.returns-in_err-check_head-clause-cause
returns-in_err-check_head-clause-cause c =
    passed_on c.from_residual.result c.from_residual.ensures (λ e is. rw is (λ t taken replays.
    unpinned_refused t c.args.pin.now.bytes taken c.args.book.now.history (pairs c.args.fields) c.args.self.now.stand _
    (search rules) (rw c.new-message.ensures at c.in_err-check_head.ensures.cause)))

pub returns-in_err-take_message-clause-cause : goal.returns-in_err-take_message-clause-cause
returns-in_err-take_message-clause-cause c =
    let m = c.new-message.result in
    let pinned : c.args.self.now.stand ≡ Fresh → IsPinned c.args.pin.now.bytes m = elim c.if-eq.branch [
      | then-eq+in_ok-check_head w ↦ λ fresh. w.in_ok-check_head.ensures.ok
      | else-eq w ↦ λ fresh. absurd (search rules)
    ] in
    passed_on c.from_residual-in_err-take_message.result c.from_residual-in_err-take_message.ensures
    (λ e is. rw is (λ t taken is.
    refused_on _ is c.new-message.ensures c.read_meaning.ensures.stand
    (c.in_err-take_message.ensures.cause c.args.pin.now.bytes taken
    (λ fresh. pinned (sym c.read_meaning.ensures.stand ∙ fresh)) (rw c.read_meaning.ensures.hasher is.hashed))))
