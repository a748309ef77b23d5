use Rattle.std.proofs.Common.{◌+◌, ◌≡◌, rules}
use Rattle.gu_message.specs.Reply.{header_of}
use Rattle.gu_batch.specs.Output.{stamp}
use Rattle.gu_batch.proofs.Sending.{sent_text}
use Rattle.gu_batch.proofs.answering.Answering.send.Goals as goal

pub returns-clause-ok : goal.returns-clause-ok
returns-clause-ok c fs e =
    let same : c.house-2.result ≡ c.args.self.now.house.house = search rules in
    sent_text (header_of (stamp c.args.self.now.house.house (c.args.self.now.written + 1))
    (record { target = c.args.target.now; kind = c.args.kind.now; fields = fs }))
    fs c.args.body.now _ _ e (rw (← same, ← c.next_number.ensures) c.in_ok-write_frame.ensures.ok)
