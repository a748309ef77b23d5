use Rattle.std.proofs.Common.{◌≡◌, ◌∙◌, ◌+◌, [], ◌++◌, length, take, drop, subst, rules, refl, arith}
use Rattle.std.proofs.lemmas.List.{take_at}
use Rattle.gu_codec.specs.Writing.{HeaderText, fields_text, front_text}
use Rattle.gu_message.specs.Reply.{answer_reply, header_of}
use Rattle.gu_batch.specs.Output.{stamp}
use Rattle.gu_batch.proofs.Sending.{answer_header, answer_put, sent_text}
use Rattle.gu_batch.proofs.answering.Answering.send_answer.Goals as goal

pub returns-clause-ok : goal.returns-clause-ok
returns-clause-ok c =
    let same : c.house-2.result ≡ c.args.self.now.house.house = search rules in
    let call = c.args.call.now in
    let old = c.args.out.now.items in
    let reply = answer_reply call.firm.now call.trade call.id.now c.args.answer.now in
    let by = stamp c.args.self.now.house.house (c.args.self.now.written + 1) in
    let h = header_of by reply in
    let bytes = c.close_frame.new.bytes in
    let written : take c.open_frame.new.out.len (bytes ++ drop (length bytes) c.open_frame.new.out.items) ≡ bytes =
    take_at bytes _ _
    (omega (arith, c.close_frame.ensures.len, c.put_answer-end.ensures.len, c.as_mut_slice-bytes.ensures.len)) in
    let kind = c.answer_kind.result.now in
    let opened : take c.in_ok-at.at c.as_mut_slice-bytes.result.now
    ≡ old
    ++ front_text (header_of by (record { target = call.firm.now; kind = kind; fields = [] })) c.answer_len.result =
    rw (c.as_mut_slice-bytes.ensures.value, ← same, ← c.next_number.ensures) c.in_ok-at.ensures.front in
    let front : take c.in_ok-at.at c.as_mut_slice-bytes.result.now ≡ old ++ front_text h c.answer_len.result =
    subst
    (λ (t : HeaderText). take c.in_ok-at.at c.as_mut_slice-bytes.result.now ≡ old ++ front_text t c.answer_len.result)
    (answer_header by call.firm.now call.trade call.id.now c.args.answer.now kind
    (c.answer_kind.ensures.kind c.args.answer.now))
    opened in
    let put : take c.put_answer-end.result c.put_answer-end.new.bytes
    ≡ old ++ (front_text h (length (fields_text reply.fields)) ++ fields_text reply.fields) =
    answer_put h reply.fields old c.as_mut_slice-bytes.result.now c.put_answer-end.new.bytes c.in_ok-at.at
    c.put_answer-end.result c.answer_len.result front c.answer_len.ensures.exact c.put_answer-end.ensures.text in
    sent_text h reply.fields (fields_text reply.fields) old _ refl
    (written
    ∙ c.close_frame.ensures.frame old h (fields_text reply.fields) (c.len-start.ensures ∙ c.args.out.now.ok.0) put)
