use Rattle.std.proofs.Common.{◌≡◌, ◌++◌, ℕ, List, Ok, Err, refl, subst, rules, arith}
use Rattle.std.proofs.lemmas.Grind.{common_steps}
use Rattle.std.specs.Prelude.{OnOk}
use Rattle.gu_codec.specs.Answer.{pairs}
use Rattle.gu_message.specs.declared.fault.MeaningError.TheVariants.{Reject}
use Rattle.gu_message.specs.declared.inbound.Inbound.TheVariants.{Call}
use Rattle.gu_batch.specs.Output.{Progress}
use Rattle.gu_batch.proofs.Sending.{one_text, one_after, put_call, put_fault}
use Rattle.gu_message.specs.Meaning.{meaning_of}
use Rattle.gu_batch.proofs.answering.Answering.answer_meaning.Goals.{In-Call, In-Err-Reject}
use Rattle.gu_batch.proofs.answering.Answering.answer_meaning.Goals as goal

-- the message means the call that was put into the room, or has the fault that was found
calls : (c : In-Call)
    → meaning_of c.args.self.now.house.house (pairs c.args.fields)
    ≡ Ok (Call c.in-Call.firm c.in-Call.trade c.in-Call.id c.in-Call.command)
calls c =
    put_call c.args.self.now (pairs c.args.fields) c.args.read c.in-Ok.field-0 c.args.room.now.meaning _
    c.requires.gives c.in-Ok.is c.in-Call.is

faulty : (c : In-Err-Reject) → meaning_of c.args.self.now.house.house (pairs c.args.fields) ≡ Err c.in-Err-Reject.fault
faulty c =
    let w = c.in-Err-Reject in
    let e : c.args.read ≡ Err (Reject w.fault) = first_of (search rules, cc, grind (arith, common_steps)) in
    put_fault c.args.self.now (pairs c.args.fields) c.args.read c.args.room.now.meaning w.fault c.requires.gives e

pub returns-in-Call-clause-ok : goal.returns-in-Call-clause-ok
returns-in-Call-clause-ok c =
    let m = calls (goal.at.returns-in-Call-clause-ok c).In-Call in
    subst (λ (x : List ℕ).
    OnOk c.answer_call-answered.result (c.answer_call-answered.new.out.items ≡ c.args.out.now.items ++ x))
    (one_text c.args.self.now (pairs c.args.fields) _ _ m refl) c.answer_call-answered.ensures.ok

pub returns-in-Call-clause-after : goal.returns-in-Call-clause-after
returns-in-Call-clause-after c =
    let m = calls (goal.at.returns-in-Call-clause-after c).In-Call in
    subst (λ (x : Progress). OnOk c.answer_call-answered.result (c.answer_call-answered.new.self ≡ x))
    (one_after c.args.self.now (pairs c.args.fields) _ m) c.answer_call-answered.ensures.after

pub returns-in-Err-Reject-clause-ok : goal.returns-in-Err-Reject-clause-ok
returns-in-Err-Reject-clause-ok c =
    let m = faulty (goal.at.returns-in-Err-Reject-clause-ok c).In-Err-Reject in
    subst (λ (x : List ℕ). OnOk c.answer_fault.result (c.answer_fault.new.out.items ≡ c.args.out.now.items ++ x))
    (one_text c.args.self.now (pairs c.args.fields) _ _ m refl) c.answer_fault.ensures.ok

pub returns-in-Err-Reject-clause-after : goal.returns-in-Err-Reject-clause-after
returns-in-Err-Reject-clause-after c =
    let m = faulty (goal.at.returns-in-Err-Reject-clause-after c).In-Err-Reject in
    subst (λ (x : Progress). OnOk c.answer_fault.result (c.answer_fault.new.self ≡ x))
    (one_after c.args.self.now (pairs c.args.fields) _ m) c.answer_fault.ensures.after
