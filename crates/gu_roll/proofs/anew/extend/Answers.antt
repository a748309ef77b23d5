use Rattle.gu_roll.proofs.Why.{is_extended, why_not}
use Rattle.gu_roll.proofs.anew.extend.Goals as goal

pub moved-made-requires : goal.moved-made-requires
moved-made-requires c =
    record {
      room = c.in-Ok-counted.ensures.room;
      run =
          c.a_larger_house_keeps_the_history.ensures.run c.args.house c.args.new c.in-Ok-counted.found.0.history
          c.in-Ok.ensures.extends c.in-Ok.ensures.lawful c.in-Ok.ensures.small c.in-Ok-counted.ensures.run;
    }

pub returns-clause-extended : goal.returns-clause-extended
returns-clause-extended c =
    is_extended (λ new. new.items) c.args.house c.args.new c.args.pin.now.bytes c.args.new_pin.now.bytes
    c.args.file.items c.in-Ok-counted.found.0.history c.moved-made.result c.in-Ok.ensures.extends
    c.in-Ok-counted.ensures.recovers c.in-Ok-counted.ensures.later c.moved-made.ensures.again c.moved-made.ensures.part

pub returns-clause-why : goal.returns-clause-why
returns-clause-why c =
    why_not c.args.house c.args.new c.args.pin.now.bytes c.args.file.items c.moved-made.result
    c.moved-made.ensures.unwritten
