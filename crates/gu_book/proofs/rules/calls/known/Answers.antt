use Rattle.gu_book.proofs.rules.calls.known.Goals as goal
use Rattle.gu_book.proofs.{LookedUp.stands_within, Vocabulary.{Call, length, sym, ◌-◌, ◌<◌, ◌∙◌}}

pub bounds-as_slice-place : goal.bounds-as_slice-place
bounds-as_slice-place c =
    let call : Call = record { firm = c.args.by.now; id = c.args.id.now; command = c.args.command.now } in
    let within : c.in-Some.number - 1 < length c.args.entries.now.items = stands_within c.args.entries.now.items call
    c.in-Some.number (sym (c.requires.ids.numbers call) ∙ (sym c.number.ensures ∙ c.in-Some.is)) in
    rw (c.as_slice.ensures.value, c.get.ensures.value) within
