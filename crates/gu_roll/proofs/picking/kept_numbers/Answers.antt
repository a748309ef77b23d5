use Rattle.std.proofs.Common.{◌≡◌, ◌∙◌, List, map, sym, ap, subst}
use Rattle.std.specs.Prelude.{filter}
use Rattle.gu_base.specs.History.{live}
use Rattle.gu_base.specs.declared.entry.Entry.{Entry}
use Rattle.gu_lives.specs.Trades.{in_trades, is_open}
use Rattle.gu_lives.proofs.WholeLive.{live_rise, whole_live}
use Rattle.gu_roll.specs.Carried.{carried}
use Rattle.gu_roll.specs.Numbering.{AreOf}
use Rattle.gu_roll.specs.declared.keep.Keep.{Keep}
use Rattle.gu_roll.proofs.Carry.{keep_all, live_are_of}
use Rattle.gu_roll.proofs.Renamed.{if_ok, number_of}
use Rattle.gu_roll.proofs.picking.kept_numbers.Goals as goal

pub returns-in-All : goal.returns-in-All
returns-in-All c =
    let h = c.args.book.now.history in
    c.requires.numbers
    ∙ ap (map number_of) (sym (keep_all (live h)) ∙ ap (λ (k : Keep). carried k h) (sym c.in-All.is))

pub returns-in-Open : goal.returns-in-Open
returns-in-Open c =
    let h = c.args.book.now.history in
    let l = live h in
    let whole = whole_live c.requires.lawful c.requires.small c.requires.run c.history.ensures.fits in
    let of : AreOf c.history.result.now l =
    subst (λ (k : List Entry). AreOf k l) (sym c.history.ensures.value) (live_are_of h) in
    let told = c.open_numbers.ensures c.args.book.now.house l whole of (live_rise h)
    (c.deref.ensures.value ∙ c.requires.numbers) in
    if_ok (λ v. v.items ≡ map number_of (filter (in_trades l (is_open l)) l))
    (λ v. v.items ≡ map number_of (carried c.args.keep h))
    (λ v is. is ∙ ap (λ (k : Keep). map number_of (carried k h)) (sym c.in-Open.is))
    c.open_numbers.result told
