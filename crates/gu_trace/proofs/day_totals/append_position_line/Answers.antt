use Rattle.std.proofs.Common.{◌≡◌, ◌++◌}
use Rattle.std.specs.Prelude.{string_bytes}
use Rattle.gu_trace.specs.Totals.{account_words, lots_words, position_line}
use Rattle.gu_trace.proofs.Texts.{on_ok, two_pieces}
use Rattle.gu_trace.proofs.day_totals.append_position_line.Goals as goal

pub returns : goal.returns
returns c =
    let a = c.args.account.now in
    on_ok (string_bytes c.append_lots.new.text
    ≡ string_bytes c.append_account_words.new.text ++ lots_words c.args.instrument.now c.args.long c.args.short)
    (string_bytes c.append_lots.new.text
    ≡ string_bytes c.args.text.now ++ position_line a.firm a.name c.args.instrument.now c.args.long c.args.short)
    c.append_lots.result
    (λ last.
    two_pieces (string_bytes c.args.text.now) (string_bytes c.append_account_words.new.text)
    (string_bytes c.append_lots.new.text) (account_words a.firm a.name)
    (lots_words c.args.instrument.now c.args.long c.args.short) c.in_ok-append_account_words.ensures last)
    c.append_lots.ensures
