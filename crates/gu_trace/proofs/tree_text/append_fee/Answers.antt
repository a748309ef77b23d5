use Rattle.std.proofs.Common.{◌≡◌, ◌++◌}
use Rattle.std.specs.Prelude.{decimal, string_bytes}
use Rattle.gu_trace.specs.Trace.{giver_words, fee_words}
use Rattle.gu_trace.proofs.Texts.{on_ok, two_pieces}
use Rattle.gu_trace.proofs.tree_text.append_fee.Goals as goal

pub returns : goal.returns
returns c =
    on_ok (string_bytes c.append_digits.new.text ≡ string_bytes c.append_giver.new.text ++ decimal c.args.fee)
    (string_bytes c.append_digits.new.text ≡ string_bytes c.args.text.now ++ fee_words c.args.giver.now c.args.fee)
    c.append_digits.result
    (λ last.
    two_pieces (string_bytes c.args.text.now) (string_bytes c.append_giver.new.text)
    (string_bytes c.append_digits.new.text) (giver_words c.args.giver.now) (decimal c.args.fee)
    c.in_ok-append_giver.ensures last)
    c.append_digits.ensures
