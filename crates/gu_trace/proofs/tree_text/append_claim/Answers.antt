use Rattle.std.proofs.Common.{◌≡◌, ◌++◌, ap, ◌∙◌}
use Rattle.std.specs.Prelude.{Some, option_map, string_bytes}
use Rattle.gu_trace.specs.Trace.{giver_of, fee_words, claimed_words}
use Rattle.gu_trace.proofs.Texts.{on_ok, claim_told}
use Rattle.gu_trace.proofs.tree_text.append_claim.Goals as goal

pub returns : goal.returns
returns c =
    let head = c.args.head.now in
    let book = c.args.book.now in
    let given : Some c.in-Some.split.now.firm ≡ giver_of book.history head.name =
    ap (option_map (λ r. r.firm)) (rw (c.entry.ensures, c.history.ensures.value) at c.in-Some.ensures) in
    let told = claim_told book.house book.history head.lots c.fee_of-fee.result c.in-Some.split.now.firm
    c.in-Some-taker.taker (giver_of book.history head.name) head.taker given c.in-Some-taker.is c.fee_of-fee.ensures in
    on_ok (string_bytes c.append_fee.new.text
    ≡ string_bytes c.args.text.now ++ fee_words c.in-Some.split.now.firm c.fee_of-fee.result)
    (string_bytes c.append_fee.new.text
    ≡ string_bytes c.args.text.now
    ++ claimed_words book.house book.history head.lots (giver_of book.history head.name) head.taker)
    c.append_fee.result (λ e. e ∙ ap (λ t. string_bytes c.args.text.now ++ t) told) c.append_fee.ensures
