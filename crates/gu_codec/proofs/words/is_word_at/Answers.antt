use Rattle.std.proofs.Common.{◌≡◌, ◌-◌, ◌∙◌, length, take, drop, sym, ap, arith, rules, w64, length-drop}
use Rattle.std.specs.Int.{to_le_bytes}
use Rattle.std.proofs.lemmas.Bool.{eqb-true}
use Rattle.std.proofs.lemmas.List.{take_all}
use Rattle.std.proofs.lemmas.Nat.{le_bytes_8}
use Rattle.gu_codec.proofs.EightBytes.{word_fits}
use Rattle.gu_codec.proofs.words.is_word_at.Goals as goal

pub returns-in-Some : goal.returns-in-Some
returns-in-Some c same =
    let bytes = c.args.bytes.now in
    let at = c.args.at in
    let word = c.in-Some.front.now in
    let front : word ≡ take 8 (drop at bytes) = c.in-Some.ensures.cases.0
    ∙ ap (take 8) (take_all (length bytes - at) (drop at bytes) (omega (arith, length-drop at bytes))) in
    sym front
    ∙ sym (le_bytes_8 word _ (search rules) (word_fits bytes word at c.type_inv.bytes front) c.from_le_bytes.ensures)
    ∙ ap (to_le_bytes w64) (eqb-true _ _ same)
    ∙ le_bytes_8 c.args.word _ (search rules) (search rules) c.from_le_bytes-in-Some.ensures
