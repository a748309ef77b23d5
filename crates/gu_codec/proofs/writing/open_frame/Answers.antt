use Rattle.std.proofs.Common.{arith}
use Rattle.std.proofs.lemmas.Grind.{common_steps}
use Rattle.std.proofs.Common.{◌≡◌, ◌∙◌, ◌+◌, ℕ, List, ◌∷◌, ◌++◌, length, take, drop, Result, Ok, Err, ap, arith}
use Rattle.std.proofs.Common.{length-append}
use Rattle.std.specs.Prelude.{decimal, OnErr}
use Rattle.std.proofs.lemmas.List.{take_at}
use Rattle.gu_codec.specs.Grammar.{opening}
use Rattle.gu_codec.specs.Writing.{view, fields_text, header_pairs}
use Rattle.gu_codec.proofs.HeaderTexts.{header_len}
use Rattle.gu_codec.proofs.writing.open_frame.Goals as goal

on_err : {A E P : Type 0} (r : Result A E) → P → OnErr r P
on_err (Ok x) p = tt
on_err (Err e) p = p

-- a growth is refused only where the room isn't there yet
pub returns-in_err-lengthen-clause-full : goal.returns-in_err-lengthen-clause-full
returns-in_err-lengthen-clause-full c =
    let header = fields_text (header_pairs (view c.args.header.now)) in
    let len : c.header_len.result ≡ length header = c.header_len.ensures.exact ∙ header_len (view c.args.header.now) in
    let count : c.decimal_len-count.result ≡ length (decimal (length header + c.args.body)) =
    c.decimal_len-count.ensures.exact ∙ ap (λ (n : ℕ). length (decimal (n + c.args.body))) len in
    on_err c.from_residual.result
    (omega (
      arith,
      c.in_err-lengthen.ensures.full,
      len,
      count,
      length-append (decimal (length header + c.args.body)) (1 ∷ header),
    ))

pub returns-clause-front : goal.returns-clause-front
returns-clause-front c =
    let header = fields_text (header_pairs (view c.args.header.now)) in
    let bytes = c.put_front-at.new.bytes in
    let written : take c.lengthen.new.out.len (bytes ++ drop (length bytes) c.lengthen.new.out.items) ≡ bytes =
    take_at bytes _ _ (omega (arith, c.put_front-at.ensures.len, c.as_mut_slice.ensures.len)) in
    let before : take c.len-start.result c.as_mut_slice.result.now ≡ c.args.out.now.items =
    rw (c.as_mut_slice.ensures.value, c.len-start.ensures) c.in_ok-lengthen.ensures.ok in
    let len : c.header_len.result ≡ length header = c.header_len.ensures.exact ∙ header_len (view c.args.header.now) in
    ap (take c.put_front-at.result) written ∙ c.put_front-at.ensures.text
    ∙ ap (λ (t : List ℕ). t ++ (opening ++ (decimal (c.header_len.result + c.args.body) ++ 1 ∷ header))) before
    ∙ ap (λ (n : ℕ). c.args.out.now.items ++ (opening ++ (decimal (n + c.args.body) ++ 1 ∷ header))) len

pub returns-clause-len : goal.returns-clause-len
returns-clause-len c = grind (arith, common_steps)
