use Rattle.std.proofs.Common.{◌≡◌, ◌≤◌, ◌+◌, ◌-◌, ℕ, List, length, take, drop, sym, subst, ap, arith, length-drop}
use Rattle.std.proofs.Common.{length-take}
use Rattle.std.proofs.lemmas.Bool.{and_parts}
use Rattle.std.proofs.lemmas.List.{take_all}
use Rattle.gu_codec.specs.Fields.{ShortBehind}
use Rattle.gu_codec.proofs.Bitwise.{sizes}
use Rattle.gu_codec.proofs.ShortTags.{IsPiece, piece_of, piece_behind, behind_joined, short_to_end}
use Rattle.gu_codec.proofs.fields.are_short_by.Goals as goal

pub loop-i-preserved : goal.loop-i-preserved
loop-i-preserved c =
    let bytes = c.args.bytes.now in
    let i = c.loop-i.i in
    let step = c.args.step in
    let sized = sizes step c.requires.window in
    let piece = take (i + step - i) (drop i bytes) in
    let size : i + step - i ≡ step = omega arith in
    let same : IsPiece bytes piece i step =
    subst (λ (n : ℕ). IsPiece bytes (take n (drop i bytes)) i step) (sym size) (piece_of bytes i step) in
    let long : length piece ≡ step = omega (arith, length-take (i + step - i) (drop i bytes), length-drop i bytes) in
    record {
      within = omega (arith, sized.0);
      front = λ all. c.loop-i.invariant.front (and_parts _ _ all).0;
      behind = λ all.
          behind_joined bytes piece i i (step - 5) step same (omega (arith, sized.0)) (omega arith)
          (c.loop-i.invariant.behind (and_parts _ _ all).0)
          (subst (λ (n : ℕ). ShortBehind piece (n - 5)) long (c.is_short_behind-holds.ensures (and_parts _ _ all).1));
    }

pub returns-then-holds : goal.returns-then-holds
returns-then-holds c = λ ends.
    let bytes = c.args.bytes.now in
    let step = c.args.step in
    let sized = sizes step c.requires.window in
    let n = length bytes - step in
    let piece = take (length bytes - n) (drop n bytes) in
    let whole : piece ≡ drop n bytes =
    take_all (length bytes - n) (drop n bytes) (omega (arith, length-drop n bytes)) in
    let same : IsPiece bytes piece n step =
    subst (λ (p : List ℕ). IsPiece bytes p n step) (sym whole) (piece_behind bytes n step) in
    let long : length piece ≡ step = omega (arith, ap length whole, length-drop n bytes) in
    let last = take_all (length bytes - (length bytes - 5)) (drop (length bytes - 5) bytes)
    (omega (arith, length-drop (length bytes - 5) bytes)) in
    let near : n ≤ c.loop-i.i = omega arith in
    let five : 5 ≤ length bytes = omega (arith, sized.0) in
    let far : length bytes ≤ n + (step - 5) + 5 = omega (arith, sized.0) in
    let both = and_parts _ _ c.if-holds.true in
    let told = subst (λ (m : ℕ). ShortBehind piece (m - 5)) long (c.is_short_behind-holds-2.ensures both.1) in
    let before = behind_joined bytes piece c.loop-i.i n (step - 5) step same (omega (arith, sized.0)) near
    (c.loop-i.invariant.behind both.0) told in
    short_to_end bytes _ (n + (step - 5)) last five far (c.loop-i.invariant.front both.0) before
    (c.ends_short.ensures.behind ends) (c.ends_short.ensures.ends ends)
