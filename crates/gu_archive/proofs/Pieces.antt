-- Pieces of what went one way, and their lines.
use Rattle.std.proofs.Common.{◌≡◌, ◌++◌, ◌+◌, ◌<◌, ℕ, List, [], ◌∷◌, Bool, take, drop, refl, sym, ◌∙◌, ap, ap₂}
use Rattle.std.proofs.Common.{arith, subst}
use Rattle.std.proofs.lemmas.List.{append-nil, append_assoc, take-append-drop}
use Rattle.std.proofs.lemmas.Grind.{flat_map-append}
use Rattle.std.proofs.Math.Seq.{take-add}
use Rattle.gu_codec.specs.Fronts.{Garbled, IsFrontOf}
use Rattle.gu_codec.proofs.Streams.{frame_len}
use Rattle.gu_archive.specs.declared.lines.Way.{Way}
use Rattle.gu_archive.specs.Lines.{Text, Piece, piece_line, AppendsSaid}

-- a garbled frame has some bytes
pub garbled_some : (bytes : List ℕ) (len : ℕ) → IsFrontOf bytes (Garbled len) → 0 < len
garbled_some bytes len a = let l = frame_len bytes a.0 len a.1 in omega (arith, l)

-- the bytes of a piece
piece_bytes : Piece → Text
piece_bytes piece = piece.bytes

-- nothing was said
pub said_nothing : (moment : Text) (connection : ℕ) (way : Way) (before : Text)
    → AppendsSaid moment connection way before before []
said_nothing moment connection way before = ([], sym (append-nil before), ([], refl, refl))

-- one piece more
pub said_more : (moment : Text) (connection : ℕ) (way : Way) (before after last bytes piece : Text) (is_plain : Bool)
    → AppendsSaid moment connection way before after bytes
    → last ≡ after ++ piece_line moment connection way (record { bytes = piece; is_plain = is_plain })
    → AppendsSaid moment connection way before last (bytes ++ piece)
said_more moment connection way before after last bytes piece is_plain (lines, a, (pieces, l, b)) e =
    let it : Piece = record { bytes = piece; is_plain = is_plain } in
    let line = piece_line moment connection way in (
      lines ++ line it,
      e ∙ ap (λ (t : Text). t ++ line it) a ∙ append_assoc before lines (line it),
      (
        pieces ++ it ∷ [],
        ap₂ (λ (s t : Text). s ++ t) l (sym (append-nil (line it))) ∙ sym (flat_map-append line pieces (it ∷ [])),
        ap₂ (λ (s t : Text). s ++ t) b (sym (append-nil piece))
            ∙ sym (flat_map-append (λ (p : Piece). p.bytes) pieces (it ∷ [])),
      ),
    )

-- first these bytes, then those
pub said_both : (moment : Text) (connection : ℕ) (way : Way) (before between after first then : Text)
    → AppendsSaid moment connection way before between first → AppendsSaid moment connection way between after then
    → AppendsSaid moment connection way before after (first ++ then)
said_both moment connection way before between after first then (lines, a, (pieces, l, b)) (more, c, (others, m, d)) =
    let line = piece_line moment connection way in (
      lines ++ more,
      c ∙ ap (λ (t : Text). t ++ more) a ∙ append_assoc before lines more,
      (
        pieces ++ others,
        ap₂ (λ (s t : Text). s ++ t) l m ∙ sym (flat_map-append line pieces others),
        ap₂ (λ (s t : Text). s ++ t) b d ∙ sym (flat_map-append (λ (p : Piece). p.bytes) pieces others),
      ),
    )

-- the front of some bytes, and then the rest of them
pub said_all : (moment : Text) (connection : ℕ) (way : Way) (before between after bytes : Text) (n : ℕ)
    → AppendsSaid moment connection way before between (take n bytes)
    → AppendsSaid moment connection way between after (drop n bytes)
    → AppendsSaid moment connection way before after bytes
said_all moment connection way before between after bytes n s t =
    subst (AppendsSaid moment connection way before after) (take-append-drop n bytes)
    (said_both moment connection way before between after (take n bytes) (drop n bytes) s t)

-- a piece behind the front of some bytes
pub said_on : (moment : Text) (connection : ℕ) (way : Way) (before after last bytes : Text) (at len n : ℕ)
    (is_plain : Bool) → n ≡ len → AppendsSaid moment connection way before after (take at bytes)
    → last ≡ after ++ piece_line moment connection way (record { bytes = take n (drop at bytes); is_plain = is_plain })
    → AppendsSaid moment connection way before last (take (at + len) bytes)
said_on moment connection way before after last bytes at len n is_plain same s e =
    subst (AppendsSaid moment connection way before last)
    (ap (λ (m : ℕ). take at bytes ++ take m (drop at bytes)) same ∙ sym (take-add at len bytes))
    (said_more moment connection way before after last (take at bytes) (take n (drop at bytes)) is_plain s e)

-- what is left of the bytes that had waited and those that came waits
pub left_waits : (was bytes all waits : List ℕ) (n : ℕ) → all ≡ was ++ bytes → waits ≡ drop n all
    → was ++ bytes ≡ take n all ++ waits
left_waits was bytes all waits n a w =
    sym (ap (λ (t : List ℕ). take n all ++ t) w ∙ take-append-drop n all ∙ a)
