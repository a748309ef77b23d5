-- Frames taken from bytes that are held.
use Rattle.std.proofs.Common.{◌≡◌, ℕ, ◌<◌, ◌≤◌, inl, inr, length, drop, Option, Some, None, subst}
use Rattle.std.proofs.Common.{ap, ◌∙◌, arith, length-drop}
use Rattle.std.specs.Prelude.{option_map}
use Rattle.std.proofs.lemmas.Bool.{cases_Bool}
use Rattle.gu_codec.specs.Answer.{settled}
use Rattle.gu_codec.specs.Fields.{are_fields}
use Rattle.gu_codec.specs.Next.{NextOf, NextAnswers, after as next_after}
use Rattle.gu_codec.specs.Stream.{Stream}
use Rattle.gu_codec.specs.declared.fields.Fields.{Fields}
use Rattle.gu_codec.specs.declared.frame.Frame.{Frame}
use Rattle.gu_codec.specs.declared.frame.Frame.TheVariants.{Whole, Garbled}
use Rattle.gu_codec.proofs.Streams.{frame_len}

-- the answer of an unbroken feed, and what it leaves
answer_of : (f h : Stream) (r q : Option Frame) → f.broken ≡ None → NextAnswers f (option_map settled r)
    → h ≡ next_after f r → r ≡ q → NextOf None f (option_map settled q) × (h ≡ next_after f q)
answer_of f h r q e a k w = (
  subst (λ (o : Option Frame). NextOf None f (option_map settled o)) w
      (subst (λ (b : Option ℕ). NextOf b f (option_map settled r)) e a),
  subst (λ (o : Option Frame). h ≡ next_after f o) w k,
)

-- how long a frame is whose body wasn't looked at
sealed_len : (g : Stream) (fields : Fields) (len : ℕ) → NextOf None g (Some (settled (Whole fields len)))
    → (0 < len) × (len ≤ length g.held)
sealed_len g fields len a = elim (cases_Bool (are_fields fields.rest.now)) [
  | inl y ↦
      let good : NextOf None g (Some (Whole fields len)) = rw y at a in
      let l = frame_len g.held good.0 len good.1 in
      (omega (arith, l), good.1.within)
  | inr n ↦
      let garbled : NextOf None g (Some (Garbled len)) = rw n at a in
      let l = frame_len g.held garbled.0 len garbled.1 in
      (omega (arith, l), garbled.1.within)
]

-- what a whole frame leaves
pub whole_left : (f h : Stream) (r : Option Frame) (fields : Fields) (len : ℕ) → f.broken ≡ None
    → NextAnswers f (option_map settled r) → h ≡ next_after f r → r ≡ Some (Whole fields len)
    → (length h.held < length f.held) × (h.broken ≡ None)
whole_left f h r fields len e a k w =
    let all = answer_of f h r (Some (Whole fields len)) e a k w in
    let l = sealed_len f fields len all.0 in
    let new : length h.held ≡ length (drop len f.held) = ap (λ (s : Stream). length s.held) all.1 in
    (omega (arith, new, l.0, l.1, length-drop len f.held), ap (λ (s : Stream). s.broken) all.1 ∙ e)

-- what a garbled one leaves
pub garbled_left : (f h : Stream) (r : Option Frame) (len : ℕ) → f.broken ≡ None
    → NextAnswers f (option_map settled r) → h ≡ next_after f r → r ≡ Some (Garbled len)
    → (length h.held < length f.held) × (h.broken ≡ None)
garbled_left f h r len e a k w =
    let all = answer_of f h r (Some (Garbled len)) e a k w in
    let l = frame_len _ _ _ all.0.1 in
    let new : length h.held ≡ length (drop len f.held) = ap (λ (s : Stream). length s.held) all.1 in
    (omega (arith, new, l, all.0.1.within, length-drop len f.held), ap (λ (s : Stream). s.broken) all.1 ∙ e)
