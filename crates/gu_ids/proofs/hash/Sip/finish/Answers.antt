use Rattle.std.proofs.Common.{◌≡◌, ℕ, sym, ◌∙◌, ap}
use Rattle.std.specs.Prelude.{◌*◌, ◌%◌, ◌^◌, bit_and, bit_or, bit_xor}
use Rattle.std.specs.Hash.DefaultHasher.{finish, round}
use Rattle.std.specs.declared.hash.DefaultHasher.{DefaultHasher}
use Rattle.gu_ids.specs.declared.hash.Sip.{Sip}
use Rattle.gu_ids.specs.Hashing.{hasher_at, turned, taken, finished}
use Rattle.gu_ids.proofs.SipSteps.{round_at, write_word_at}
use Rattle.gu_ids.proofs.hash.Sip.finish.Goals as goal

-- the last three rounds begin here, and this is what is made of their end
abbrev closed : Sip → Sip
closed s = record { v0 = s.v0; v1 = s.v1; v2 = bit_xor s.v2 255; v3 = s.v3 }

abbrev marked : DefaultHasher → DefaultHasher
marked h = record { v0 = h.v0; v1 = h.v1; v2 = bit_xor h.v2 255; v3 = h.v3; tail = h.tail; length = h.length }

abbrev joined : DefaultHasher → ℕ
joined h = bit_xor (bit_xor (bit_xor h.v0 h.v1) h.v2) h.v3

abbrev joined_state : Sip → ℕ
joined_state s = bit_xor (bit_xor (bit_xor s.v0 s.v1) s.v2) s.v3

abbrev last_word : ℕ → ℕ → ℕ
last_word tail count = bit_or ((bit_and count 255 * 2 ^ 56) % 2 ^ 64) tail

steps : (s : Sip) (tail count : ℕ)
    → finished s tail count ≡ joined_state (turned (turned (turned (closed (taken s (last_word tail count))))))
unfolding finish
steps s tail count =
    let all = taken s (last_word tail count) in
    ap (λ h. joined (round (round (round (marked h))))) (write_word_at s tail count (last_word tail count))
    ∙ (ap (λ h. joined (round (round h))) (round_at (closed all) tail count)
    ∙ (ap (λ h. joined (round h)) (round_at (turned (closed all)) tail count)
    ∙ ap joined (round_at (turned (turned (closed all))) tail count)))

pub returns : goal.returns
returns c =
    ap joined_state
    (c.turn-end.ensures
    ∙ (ap turned c.turn-2.ensures
    ∙ ap (λ s. turned (turned s)) (c.turn.ensures ∙ ap (λ s. turned (closed s)) c.take-all.ensures)))
    ∙ sym (steps c.args.self c.args.tail c.args.count)
