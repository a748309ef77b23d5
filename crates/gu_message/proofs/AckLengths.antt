-- How many bytes the body of an answer has.
use Rattle.std.proofs.Common.{◌≡◌, ◌∙◌, ◌+◌, ◌⊎◌, inl, inr, ℕ, List, length, ap, sym}
use Rattle.std.specs.Prelude.{decimal}
use Rattle.gu_base.specs.Texts.{refusal_text}
use Rattle.gu_base.specs.declared.refusal.Refusal.{Refusal}
use Rattle.gu_base.specs.declared.state.State.{State}
use Rattle.gu_base.specs.declared.entry.Answer.{Answer}
use Rattle.gu_base.specs.declared.entry.Answer.TheVariants.{Accepted, Repeated, Refused}
use Rattle.gu_codec.specs.Writing.{fields_text}
use Rattle.gu_life.specs.Status.{code_of}
use Rattle.gu_message.specs.AllocationAck.{ack_fields}
use Rattle.gu_message.specs.TradeReportAck.{trade_ack_fields}
use Rattle.gu_message.proofs.Joined.{instruction_len, refused_instruction_len, trade_len, refused_trade_len}

-- of an instruction that was accepted, now or before
pub accepted_len : (id : List ℕ) (a : Answer) (n : ℕ) (s : State) → (a ≡ Accepted n s) ⊎ (a ≡ Repeated n s)
    → length id + length (decimal n) + length (decimal (code_of s)) + 13 ≡ length (fields_text (ack_fields id a))
accepted_len id a n s (inl e) =
    instruction_len id (decimal n) (decimal (code_of s))
    ∙ ap (λ (b : Answer). length (fields_text (ack_fields id b))) (sym e)
accepted_len id a n s (inr e) =
    instruction_len id (decimal n) (decimal (code_of s))
    ∙ ap (λ (b : Answer). length (fields_text (ack_fields id b))) (sym e)

-- of one that is refused
pub refused_len : (id : List ℕ) (a : Answer) (r : Refusal) → a ≡ Refused r
    → length id + length (refusal_text r) + 13 ≡ length (fields_text (ack_fields id a))
refused_len id a r e =
    refused_instruction_len id (refusal_text r) ∙ ap (λ (b : Answer). length (fields_text (ack_fields id b))) (sym e)

-- of a trade report that was accepted, now or before
pub accepted_trade_len : (id : List ℕ) (a : Answer) (n : ℕ)
    → ((s : State) × a ≡ Accepted n s) ⊎ ((s : State) × a ≡ Repeated n s)
    → length id + length (decimal n) + 21 ≡ length (fields_text (trade_ack_fields id a))
accepted_trade_len id a n (inl e) =
    trade_len id (decimal n) ∙ ap (λ (b : Answer). length (fields_text (trade_ack_fields id b))) (sym e.1)
accepted_trade_len id a n (inr e) =
    trade_len id (decimal n) ∙ ap (λ (b : Answer). length (fields_text (trade_ack_fields id b))) (sym e.1)

-- of one that is refused
pub refused_report_len : (id : List ℕ) (a : Answer) (r : Refusal) → a ≡ Refused r
    → length id + length (refusal_text r) + 15 ≡ length (fields_text (trade_ack_fields id a))
refused_report_len id a r e =
    refused_trade_len id (refusal_text r) ∙ ap (λ (b : Answer). length (fields_text (trade_ack_fields id b))) (sym e)
