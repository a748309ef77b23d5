-- What a batch answers to a journal: each entry behind the opening is accepted, under its number.
use Rattle.std.specs.Prelude.{◌≡◌, ℕ, ◌+◌, Bool, List, [], ◌∷◌, ◌++◌, length}
use Rattle.gu_base.specs.House.{House}
use Rattle.gu_base.specs.Runs.{opening_history}
use Rattle.gu_base.specs.declared.entry.Entry.{Entry}
use Rattle.gu_base.specs.declared.entry.Answer.TheVariants.{Accepted}
use Rattle.gu_batch.specs.Output.{stamp}
use Rattle.gu_codec.specs.Messages.{Message}
use Rattle.gu_message.specs.Reply.{answer_reply, message_of}

-- The message, before which a batch has written so many, tells the entry's firm that it is accepted
-- under this number: as a trade report's acknowledgement, or as an instruction's.
abbrev pub Accepts : House → ℕ → ℕ → Entry → Message → Type 0
Accepts t written number e m = (trade : Bool) × (m ≡ message_of (stamp t.house (written + 1))
    (answer_reply e.firm trade e.id (Accepted number e.status)))

-- the messages, one for each entry of the history behind the opening, tell that it is accepted
-- under its number
pub data AcceptsEach (t : House) : List Entry → List Message → Type 0 where
  accepts_none : AcceptsEach t (opening_history t) []
  accepts_next : (h : List Entry) (ms : List Message) (e : Entry) (m : Message) → AcceptsEach t h ms
      → Accepts t (length ms) (length h + 1) e m → AcceptsEach t (h ++ e ∷ []) (ms ++ m ∷ [])
