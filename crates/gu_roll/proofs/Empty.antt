-- Of an empty file a start gives the opening.
use Rattle.std.proofs.Common.{◌≡◌, inl, inr, ℕ, ◌<◌, ◌≤◌, List, [], ◌++◌, length, arith, ap, length-append}
use Rattle.gu_base.specs.House.{House}
use Rattle.gu_base.specs.Runs.{opening_history}
use Rattle.gu_base.specs.declared.entry.Entry.{Entry}
use Rattle.gu_codec.specs.Messages.{Message}
use Rattle.gu_codec.proofs.Streams.{frame_len}
use Rattle.gu_journal.specs.Counting.{Recovers}
use Rattle.gu_journal.specs.Journal.{IsOneFrame, IsJournal, head_alone, group_more}

frame_some : (frame : List ℕ) (m : Message) → IsOneFrame frame m → 0 < length frame
frame_some frame m one =
    let some : 21 ≤ length frame = frame_len frame one.0 (length frame) one.1 in omega (arith, some)

journal_some : (t : House) (pin bytes : List ℕ) (h : List Entry) → IsJournal t pin bytes h → 0 < length bytes
journal_some t pin _ _ (head_alone frame m one head) = frame_some frame m one
journal_some t pin _ _ (group_more bytes entries frame h new m journal says one seal) =
    omega (arith, frame_some frame m one, length-append (bytes ++ entries) frame)

pub empty_opens : (t : House) (pin : List ℕ) (h : List Entry) → Recovers t pin [] h → h ≡ opening_history t
empty_opens t pin h is = elim is.there [
  | inl stands ↦ absurd (omega (
    arith,
    journal_some t pin stands.0 h stands.1,
    ap length stands.2.1,
    length-append stands.0 stands.2.0,
  ))
  | inr opening ↦ opening
]
