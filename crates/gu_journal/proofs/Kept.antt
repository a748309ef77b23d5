-- What a crash leaves of a journal at rest is read as the history that it keeps, and a start answers it.
use Rattle.gu_codec.specs.Messages.{Broken}
use Rattle.gu_journal.proofs.{Playing.{history_is, shut_ends}, Standing.journal_recovers, Vocabulary.{ap, append-nil}}
use Rattle.gu_journal.proofs.Vocabulary.{arith, counted, counts, disk_of, Entry, history_of, House, IsJournal, IsPart}
use Rattle.gu_journal.proofs.Vocabulary.{Journal, Keeps, length, length-append, length-replicate, List, Recovers, refl}
use Rattle.gu_journal.proofs.Vocabulary.{Stands, suc, sym, zero, zeros, [], ℕ, ◌++◌, ◌<◌, ◌∙◌, ◌∷◌, ◌≡◌}

-- with a zero behind it a journal is read as its history
pub zero_says : (t : House) (pin bytes more file : List ℕ) (h : List Entry) → IsJournal t pin bytes h
    → file ≡ bytes ++ 0 ∷ more → history_of t file ≡ h
zero_says t pin bytes more file h journal is =
    ap (history_of t) is
    ∙ history_is t pin bytes (0 ∷ more) h (Broken (length bytes)) journal
    (shut_ends (length bytes) 0 more (λ e. absurd (omega (arith, e))))

-- zeros begin with one
some_zeros : (n : ℕ) → 0 < n → (more : List ℕ) × (zeros n ≡ 0 ∷ more)
some_zeros zero some = absurd (omega (arith, some))
some_zeros (suc n) some = (zeros n, refl)

module _ {D : Type 0} (seen : D → List ℕ) (may_leave : D → List ℕ → Type 0) (t : House) (pin : List ℕ)
    (h : List Entry) (j : Journal D) (k : Keeps seen may_leave t pin h j) (c : List ℕ)
    (left : may_leave (disk_of j) c) where
  kept_file : c ≡ k.bytes ++ zeros j.store.left
  kept_file = k.file.durable c left ∙ k.file.file

  pub kept_says : history_of t c ≡ h
  kept_says =
      let zero = some_zeros j.store.left k.file.some in
      zero_says t pin k.bytes zero.0 c h k.is_journal (kept_file ∙ ap (λ (l : List ℕ). k.bytes ++ l) zero.1)

  kept_counted : counted c ≡ k.bytes
  kept_counted = counts k.bytes c j.store.left k.file.no_zero k.file.some ([], kept_file ∙ sym (append-nil _))

  pub kept_stands : Stands t pin c h
  kept_stands = (k.bytes, k.is_journal, ([], kept_counted ∙ sym (append-nil k.bytes)))

  pub kept_starts : Recovers t pin c h
  kept_starts = journal_recovers t pin k.bytes c h k.is_journal kept_counted

  pub kept_part : IsPart t pin c
  kept_part = record {
    zero =
        let zeros_len = length-replicate {A = ℕ} j.store.left 0 in
        omega (arith, k.file.some, ap length kept_counted, ap length kept_file, length-append {A = ℕ});
    bytes = k.bytes;
    h = h;
    journal = k.is_journal;
    begins = ([], sym kept_counted ∙ sym (append-nil (counted c)));
    stands = (h, kept_stands);
  }
