-- What is written of a group makes a longer journal.
use Rattle.gu_base.specs.declared.entry.Answer.TheVariants.{Accepted}
use Rattle.gu_journal.proofs
use proofs.{Meanings.{call_is, head_is, seal_is}, Playing.{first_eight, one_frame}, Vocabulary.AllByRecursion}
use proofs.Vocabulary.{answer_to, ap, append-nil, append_assoc, arith, call_of, decimal, drop, drop_at, Entry}
use proofs.Vocabulary.{entry_frames, group_frames, group_more, HasNoZero, head_alone, head_frame, head_of, Holds512}
use proofs.Vocabulary.{House, is_firm_text, is_trade, IsBytes, IsGroupBehind, IsGroupOf, IsHead, IsJournal, IsMoment}
use proofs.Vocabulary.{IsNext, IsRunFrom, IsSayableEntry, IsSeal, IsTrue, length, length-append, length-drop, List}
use proofs.Vocabulary.{message_of, message_text, opening_history, refl, Says, says_next, says_none, seal_of, seal_with}
use proofs.Vocabulary.{Sha512, sha512, Some, subst, sym, take, take_all, [], ℕ, ◌++◌, ◌+◌, ◌-◌, ◌<◌, ◌∙◌, ◌∷◌, ◌≡◌, ◌≤◌}
use proofs.Writable.{all_join, call_clear, call_writable, clear_by, clear_join, head_clear, head_writable, IsClear}
use proofs.Writable.{seal_clear, seal_writable}
use Rattle.std.proofs.{lemmas.List.Elements.All-from_recursion, Math.Seq.take-add}

-- ---- as bytes

-- no byte of the entries' frames is zero
entries_clear : (house moment : List ℕ) (n : ℕ) (es : List Entry) → IsTrue (is_firm_text house) → IsClear moment
    → AllByRecursion IsSayableEntry es → IsClear (entry_frames house moment n es)
entries_clear house moment n [] named sent ok = tt
entries_clear house moment n (e ∷ es) named sent ok =
    clear_join (message_text (message_of house moment n (call_of e))) (entry_frames house moment (n + 1) es)
    (call_clear house moment n (call_of e) named sent ok.0) (entries_clear house moment (n + 1) es named sent ok.1)

none_zero : (bytes : List ℕ) → IsClear bytes → HasNoZero bytes
none_zero bytes clear = All-from_recursion (λ b. 0 < b) bytes clear

pub head_no_zero : (house moment : List ℕ) (n : ℕ) (pin : List ℕ) → IsTrue (is_firm_text house) → IsMoment moment
    → IsBytes pin → HasNoZero (head_frame house moment n pin)
head_no_zero house moment n pin named is_moment bytes =
    none_zero (head_frame house moment n pin)
    (head_clear house moment n pin named (clear_by moment is_moment.clear) bytes)

-- and the head's frame is something
pub head_some : (house moment : List ℕ) (n : ℕ) (pin : List ℕ) → 0 < length (head_frame house moment n pin)
head_some house moment n pin =
    let some = first_eight (head_of house moment n pin) in omega (arith, ap length some.1)

-- ---- as a journal

-- each entry behind these is what the rules accept after those before it
abbrev Runs : House → List Entry → List Entry → Type 0
Runs t h es = (before after : List Entry) (e : Entry) → h ++ es ≡ before ++ e ∷ after → length h ≤ length before
    → answer_to t before (call_of e) ≡ Accepted (length before + 1) e.status

module _ (t : House) (named : IsTrue (is_firm_text t.house)) (moment : List ℕ) (is_moment : IsMoment moment) where
  next_is : (h : List Entry) (e : Entry) (n : ℕ) → n ≡ length h + 1 → n ≤ 1000001 → IsSayableEntry e
      → answer_to t h (call_of e) ≡ Accepted (length h + 1) e.status
      → IsNext t h e (message_of t.house moment n (call_of e))
  next_is h e n n_is few ok accepted = record {
    trade = is_trade e.command;
    meaning = call_is t.house moment n (call_of e) (omega (arith, n_is)) (omega (arith, few)) is_moment.timestamp ok;
    accepted = accepted;
    number = ap (λ (k : ℕ). Some (decimal k)) n_is;
  }

  says_more : (h0 : List Entry) (bytes : List ℕ) (h es : List Entry) (n : ℕ) → Says t h0 bytes h → n ≡ length h + 1
      → n + length es ≤ 1000001
      → AllByRecursion IsSayableEntry es → Runs t h es → Says t h0 (bytes ++ entry_frames t.house moment n es) (h ++ es)
  says_more h0 bytes h [] n says n_is few ok runs =
      rw (append-nil bytes, append-nil h) says
  says_more h0 bytes h (e ∷ es) n says n_is few ok runs =
      let m = message_of t.house moment n (call_of e) in
      let frame = message_text m in
      let writable = call_writable t.house moment n (call_of e) named (omega (arith, few)) is_moment.text ok.0 in
      let one = says_next bytes frame h e m says (one_frame m writable)
      (next_is h e n n_is (omega (arith, few)) ok.0 (runs h es e refl (omega arith))) in
      let more : (h ++ e ∷ []) ++ es ≡ h ++ e ∷ es = append_assoc h (e ∷ []) es in
      let longer : length (h ++ e ∷ []) ≡ length h + 1 = omega (arith, length-append h (e ∷ [])) in
      let all = says_more h0 (bytes ++ frame) (h ++ e ∷ []) es (n + 1) one (omega (arith, n_is, longer))
      (omega (arith, few)) ok.1 (λ before after x split le. runs before after x (sym more ∙ split) (omega arith)) in
      rw (append_assoc bytes frame (entry_frames t.house moment (n + 1) es), more) at all

  -- what is written is a group behind the bytes
  pub group_is : (bytes : List ℕ) (h es : List Entry) (n : ℕ) → n ≡ length h + 1 → n + length es ≤ 1000001
      → AllByRecursion IsSayableEntry es → IsRunFrom t h (h ++ es)
      → IsGroupBehind t bytes h (group_frames t.house moment n es bytes) (h ++ es)
  group_is bytes h es n n_is few ok run =
      let entries = entry_frames t.house moment n es in
      let next = n + length es in
      let m = seal_of t.house moment next (bytes ++ entries) n in
      let says : Says t h entries (h ++ es) = says_more h [] h es n says_none n_is few ok
      (λ before after e. run.accepted before after e) in
      let seal : IsSeal t (bytes ++ entries) (h ++ es) m = record {
        meaning = seal_is t.house moment next named (omega (arith, n_is)) (omega (arith, few)) is_moment.timestamp
            (bytes ++ entries) n;
        number = ap (λ (k : ℕ). Some (decimal k)) (omega (arith, n_is, length-append h es));
        digest = refl;
      } in
      let writable = seal_writable t.house moment next (bytes ++ entries) n named (omega (arith, few))
      (omega (arith, few)) is_moment.text in
      let one = one_frame m writable in
      record { entries = entries; frame = message_text m; m = m; parts = refl; says = says; one = one; seal = seal }

  -- and with it the journal grows
  pub grows : (pin bytes : List ℕ) (h es : List Entry) (n : ℕ) → IsJournal t pin bytes h → n ≡ length h + 1
      → n + length es ≤ 1000001
      → AllByRecursion IsSayableEntry es → IsRunFrom t h (h ++ es)
      → IsJournal t pin (bytes ++ group_frames t.house moment n es bytes) (h ++ es)
  grows pin bytes h es n journal n_is few ok run =
      let g = group_is bytes h es n n_is few ok run in
      rw (g.parts, ← append_assoc)
      (group_more bytes g.entries g.frame h (h ++ es) g.m journal g.says g.one g.seal)

  -- a journal begins with its head
  pub begins : (pin : List ℕ) (n : ℕ) → length pin ≡ 32 → n ≡ length (opening_history t) + 1 → n ≤ 1000001
      → IsJournal t pin (head_frame t.house moment n pin) (opening_history t)
  begins pin n size n_is few =
      let m = head_of t.house moment n pin in
      let head : IsHead t pin m = record {
        meaning = head_is t.house moment n named (omega (arith, n_is)) (omega (arith, few)) is_moment.timestamp pin;
        number = ap (λ (k : ℕ). Some (decimal k)) n_is;
        version = refl;
        digest = refl;
      } in
      head_alone (message_text m) m (one_frame m (head_writable t.house moment n pin named
      (omega (arith, few)) is_moment.text size)) head

-- ---- steps of the code

-- one more
pub all_more : {A : Type 0} (p : A → Type 0) (xs : List A) (i : ℕ) (x : A) (rest : List A) → drop i xs ≡ x ∷ rest
    → AllByRecursion p (take i xs) → p x → AllByRecursion p (take (i + 1) xs)
all_more p xs i x rest is all ok =
    subst (λ l. AllByRecursion p l) (sym (take-add i 1 xs ∙ (λ k. take i xs ++ take 1 (is k))))
    (all_join p (take i xs) (x ∷ []) all (ok, tt))

-- one entry more is written
pub one_more : (house moment : List ℕ) (n m : ℕ) (e : Entry) (later : List Entry) (old new all : List ℕ)
    → old ++ entry_frames house moment n (e ∷ later) ≡ all
    → new ≡ old ++ message_text (message_of house moment n (call_of e)) → m ≡ n + 1
    → new ++ entry_frames house moment m later ≡ all
one_more house moment n m e later old new all so_far is next =
    let text = message_text (message_of house moment n (call_of e)) in
    ap (λ (t : List ℕ). t ++ entry_frames house moment m later) is
    ∙ ap (λ (k : ℕ). (old ++ text) ++ entry_frames house moment k later) next
    ∙ append_assoc old text (entry_frames house moment (n + 1) later) ∙ so_far

-- the group is written, and the hasher has taken it in
pub is_group_of : (house moment : List ℕ) (n : ℕ) (es : List Entry) (old one new : Sha512)
    (frames text slice digest : List ℕ) (at : ℕ)
    → IsTrue (is_firm_text house) → IsMoment moment → IsBytes digest → AllByRecursion IsSayableEntry es
    → n + length es ≤ 1000001
    → frames ≡ entry_frames house moment n es
    → ((m : List ℕ) → Holds512 old m → Holds512 one (m ++ frames))
    → ((m : List ℕ) → Holds512 one m → digest ≡ sha512 m)
    → text ≡ frames ++ message_text (seal_with house moment (n + length es) digest n)
    → slice ≡ text → at ≡ length frames
    → ((m : List ℕ) → Holds512 one m → Holds512 new (m ++ take (length slice - at) (drop at slice)))
    → IsGroupOf house moment n es old new text
is_group_of house moment n es old one new frames text slice digest at named is_moment bytes sayable few frames_is first
    digest_is text_is slice_is at_is second =
    let next = n + length es in
    let seal = message_text (seal_with house moment next digest n) in
    let entries = entry_frames house moment n es in
    let all : slice ≡ frames ++ seal = slice_is ∙ text_is in
    let whole : text ≡ entries ++ seal = rw frames_is at text_is in
    let sent = clear_by moment is_moment.clear in
    let some = first_eight (seal_with house moment next digest n) in
    let rest : take (length slice - at) (drop at slice) ≡ seal =
    take_all (length slice - at) (drop at slice) (omega (arith, length-drop at slice))
    ∙ ap (drop at) all ∙ drop_at frames seal at (sym at_is) in
    let sealed_of : (bytes : List ℕ) → Holds512 old bytes → entries ++ seal ≡ group_frames house moment n es bytes =
    λ bytes h. ap (λ (d : List ℕ). entries ++ message_text (seal_with house moment next d n))
    (rw frames_is at (digest_is (bytes ++ frames) (first bytes h))) in
    record {
      some = omega (arith, ap length whole, length-append entries seal, ap length some.1);
      no_zero = rw whole (none_zero (entries ++ seal) (clear_join entries seal
          (entries_clear house moment n es named sent sayable)
          (seal_clear house moment next digest n named sent bytes)));
      named = named;
      sayable = sayable;
      few = few;
      group = λ bytes h. whole ∙ sealed_of bytes h;
      hashed = λ bytes h. rw (rest, append_assoc bytes frames seal, frames_is, sealed_of bytes h)
          at (second (bytes ++ frames) (first bytes h));
    }
