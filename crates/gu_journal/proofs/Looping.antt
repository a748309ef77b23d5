-- The frames at the front of a file are taken, a piece at a time.
use Rattle.gu_journal.proofs.Vocabulary.{All-nil, ap, append-nil, append_assoc, arith, at_from_reads, BookView, Bool}
use Rattle.gu_journal.proofs.Vocabulary.{counted, counted_behind, drop, drop_at, end_of, Finds, Fresh, Gains, get_or}
use Rattle.gu_journal.proofs.Vocabulary.{Goes, HasNoZero, Held, Holds512, House, inl, inr, IsTrue, IsZeroAt, length}
use Rattle.gu_journal.proofs.Vocabulary.{length-append, length-drop, length-take, List, OnlyReads, opening_history}
use Rattle.gu_journal.proofs.Vocabulary.{refl, Replay, Replays, subst, suc, sym, take, take-append-drop, take_at, zero}
use Rattle.gu_journal.proofs.Vocabulary.{[], ℕ, ◌++◌, ◌+◌, ◌<◌, ◌∙◌, ◌∷◌, ◌≡◌, ◌⊎◌}
use Rattle.gu_journal.specs.{declared.file.Met.TheVariants.Taken, Recovered.Meets}
use Rattle.std.proofs.lemmas.List.Elements.{All-append, All-take}

-- ---- the loop

pub none_front : (a b : List ℕ) → HasNoZero (a ++ b) → HasNoZero a
none_front a b x = subst HasNoZero (take_at a b (length a) refl) (All-take (λ n. 0 < n) (length a) (a ++ b) x)

-- the byte behind the front
get_behind : (front : List ℕ) (x : ℕ) (rest : List ℕ) (n : ℕ) → n ≡ length front
    → get_or (front ++ suc x ∷ rest) n 0 ≡ suc x
get_behind [] x rest n is = ap (λ (k : ℕ). get_or (suc x ∷ rest) k 0) is
get_behind (b ∷ front) x rest n is =
    ap (λ (k : ℕ). get_or (b ∷ (front ++ suc x ∷ rest)) k 0) is ∙ get_behind front x rest (length front) refl

module _ {file pin : List ℕ} {start : ℕ} {t : House} where
  -- a frame at the front is taken
  pub goes_taken : {clean : Bool} {size : ℕ} {w : Held} {n : ℕ} {old new : Replay} {before after : BookView}
      → Goes clean file start size t pin w old before
      → Meets pin w.bytes w.at old before new after (Taken n) → Goes clean file start size t pin
      (record { at = w.at + n; bytes = drop n w.bytes }) new after
  goes_taken {w = w} {n = n} g m =
      let frame = take n w.bytes in
      let r = m.2 t g.taken g.at g.replays in
      let joined : g.taken ++ w.bytes ≡ (g.taken ++ frame) ++ drop n w.bytes =
      rw (append_assoc, take-append-drop n w.bytes) refl in
      record {
        taken = g.taken ++ frame;
        replays = r;
        at = omega (arith, g.at, length-append g.taken frame, length-take n w.bytes, m.1);
        within = omega (arith, g.within, m.1, length-drop n w.bytes);
        fewer = g.fewer;
        no_zero = subst HasNoZero joined g.no_zero;
        read = λ c. let read = g.read c in (read.0, rw joined at read.1);
        bound = g.bound;
      }

  -- a piece more is read
  pub goes_filled : {was is : Bool} {size less : ℕ} {w new : Held} {r : Replay} {b : BookView}
      → Goes was file start size t pin w r b → Gains is file size less w new
      → (IsTrue is → IsTrue was) → Goes is file start less t pin new r b
  goes_filled {is = is} {size = size} {less = less} {w = w} {r = r} {b = b} g a falls =
      let joined : (g.taken ++ w.bytes) ++ a.piece ≡ g.taken ++ (w.bytes ++ a.piece) =
      append_assoc g.taken w.bytes a.piece in
      rw a.added (record {
        taken = g.taken;
        replays = g.replays;
        at = g.at;
        within = omega (arith, a.within, length-append w.bytes a.piece);
        fewer = omega (arith, g.fewer, a.fewer);
        no_zero = subst HasNoZero joined (All-append (λ n. 0 < n) (g.taken ++ w.bytes) a.piece g.no_zero a.no_zero);
        read = λ c. more c (g.read (falls c));
        bound = λ c. elim (a.bound c) [
          | inl same ↦ elim (g.bound (falls c)) [
            | inl first ↦ inl (same ∙ first)
            | inr there ↦ inr (rw same there)
          ]
          | inr there ↦ inr there
        ];
      })
    where
      more : IsTrue is → ((rest : List ℕ) × (file ≡ (g.taken ++ w.bytes) ++ rest)) → (rest : List ℕ)
          × (file ≡ (g.taken ++ (w.bytes ++ a.piece)) ++ rest)
      more c read =
          let front = g.taken ++ w.bytes in
          let place : length front ≡ end_of w = omega (arith, g.at, length-append g.taken w.bytes) in
          let behind : drop (end_of w) file ≡ read.0 =
          ap (drop (end_of w)) read.1 ∙ drop_at front read.0 (end_of w) place in
          let holds = a.there c in
          let rest = drop (end_of w + length a.piece) file in
          let found : drop (end_of w) file ≡ a.piece ++ rest =
          at_from_reads 0 file a.piece (end_of w) holds.within holds.each in
          let on : read.0 ≡ a.piece ++ rest = sym behind ∙ found in
          (rest, simp append_assoc (simp append_assoc at (rw on at read.1)))

  -- Nothing is left to be read: what counts is what was taken and what is held.
  pub finds_counted : {clean : Bool} {size : ℕ} {w : Held} {r : Replay} {b : BookView}
      → (f : Finds clean file start size t pin w r b) → (IsTrue clean → start ≡ length file) → IsTrue clean
      → counted file ≡ f.goes.taken ++ w.bytes
  finds_counted {size = size} {w = w} f all c =
      let g = f.goes in
      let read = g.read c in
      let front = g.taken ++ w.bytes in
      let place : size ≡ length front = omega (arith, f.all, g.within, g.at, length-append g.taken w.bytes) in
      ap counted read.1 ∙ counted_behind front read.0 g.no_zero
      ∙ ap (λ (l : List ℕ). front ++ l) (ends read.0 place read.1 (g.bound c)) ∙ append-nil front
    where
      ends : (rest : List ℕ) → size ≡ length (f.goes.taken ++ w.bytes) → file ≡ (f.goes.taken ++ w.bytes) ++ rest
          → ((size ≡ start) ⊎ IsZeroAt file size) → counted rest ≡ []
      ends [] place is bound = refl
      ends (zero ∷ rest) place is bound = refl
      ends (suc x ∷ rest) place is (inl same) = absurd (omega (arith, all c, ap length is, length-append {A = ℕ}))
      ends (suc x ∷ rest) place is (inr there) =
          let at : get_or file size 0 ≡ suc x = rw is (get_behind (f.goes.taken ++ w.bytes) x rest size place) in
          absurd (omega (arith, at, there.1))

-- before the first frame
pub nothing_taken : {t : House} {pin : List ℕ} {r : Replay} {b : BookView} → b.house ≡ t → r.stand ≡ Fresh
    → r.sealed ≡ 0 → Holds512 r.hasher [] → b.history ≡ opening_history t → Replays t pin [] r b
nothing_taken house fresh none empty opening = record {
  house = house;
  stands = rw fresh (refl, opening);
  sealed = rw fresh none;
  hashed = empty;
}

pub goes_first : {clean : Bool} {file pin : List ℕ} {size : ℕ} {t : House} {r : Replay} {b : BookView}
    → Replays t pin [] r b → Goes clean file size size t pin (record { at = 0; bytes = [] }) r b
goes_first {file = file} is = record {
  taken = [];
  replays = is;
  at = refl;
  within = omega arith;
  fewer = omega arith;
  no_zero = All-nil (λ n. 0 < n);
  read = λ c. (file, refl);
  bound = λ c. inl refl;
}

module _ {D : Type 0} {seen : D → List ℕ} {may_leave : D → List ℕ → Type 0} {is_usable is_clean : D → Bool} where
  -- one reading of the disk after another
  pub reads_on : {a b c : D} → OnlyReads seen may_leave is_usable is_clean a b
      → OnlyReads seen may_leave is_usable is_clean b c → OnlyReads seen may_leave is_usable is_clean a c
  reads_on one two = record {
    same = two.same ∙ one.same;
    usable = two.usable;
    clean = λ h. one.clean (two.clean h);
    crash = λ x left. one.crash x (two.crash x left);
  }
