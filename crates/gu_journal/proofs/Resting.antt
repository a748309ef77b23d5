-- A journal over a file that was settled.
use Rattle.gu_store.specs.Store as store
use Rattle.gu_journal.proofs.{Groups.begins, Standing.{all_stand, head_starts, journal_recovers, journal_some}}
use Rattle.gu_journal.proofs.{Standing.settled_alike, Vocabulary.{All-nil, ap, append-nil, arith, BookView, Bool}}
use Rattle.gu_journal.proofs.Vocabulary.{counted, counts, Entry, false, HasNoZero, head_frame, Holds512, House}
use Rattle.gu_journal.proofs.Vocabulary.{is_firm_text, IsAtRest, IsCounted, IsJournal, IsLeft, IsMoment, IsPart, IsTrue}
use Rattle.gu_journal.proofs.Vocabulary.{Journal, Keeps, length, length-append, length-replicate, List, Only}
use Rattle.gu_journal.proofs.Vocabulary.{opening_history, Recovers, refl, Rest, Settles, Sha512, Stands, StartsAlike}
use Rattle.gu_journal.proofs.Vocabulary.{StillHas, sym, true, zeros, [], ℕ, ◌++◌, ◌+◌, ◌<◌, ◌∙◌, ◌≡◌, ◌≤◌}
use Rattle.gu_journal.specs.Recovered.{IsBare, Rests}
use Rattle.gu_store.specs.declared.store.Store.{Store}

-- what counts in a file at rest
pub rest_counted : (taken c : List ℕ) (left : ℕ) → HasNoZero taken → 0 < left → c ≡ taken ++ zeros left
    → counted c ≡ taken
rest_counted taken c left none some is =
    counts taken c left none some ([], is ∙ sym (append-nil (taken ++ zeros left)))

module _ {D : Type 0} {seen : D → List ℕ} {may_leave : D → List ℕ → Type 0} where
  -- ---- a file with nothing but zeros

  module _ {t : House} {disk : D} {left number : ℕ} {old : Sha512} {house : List ℕ}
      (b : IsBare seen may_leave t disk left old house number) where
    -- the store over it
    pub bare_rest : {s : Store D} → store.disk_of s ≡ disk → store.end_of s ≡ 0 → store.left_of s ≡ left
        → IsAtRest seen may_leave s []
    bare_rest same end same_left = record {
      file = ap seen same ∙ b.file ∙ ap zeros (sym same_left);
      end = end;
      some = omega (arith, b.some, same_left);
      no_zero = All-nil (λ n. 0 < n);
      durable = rw same b.durable;
    }

    module _ {pin moment : List ℕ} (is_moment : IsMoment moment) (named : IsTrue (is_firm_text house))
        (size : length pin ≡ 32) (few : number ≤ 1000001) where
      -- the journal that its head begins
      head_journal : IsJournal t pin (head_frame house moment number pin) (opening_history t)
      head_journal = rw b.named (begins t (rw b.named at named) moment is_moment pin number size b.numbered few)

      pub keeps_begun : {hasher : Sha512} {s : Store D} {j : Journal D}
          → IsAtRest seen may_leave s (head_frame house moment number pin)
          → Holds512 hasher (head_frame house moment number pin)
          → j.store ≡ s → j.house ≡ house → j.next ≡ number → j.hasher ≡ hasher
          → Keeps seen may_leave t pin (opening_history t) j
      keeps_begun rest hashed same_store same_house same_next same_hasher = record {
        bytes = head_frame house moment number pin;
        file = rw same_store rest;
        is_journal = head_journal;
        house = same_house ∙ b.named;
        next = same_next ∙ b.numbered;
        hashed = rw same_hasher hashed;
      }

      -- what a crash leaves of it, while its head is written
      pub crash_begun : {c : List ℕ} → IsLeft [] (head_frame house moment number pin) c
          → Recovers t pin c (opening_history t)
      crash_begun {c} cut = head_starts t pin (head_frame house moment number pin) c head_journal cut

  -- ---- a file at rest

  module _ {t : House} {pin taken house : List ℕ} {h : List Entry} {disk : D} {rest : Rest} {number : ℕ}
      (r : Rests seen may_leave t pin h taken disk rest house number) where
    pub bare_of : rest.is_new ≡ true
        → IsBare seen may_leave t disk rest.left rest.hasher house number × (h ≡ opening_history t)
    bare_of is =
        let new : IsCounted t pin taken h true = rw is at r.says in
        let bare : IsBare seen may_leave t disk rest.left rest.hasher house number = record {
          file = rw new.0 at r.file;
          durable = r.durable;
          some = r.some;
          hashed = rw new.0 at r.hashed;
          named = r.named;
          numbered = omega (arith, r.numbered, ap length new.1);
        } in
        (bare, new.1)

    pub keeps_rest : {s : Store D} {j : Journal D} → rest.is_new ≡ false → store.disk_of s ≡ disk
        → store.end_of s ≡ rest.end → store.left_of s ≡ rest.left → j.store ≡ s → j.house ≡ house → j.next ≡ number
        → j.hasher ≡ rest.hasher → Keeps seen may_leave t pin h j
    keeps_rest {s} old same end left same_store same_house same_next same_hasher =
        let file : IsAtRest seen may_leave s taken = record {
          file = ap seen same ∙ r.file ∙ ap (λ (n : ℕ). taken ++ zeros n) (sym left);
          end = end ∙ r.place;
          some = omega (arith, r.some, left);
          no_zero = r.no_zero;
          durable = rw same r.durable;
        } in
        record {
          bytes = taken;
          file = rw same_store file;
          is_journal = rw old at r.says;
          house = same_house ∙ r.named;
          next = same_next ∙ r.numbered;
          hashed = rw same_hasher r.hashed;
        }

    -- what a crash leaves of it has what counted
    pub rest_left : {d : D} → d ≡ disk → (c : List ℕ) → may_leave d c → counted c ≡ taken
    rest_left same c left = rest_counted taken c rest.left r.no_zero r.some (r.durable c (rw same at left) ∙ r.file)

  -- ---- what was settled

  pub rests_of : {is_clean : Bool} {old pin house : List ℕ} {t : House} {disk : D} {rest : Rest} {book : BookView}
      {number : ℕ} (s : Settles is_clean old (seen disk) t pin rest book) → IsTrue is_clean
      → Only (seen disk) (may_leave disk) → house ≡ book.house.house → number ≡ length book.history + 1
      → Rests seen may_leave t pin book.history s.taken disk rest house number
  rests_of s is only named numbered = record {
    file = s.has is;
    durable = only;
    some = s.some;
    no_zero = s.no_zero;
    says = s.says;
    hashed = s.hashed;
    place = s.place;
    named = named ∙ ap (λ (u : House). u.house) s.house;
    numbered = numbered;
  }

-- ---- a recovery goes on with a file that was put at rest

module _ {D : Type 0} {seen : D → List ℕ} {may_leave : D → List ℕ → Type 0} {t : House} {pin taken house : List ℕ}
    {h : List Entry} {disk : D} {rest : Rest} {number : ℕ}
    (r : Rests seen may_leave t pin h taken disk rest house number) where
  -- ---- what a crash leaves of a journal at rest

  pub rest_has : {d : D} → d ≡ disk → (c : List ℕ) → may_leave d c → StillHas taken (counted c)
  rest_has same c left = ([], rest_left r same c left ∙ sym (append-nil taken))

  -- a start answers its history, and finds no fault
  pub rest_starts : rest.is_new ≡ false → {d : D} → d ≡ disk → (c : List ℕ) → may_leave d c
      → Recovers t pin c h × (rest.is_new ≡ false → IsPart t pin c)
  rest_starts old same c left =
      let journal : IsJournal t pin taken h = rw old at r.says in
      let counts : counted c ≡ taken = rest_left r same c left in
      let file : c ≡ taken ++ zeros rest.left = r.durable c (rw same at left) ∙ r.file in
      let length-zeros = length-replicate {A = ℕ} rest.left 0 in
      let part : IsPart t pin c = record {
        zero = omega (arith, ap length counts, ap length file, length-append {A = ℕ}, length-zeros, r.some);
        bytes = taken;
        h = h;
        journal = journal;
        begins = ([], sym counts ∙ sym (append-nil (counted c)));
        stands = (h, (taken, journal, ([], counts ∙ sym (append-nil taken))));
      } in
      (journal_recovers t pin taken c h journal counts, λ is. part)

  -- where there is no head nothing counts
  pub new_has : rest.is_new ≡ true → (c : List ℕ) → StillHas taken (counted c)
  new_has is c =
      let new : IsCounted t pin taken h true = rw is at r.says in
      (counted c, ap (λ (l : List ℕ). l ++ counted c) (sym new.0))

-- ---- what was settled

module _ {clean : Bool} {old new pin : List ℕ} {t : House} {rest : Rest} {book : BookView}
    (s : Settles clean old new t pin rest book) (is : IsTrue clean) (c : List ℕ) where
  -- what stood in the file stands there still
  pub settled_stand : StillHas s.taken (counted c) → (k : List Entry) → Stands t pin old k → Stands t pin c k
  settled_stand there = all_stand t pin s.taken old c (s.nested is) there

  -- a start finds no fault where it found none
  settled_part : (rest.is_new ≡ false → IsPart t pin c) → IsPart t pin old → IsPart t pin c
  settled_part part was = go rest.is_new s.says part
    where
      go : (b : Bool) → IsCounted t pin s.taken book.history b → (b ≡ false → IsPart t pin c) → IsPart t pin c
      go true says part =
          let stands = was.stands.1 in
          let within = s.nested is stands.0 was.stands.0 stands.1 stands.2 in
          let some = journal_some t pin stands.0 was.stands.0 stands.1 in
          absurd (omega (arith, some, ap length within.1, ap length says.0, length-append {A = ℕ}))
      go false says part = part refl

  -- and answers the same
  pub settled_starts : StillHas s.taken (counted c) → Recovers t pin c book.history
      → (rest.is_new ≡ false → IsPart t pin c) → StartsAlike t pin old c
  settled_starts there now part = settled_alike t pin s.taken old c book.history (s.nested is) (s.recovers is) there now
      (settled_part part)
