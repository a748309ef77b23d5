-- What was taken of a file, once and again, and a file that is put at rest.
use Rattle.gu_journal.proofs
use proofs.{Leading.says_begins, Looping.{finds_counted, none_front}, Playing.one_history, Reading.behind_counted}
use proofs.Standing.{all_stand, begins_all, few_none, front_less, has_all, less_alike, none_alike, none_starts}
use proofs.{Standing.{open_has_all, open_recovers, stands_before, taken_recovers}, Vocabulary.{All-nil, ap, append-nil}}
use proofs.Vocabulary.{append_assoc, arith, BookView, Bool, counted, CountsAgain, drop, Entry, Err, false, Finds}
use proofs.Vocabulary.{frame_len, Fresh, HasLaterSeal, HasZero, Held, Holds512, House, IfErr, IsCounted, IsJournal}
use proofs.Vocabulary.{IsLeft, IsSealedAt, IsTaken, IsTrue, length, length-append, List, Ok, Only, opening_history}
use proofs.Vocabulary.{refl, Replay, Rest, Result, Sealed, Settles, Stand, Stands, StartsAlike, StillHas, subst, sym}
use proofs.Vocabulary.{take, take_at, true, Unsealed, zeros, [], ℕ, ◌++◌, ◌+◌, ◌-◌, ◌<◌, ◌^◌, ◌∙◌, ◌≡◌, ◌≢◌, ◌≤◌}
use Rattle.gu_journal.specs.Recovered.{Brings, Counts}
use Rattle.std.proofs.Common.{max, OnOk}

-- the frames were taken, and a zero stands behind what counts
pub counts_of : {was is : Bool} {file pin : List ℕ} {start size : ℕ} {t : House} {w : Held} {r : Replay} {b : BookView}
    → Finds was file start size t pin w r b → (IsTrue is → IsTrue was)
    → (IsTrue was → start ≡ length file) → size < start
    → (IsTrue is → HasLaterSeal r.stand r.first (drop w.at file) → ⊥) → Counts is file start t pin r b
counts_of {size = size} {w = w} f falls all cut none =
    let goes = f.goes in
    let place : length goes.taken + length w.bytes ≡ size = omega (arith, f.all, goes.within, goes.at) in
    record {
      taken = goes.taken;
      rest = w.bytes;
      replays = goes.replays;
      few = omega (arith, place, goes.fewer);
      no_zero = none_front goes.taken w.bytes goes.no_zero;
      begun = f.begun;
      there = λ c. finds_counted f all (falls c);
      zero = λ c.
          omega (arith, ap length (finds_counted f all (falls c)), place, cut, all (falls c), length-append {A = ℕ});
      none = λ c seal. none c (rw goes.at seal);
    }

-- a seal that was met before is met again
pub again_of : {clean : Bool} {file pin : List ℕ} {sealed size : ℕ} {t : House} {w : Held} {r : Replay} {b : BookView}
    → Finds clean file sealed size t pin w r b → w.at ≡ sealed → r.stand ≡ Sealed
    → CountsAgain clean file sealed t pin r b
again_of {w = w} f at stands =
    let goes = f.goes in
    record {
      taken = goes.taken;
      replays = goes.replays;
      stands = stands;
      place = omega (arith, goes.at, at);
      no_zero = none_front goes.taken w.bytes goes.no_zero;
      there = λ c. let read = goes.read c in (w.bytes ++ read.0, rw append_assoc at read.1);
    }

-- what was taken once counts
pub brings_once : {clean : Bool} {file pin : List ℕ} {size : ℕ} {t : House} {r : Replay} {b : BookView}
    → Counts clean file size t pin r b → r.stand ≢ Unsealed → Brings clean file size t pin r b
brings_once {file = file} {pin = pin} {t = t} {r = r} {b = b} k sealed = record {
  taken = k.taken;
  replays = k.replays;
  sealed = sealed;
  few = k.few;
  no_zero = k.no_zero;
  there = λ c. (k.rest, k.there c);
  zero = k.zero;
  recovers = λ c. taken_recovers t pin k.taken k.rest file r.stand b.history k.replays.stands sealed k.begun
      (k.there c);
  nested = λ c. has_all t pin k.taken k.rest file r.stand b.history sealed k.replays.stands k.begun (k.there c);
  later = λ c. record {
    taken = k.taken;
    stand = r.stand;
    all = b.history;
    first = r.first;
    stands = k.replays.stands;
    is_first = (r.sealed, k.replays.sealed);
    begins = begins_all b.history;
    there = (k.rest, k.there c);
    none = k.none c;
  };
}

-- the same bytes twice at the front of a file
same_front : (a b file : List ℕ) → StillHas a file → StillHas b file → length a ≡ length b → a ≡ b
same_front a b file x y same =
    sym (take_at a x.0 (length b) same) ∙ ap (take (length b)) (sym x.1 ∙ y.1) ∙ take_at b y.0 (length b) refl

-- what was taken up to the last seal once more counts
module _ {was is : Bool} {file pin : List ℕ} {size sealed : ℕ} {t : House} {one two : Replay} {b d : BookView}
    (k : Counts was file size t pin one b) (a : CountsAgain is file sealed t pin two d)
    (open_still : one.stand ≡ Unsealed) (place : sealed ≡ one.sealed) (falls : IsTrue is → IsTrue was) where
  stands : IsTaken t pin k.taken Unsealed b.history
  stands = rw open_still at k.replays.stands

  at : IsSealedAt t pin k.taken Unsealed b.history one.sealed one.first
  at = rw open_still at k.replays.sealed

  journal : IsJournal t pin a.taken d.history
  journal = rw a.stands at a.replays.stands

  size_is : length a.taken ≡ length at.0.bytes
  size_is = omega (arith, a.place, place, at.1)

  counts_so : IsTrue is → counted file ≡ at.0.bytes ++ (at.0.entries ++ k.rest)
  counts_so c =
      k.there (falls c) ∙ ap (λ (l : List ℕ). l ++ k.rest) at.0.parts ∙ append_assoc at.0.bytes at.0.entries k.rest

  same_bytes : IsTrue is → a.taken ≡ at.0.bytes
  same_bytes c =
      let all = behind_counted file in
      same_front a.taken at.0.bytes file (a.there c)
      ((at.0.entries ++ k.rest) ++ all.0, all.1 ∙ rw (counts_so c, append_assoc) refl) size_is

  same_history : IsTrue is → d.history ≡ at.0.h
  same_history c = one_history t pin pin a.taken d.history at.0.h journal
      (subst (λ (l : List ℕ). IsJournal t pin l at.0.h) (sym (same_bytes c)) at.0.journal)

  pub brings_again : Brings is file size t pin two d
  brings_again = record {
    taken = a.taken;
    replays = a.replays;
    sealed = λ e. let is = a.stands in cc;
    few = omega (arith, size_is, k.few, ap length at.0.parts, length-append {A = ℕ});
    no_zero = a.no_zero;
    there = λ c. (
      at.0.entries ++ k.rest,
      counts_so c ∙ ap (λ (l : List ℕ). l ++ (at.0.entries ++ k.rest)) (sym (same_bytes c)),
    );
    zero = λ c. k.zero (falls c);
    recovers = λ c. rw (same_history c)
        (open_recovers t pin k.taken k.rest file b.history at.0 k.begun (k.there (falls c)));
    nested = λ c. rw (same_bytes c)
        (open_has_all t pin k.taken k.rest file b.history at.0 k.begun (k.there (falls c)));
    later = λ c. record {
      taken = k.taken;
      stand = one.stand;
      all = b.history;
      first = one.first;
      stands = k.replays.stands;
      is_first = (one.sealed, k.replays.sealed);
      begins = rw (same_history c) (says_begins t at.0.h at.0.entries b.history at.0.says);
      there = (k.rest, k.there (falls c));
      none = k.none (falls c);
    };
  }

-- ---- a file that is put at rest

-- what was taken counts
pub counts : (t : House) (pin taken : List ℕ) (h : List Entry) (s : Stand) (b : Bool) → s ≢ Unsealed
    → IsTaken t pin taken s h
    → (b ≡ true → s ≡ Fresh) → (b ≡ false → s ≢ Fresh) → IsCounted t pin taken h b
counts t pin taken h Fresh true sealed is new old = is
counts t pin taken h Sealed false sealed is new old = is
counts t pin taken h Fresh false sealed is new old = absurd (old refl refl)
counts t pin taken h Sealed true sealed is new old = cc (new refl)
counts t pin taken h Unsealed b sealed is new old = absurd (sealed refl)

sealed_place : (t : House) (pin taken : List ℕ) (s : Stand) (h : List Entry) (end first : ℕ) → s ≢ Unsealed
    → IsTaken t pin taken s h → IsSealedAt t pin taken s h end first → end ≡ length taken
sealed_place t pin taken Fresh h end first sealed is place = place ∙ sym (ap length is.0)
sealed_place t pin taken Sealed h end first sealed is place = place.0
sealed_place t pin taken Unsealed h end first sealed is place = absurd (sealed refl)

-- of what was taken, in a file over which zeros are written
module _ {clean : Bool} {file pin : List ℕ} {size : ℕ} {t : House} {r : Replay} {b : BookView}
    (k : Brings clean file size t pin r b) where
  pub brought_place : r.sealed ≡ length k.taken
  brought_place =
      sealed_place t pin k.taken r.stand b.history r.sealed r.first k.sealed k.replays.stands k.replays.sealed

  pub brought_there : IsTrue clean → StillHas k.taken file
  brought_there is =
      let all = behind_counted file in
      let there = k.there is in
      (there.0 ++ all.0, all.1 ∙ rw (there.1, append_assoc) refl)

  pub brought_short : IsTrue clean → size ≡ length file → length k.taken < size
  brought_short is all = omega (arith, k.zero is, ap length (k.there is).1, length-append {A = ℕ})

  pub brought_stands : IsTrue clean → {c : List ℕ} → StillHas k.taken c → (x : List Entry) → Stands t pin file x
      → Stands t pin c x
  brought_stands is {c} still = all_stand t pin k.taken file c (k.nested is) (stands_before k.taken c k.no_zero still)

  pub brought_alike : (is : IsTrue clean) → {c : List ℕ} → StillHas k.taken c → IsLeft k.taken (k.there is).0 c
      → HasZero c → StartsAlike t pin file c
  brought_alike is {c} still left zero = less_alike t pin k.taken file c (k.nested is)
      (stands_before k.taken c k.no_zero still) (front_less k.taken (k.there is).0 file c (k.there is).1 left)
      (λ p. zero)

-- ---- what a file that is put at rest has, and what a crash leaves of it

-- ---- results

-- two things of an error
pub on_both : {A E : Type 0} {P R Q : E → Type 0} (r : Result A E) → IfErr r P → IfErr r R → ((e : E) → P e → R e → Q e)
    → IfErr r Q
on_both (Ok x) is too f = tt
on_both (Err e) is too f = f e is too

-- what follows from two things where there is no error
pub on_done : {A E : Type 0} {P R Q : Type 0} (r : Result A E) → OnOk r P → OnOk r R → (P → R → Q) → OnOk r Q
on_done (Ok x) is too f = f is too
on_done (Err e) is too f = tt

-- ---- a file of a byte at most

-- what a crash leaves of its beginning
pub few_alike : {t : House} {pin file c : List ℕ} → length file ≤ 1 → length c ≤ 1 → StartsAlike t pin file c
few_alike {t} {pin} {file} {c} few less = none_alike t pin file c (few_none t pin file few)
    (none_starts t pin c (λ by. few_none t by c less))

-- nor does a seal stand there
few_seals : (file : List ℕ) → length file ≤ 1 → HasLaterSeal Fresh 0 file → ⊥
few_seals file few has =
    let frame = has.4.1 in
    let some : 21 ≤ has.4.0 = frame_len has.1 frame.0 has.4.0 frame.1 in
    absurd (omega (arith, few, some, frame.1.within, ap length has.3, length-append has.0 has.1))

-- it is begun
pub few_settles : {clean : Bool} {old new pin : List ℕ} {t : House} {rest : Rest} {book : BookView}
    → book.house ≡ t → book.history ≡ opening_history t → rest.is_new ≡ true → rest.end ≡ 0 → rest.left ≡ 1
    → Holds512 rest.hasher [] → (IsTrue clean → length old ≤ 1) → (IsTrue clean → new ≡ zeros 1)
    → Settles clean old new t pin rest book
few_settles {old = old} {pin = pin} {t = t} {book = book} house opening is_new end left hashed few has = record {
  taken = [];
  house = house;
  says = subst (λ (b : Bool). IsCounted t pin [] book.history b) (sym is_new) (refl, opening);
  hashed = hashed;
  place = end;
  small = omega (arith, end, left);
  some = omega (arith, left);
  no_zero = All-nil (λ n. 0 < n);
  recovers = λ c. rw opening (none_starts t pin old (λ by. few_none t by old (few c)));
  nested = λ c other k journal there. absurd (few_none t pin old (few c) k (other, journal, there));
  later = λ c. record {
    taken = [];
    stand = Fresh;
    all = opening_history t;
    first = 0;
    stands = (refl, refl);
    is_first = (0, refl);
    begins = ([], sym opening ∙ sym (append-nil book.history));
    there = (counted old, refl);
    none = few_seals old (few c);
  };
  has = λ c. has c ∙ ap zeros (sym left);
}

-- ---- a longer one

-- zeros were written over what stands behind what counts
pub brought_settles : {was is : Bool} {file new pin : List ℕ} {size : ℕ} {t : House} {r : Replay} {b : BookView}
    {rest : Rest} (k : Brings was file size t pin r b) → (IsTrue is → IsTrue was) → size ≤ 2 ^ 60
    → rest.hasher ≡ r.hasher → rest.end ≡ r.sealed → rest.left ≡ max (size - r.sealed) 1
    → (rest.is_new ≡ true → r.stand ≡ Fresh) → (rest.is_new ≡ false → r.stand ≢ Fresh)
    → (IsTrue is → new ≡ k.taken ++ zeros rest.left) → Settles is file new t pin rest b
brought_settles {pin = pin} {t = t} {r = r} {b = b} {rest = rest} k falls short hasher end left fresh other has =
    let place = brought_place k in
    record {
      taken = k.taken;
      house = k.replays.house;
      says = counts t pin k.taken b.history r.stand rest.is_new k.sealed k.replays.stands fresh other;
      hashed = rw hasher k.replays.hashed;
      place = end ∙ place;
      small = omega (arith, end, left, place, k.few, short);
      some = omega (arith, left);
      no_zero = k.no_zero;
      recovers = λ c. k.recovers (falls c);
      nested = λ c. k.nested (falls c);
      later = λ c. k.later (falls c);
      has = has;
    }

-- and a start answers the same of what a crash leaves of that, where the device finishes each byte
pub brought_starts : {clean : Bool} {file seen c pin : List ℕ} {size : ℕ} {t : House} {r : Replay} {b : BookView}
    {old new : List ℕ → Type 0} (k : Brings clean file size t pin r b) → IsTrue clean → seen ≡ file
    → size ≡ length file → Only seen old
    → ((before c : List ℕ) → r.sealed ≡ length before → StillHas before seen → Only seen old → new c
    → StillHas before c)
    → ((before front c : List ℕ) → r.sealed ≡ length before → size ≡ length seen → r.sealed < size
    → counted seen ≡ before ++ front → Only seen old → new c → IsLeft before front c)
    → ((before c : List ℕ) → r.sealed ≡ length before → size ≡ length seen → HasZero seen
    → StillHas before (counted seen) → Only seen old → new c → HasZero c)
    → new c → StartsAlike t pin file c
brought_starts {c = c} k is same long only crash mixed zero left =
    let place = brought_place k in
    let all = long ∙ sym (ap length same) in
    brought_alike k is (crash k.taken c place (rw same (brought_there k is)) only left)
    (mixed k.taken (k.there is).0 c place all (omega (arith, place, brought_short k is long))
    (ap counted same ∙ (k.there is).1) only left)
    (zero k.taken c place all (rw same (k.zero is)) (rw same (k.there is)) only left)

-- what a crash leaves of a disk that was read at most
pub only_on : {file seen : List ℕ} {old new : List ℕ → Type 0} → Only file old → ((c : List ℕ) → new c → old c)
    → seen ≡ file → Only seen new
only_on only less same c left = only c (less c left) ∙ sym same
