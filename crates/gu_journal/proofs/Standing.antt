-- Which journals stand in a file, and what a start answers of it.
use Rattle.gu_codec.proofs.Streams.{front_nil}
use Rattle.gu_journal.proofs
use proofs.{Leading.{all_or_before, begins_on, frame_some, longest, one_pin, says_begins}, Vocabulary.{ap, append-nil}}
use proofs.Vocabulary.{append_assoc, arith, BeginsBy, cases_lt, counted, counted_behind, counted_fits, drop, Entry}
use proofs.Vocabulary.{frame_len, Fresh, group_more, HasNoZero, HasZero, head_alone, House, inl, inr, IsFront}
use proofs.Vocabulary.{IsGroupBehind, IsJournal, IsLeft, IsPart, IsTaken, length, length-append, length-take, List}
use proofs.Vocabulary.{nil_from_length, opening_history, Recovers, refl, Sealed, Stand, Stands, StartsAlike, StillHas}
use proofs.Vocabulary.{sym, take, take-append-drop, take_all, Unsealed, [], ℕ, ◌++◌, ◌<◌, ◌∙◌, ◌≡◌, ◌≤◌, ◌⊎◌}
use Rattle.gu_journal.specs.Counting.{HasAll}

-- ---- fronts

still_short : (a b : List ℕ) → StillHas a b → length a ≤ length b
still_short a b is = omega (arith, ap length is.1, length-append a is.0)

-- bytes without a zero at the front of a file stand before its first one
pub stands_before : (bytes file : List ℕ) → HasNoZero bytes → StillHas bytes file → StillHas bytes (counted file)
stands_before bytes file none is = (counted is.0, ap counted is.1 ∙ counted_behind bytes is.0 none)

-- ---- histories

pub begins_all : (h : List Entry) → BeginsBy h h
begins_all h = ([], sym (append-nil h))

begins_same : (h k : List Entry) → BeginsBy h k → BeginsBy k h → h ≡ k
begins_same h k one two =
    let none = nil_from_length one.0 (omega (arith, ap length one.1, ap length two.1, length-append {A = Entry})) in
    rw (none, append-nil) at one.1

-- the history of a journal begins with the opening one
pub journal_begins : (t : House) (pin bytes : List ℕ) (h : List Entry) → IsJournal t pin bytes h
    → BeginsBy h (opening_history t)
journal_begins t pin _ _ (head_alone frame m one head) = begins_all (opening_history t)
journal_begins t pin _ _ (group_more bytes entries frame h new m journal says one seal) =
    begins_on (opening_history t) h new (journal_begins t pin bytes h journal) (says_begins t h entries new says)

pub journal_some : (t : House) (pin bytes : List ℕ) (h : List Entry) → IsJournal t pin bytes h → 0 < length bytes
journal_some t pin _ _ (head_alone frame m one head) = frame_some frame m one
journal_some t pin _ _ (group_more bytes entries frame h new m journal says one seal) =
    omega (arith, frame_some frame m one, length-append (bytes ++ entries) frame)

journal_long : (t : House) (pin bytes : List ℕ) (h : List Entry) → IsJournal t pin bytes h → 21 ≤ length bytes
journal_long t pin _ _ (head_alone frame m one head) = frame_len frame one.0 (length frame) one.1
journal_long t pin _ _ (group_more bytes entries frame h new m journal says one seal) =
    omega (arith, journal_long t pin bytes h journal, length-append {A = ℕ})

-- ---- what a start answers

-- it is determined
pub one_start : (t : House) (pin file : List ℕ) (h k : List Entry) → Recovers t pin file h → Recovers t pin file k
    → h ≡ k
one_start t pin file h k a b = begins_same h k (begins h a k b.there) (begins k b h a.there)
  where
    begins : (h : List Entry) → Recovers t pin file h → (k : List Entry)
        → (Stands t pin file k ⊎ (k ≡ opening_history t))
        → BeginsBy h k
    begins h r k (inl stands) = r.longest k stands
    begins h r k (inr is) = rw is (opens r.there)
      where
        opens : (Stands t pin file h ⊎ (h ≡ opening_history t)) → BeginsBy h (opening_history t)
        opens (inl stands) = journal_begins t pin stands.0 h stands.1
        opens (inr is) = ([], is ∙ sym (append-nil (opening_history t)))

-- a journal that stands where another one does is of its house file
pinned : (t : House) (other pin file bytes rest : List ℕ) (h k : List Entry) → IsJournal t pin bytes h
    → counted file ≡ bytes ++ rest → Stands t other file k → Stands t pin file k
pinned t other pin file bytes rest h k journal is stands = (
  stands.0,
  one_pin t other pin stands.0 bytes k h stands.1 journal stands.2.0 rest (sym stands.2.1 ∙ is),
  stands.2,
)

-- Where the bytes that were taken are a journal or none, and no whole frame stands behind them.
pub taken_recovers : (t : House) (pin taken rest file : List ℕ) (s : Stand) (h : List Entry)
    → IsTaken t pin taken s h → (s ≡ Unsealed → ⊥) → IsFront rest → counted file ≡ taken ++ rest
    → Recovers t pin file h
taken_recovers t pin taken rest file Fresh h stands sealed begun is = record {
  there = inr stands.1;
  longest = λ k other. absurd (none pin k other);
  alone = λ by k other. absurd (none by k other);
}
  where
    none : (by : List ℕ) (k : List Entry) → Stands t by file k → ⊥
    none by k other = elim (longest t by other.0 k taken h other.1 rest other.2.0 begun
        (sym other.2.1 ∙ is) Fresh stands) [
          | inl n ↦ n
          | inr e ↦ absurd (omega (arith, journal_some t by other.0 k other.1, ap length e.whole, ap length stands.0))
        ]
taken_recovers t pin taken rest file Sealed h stands sealed begun is = record {
  there = inl (taken, stands, (rest, is));
  longest = λ k other. elim (longest t pin other.0 k taken h other.1 rest other.2.0 begun
      (sym other.2.1 ∙ is) Sealed stands) [
        | inl n ↦ n.0.begins
        | inr e ↦ ([], e.said ∙ sym (append-nil k))
      ];
  alone = λ by k other. pinned t by pin file taken rest h k stands is other;
}
taken_recovers t pin taken rest file Unsealed h stands sealed begun is = absurd (sealed refl)

-- where a group isn't sealed yet it is what was sealed
pub open_recovers : (t : House) (pin taken rest file : List ℕ) (h : List Entry)
    → (o : IsTaken t pin taken Unsealed h) → IsFront rest → counted file ≡ taken ++ rest
    → Recovers t pin file o.h
open_recovers t pin taken rest file h o begun is = record {
  there = inl (o.bytes, o.journal, (o.entries ++ rest, whole));
  longest = λ k other. elim (longest t pin other.0 k taken h other.1 rest other.2.0 begun
      (sym other.2.1 ∙ is) Unsealed o) [
        | inl n ↦ n.0.begins
        | inr e ↦ cc e.stands
      ];
  alone = λ by k other. pinned t by pin file o.bytes (o.entries ++ rest) o.h k o.journal whole other;
}
  where
    whole : counted file ≡ o.bytes ++ (o.entries ++ rest)
    whole = rw (o.parts, append_assoc) at is

-- of a file in which a journal counts, and nothing more
pub journal_recovers : (t : House) (pin bytes file : List ℕ) (h : List Entry) → IsJournal t pin bytes h
    → counted file ≡ bytes → Recovers t pin file h
journal_recovers t pin bytes file h journal is =
    taken_recovers t pin bytes [] file Sealed h journal (λ e. cc) front_nil (is ∙ sym (append-nil bytes))

-- ---- what a crash leaves

-- a group that is written behind a journal is there whole, or isn't
pub crash_starts : (t : House) (pin bytes group file : List ℕ) (h new : List Entry) → IsJournal t pin bytes h
    → IsGroupBehind t bytes h group new → IsLeft bytes group file → Recovers t pin file h ⊎ Recovers t pin file new
crash_starts t pin bytes group file h new journal g left = elim (either (length group) left.0) [
  | inl whole ↦
      let all : counted file ≡ bytes ++ group = rw (take_all left.0 group whole) at left.1 in
      inr (record {
        there = inl (bytes ++ group, grown, ([], all ∙ sym (append-nil (bytes ++ group))));
        longest = λ k other. elim (all_or_before t pin other.0 k bytes group h new other.1 journal g other.2.0
            (sym other.2.1 ∙ all)) [
              | inl n ↦ begins_on k h new n.begins (says_begins t h g.entries new g.says)
              | inr e ↦ ([], e.said ∙ sym (append-nil k))
            ];
        alone = λ by k other. pinned t by pin file bytes group h k journal all other;
      })
  | inr cut ↦ inl (record {
    there = inl (bytes, journal, (take left.0 group, left.1));
    longest = λ k other.
        let parts : (other.0 ++ other.2.0) ++ drop left.0 group ≡ bytes ++ group =
        ap (λ (b : List ℕ). b ++ drop left.0 group) (sym other.2.1 ∙ left.1)
        ∙ rw (append_assoc, take-append-drop left.0 group) refl in
        elim (all_or_before t pin other.0 k bytes group h new other.1 journal g
        (other.2.0 ++ drop left.0 group) (rw append_assoc at parts)) [
          | inl n ↦ n.begins
          | inr e ↦ absurd (omega (
            arith,
            ap length e.whole,
            ap length other.2.1,
            ap length left.1,
            length-append {A = ℕ},
            length-take left.0 group,
          ))
        ];
    alone = λ by k other. pinned t by pin file bytes (take left.0 group) h k journal left.1 other;
  })
]
  where
    either : (n k : ℕ) → (n ≤ k) ⊎ (k < n)
    either n k = elim (cases_lt k n) [ inl l ↦ inr l | inr g ↦ inl g ]

    grown : IsJournal t pin (bytes ++ group) new
    grown = rw (g.parts, ← append_assoc) (group_more bytes g.entries g.frame h new g.m journal g.says g.one g.seal)

-- what is left there is a journal's front
pub crash_part : (t : House) (pin bytes group file : List ℕ) (h new : List Entry) → IsJournal t pin bytes h
    → IsJournal t pin (bytes ++ group) new → IsLeft bytes group file → HasZero file → IsPart t pin file
crash_part t pin bytes group file h new was journal left zero = record {
  zero = zero;
  bytes = bytes ++ group;
  h = new;
  journal = journal;
  begins = (drop left.0 group, rw (left.1, append_assoc, take-append-drop left.0 group) refl);
  stands = (h, (bytes, was, (take left.0 group, left.1)));
}

-- nor is a head that is begun
pub head_starts : (t : House) (pin head file : List ℕ) → IsJournal t pin head (opening_history t)
    → IsLeft [] head file → Recovers t pin file (opening_history t)
head_starts t pin head file journal left = record {
  there = inr refl;
  longest = λ k other. elim (longest t pin other.0 k head (opening_history t) other.1 []
      (other.2.0 ++ drop left.0 head) front_nil (on pin k other) Sealed journal) [
        | inl n ↦ n.0.begins
        | inr e ↦ ([], e.said ∙ sym (append-nil k))
      ];
  alone = λ by k other. (
    other.0,
    one_pin t by pin other.0 head k (opening_history t) other.1 journal (other.2.0 ++ drop left.0 head) []
        (on by k other),
    other.2,
  );
}
  where
    on : (by : List ℕ) (k : List Entry) → (other : Stands t by file k)
        → other.0 ++ (other.2.0 ++ drop left.0 head) ≡ head ++ []
    on by k other =
        rw append_assoc at (ap (λ (b : List ℕ). b ++ drop left.0 head) (sym other.2.1 ∙ left.1))
        ∙ take-append-drop left.0 head ∙ sym (append-nil head)

-- ---- a file in which no journal stands

pub none_starts : (t : House) (pin file : List ℕ)
    → ((by : List ℕ) (k : List Entry) → Stands t by file k → ⊥) → Recovers t pin file (opening_history t)
none_starts t pin file none = record {
  there = inr refl;
  longest = λ k stands. absurd (none pin k stands);
  alone = λ by k stands. absurd (none by k stands);
}

-- as in a byte
pub few_none : (t : House) (pin file : List ℕ) → length file ≤ 1 → (k : List Entry) → Stands t pin file k → ⊥
few_none t pin file few k stands =
    let long = journal_long t pin stands.0 k stands.1 in
    absurd (omega (arith, long, still_short stands.0 (counted file) stands.2, counted_fits file))

pub none_alike : (t : House) (pin file other : List ℕ) → ((k : List Entry) → Stands t pin file k → ⊥)
    → Recovers t pin other (opening_history t) → StartsAlike t pin file other
none_alike t pin file other none is = record {
  answer = λ h r. elim r.there [
    | inl stands ↦ absurd (none h stands)
    | inr opening ↦ rw opening is
  ];
  part = λ part. absurd (none part.stands.0 part.stands.1);
}

-- ---- a file that is put at rest

-- which journals stood there, by the bytes that count
pub has_all : (t : House) (pin taken rest file : List ℕ) (s : Stand) (h : List Entry) → (s ≡ Unsealed → ⊥)
    → IsTaken t pin taken s h → IsFront rest → counted file ≡ taken ++ rest → HasAll t pin taken file
has_all t pin taken rest file Fresh h sealed stands begun is other k journal there =
    elim (longest t pin other k taken h journal rest there.0 begun (sym there.1 ∙ is) Fresh stands) [
      | inl n ↦ absurd n
      | inr e ↦ ([], sym e.whole ∙ sym (append-nil other))
    ]
has_all t pin taken rest file Sealed h sealed stands begun is other k journal there =
    elim (longest t pin other k taken h journal rest there.0 begun (sym there.1 ∙ is) Sealed stands) [
      | inl n ↦ n.0.within
      | inr e ↦ ([], sym e.whole ∙ sym (append-nil other))
    ]
has_all t pin taken rest file Unsealed h sealed stands begun is other k journal there = absurd (sealed refl)

pub open_has_all : (t : House) (pin taken rest file : List ℕ) (h : List Entry) → (o : IsTaken t pin taken Unsealed h)
    → IsFront rest → counted file ≡ taken ++ rest → HasAll t pin o.bytes file
open_has_all t pin taken rest file h o begun is other k journal there =
    elim (longest t pin other k taken h journal rest there.0 begun (sym there.1 ∙ is) Unsealed o) [
      | inl n ↦ n.0.within
      | inr e ↦ cc e.stands
    ]

module _ (t : House) (pin taken file c : List ℕ) (nested : HasAll t pin taken file) where
  -- they stand there still
  pub all_stand : StillHas taken (counted c) → (k : List Entry) → Stands t pin file k → Stands t pin c k
  all_stand there k stands =
      (stands.0, stands.1, begins_on stands.0 taken (counted c) (nested stands.0 k stands.1 stands.2) there)

  -- and no others, where less stands before the first zero
  pub less_alike : StillHas taken (counted c) → StillHas (counted c) (counted file) → (IsPart t pin file → HasZero c)
      → StartsAlike t pin file c
  less_alike there less zero = record {
    answer = λ h r. record {
      there = elim r.there [ inl stands ↦ inl (all_stand there h stands) | inr is ↦ inr is ];
      longest = λ k stands.
          r.longest k (stands.0, stands.1, begins_on stands.0 (counted c) (counted file) stands.2 less);
      alone = λ by k stands. all_stand there k (r.alone by k
          (stands.0, stands.1, begins_on stands.0 (counted c) (counted file) stands.2 less));
    };
    part = λ p. record {
      zero = zero p;
      bytes = p.bytes;
      h = p.h;
      journal = p.journal;
      begins = begins_on (counted c) (counted file) p.bytes less p.begins;
      stands = (p.stands.0, all_stand there p.stands.0 p.stands.1);
    };
  }

-- of a front of what stood there
pub front_less : (taken rest file c : List ℕ) → counted file ≡ taken ++ rest → IsLeft taken rest c
    → StillHas (counted c) (counted file)
front_less taken rest file c is left =
    (drop left.0 rest, is ∙ rw (left.1, append_assoc, take-append-drop left.0 rest) refl)

-- what a start answers of a file that was put at rest is what it answered
pub settled_alike : (t : House) (pin taken file c : List ℕ) (h : List Entry) → HasAll t pin taken file
    → Recovers t pin file h → StillHas taken (counted c) → Recovers t pin c h → (IsPart t pin file → IsPart t pin c)
    → StartsAlike t pin file c
settled_alike t pin taken file c h nested is there now part =
    record { answer = λ k r. rw (← one_start t pin file h k is r) now; part = part }

-- a file that is as it was
pub same_stands : (t : House) (pin file c : List ℕ) (k : List Entry) → c ≡ file → Stands t pin file k
    → Stands t pin c k
same_stands t pin file c k is stands = rw is stands

pub same_alike : (t : House) (pin file c : List ℕ) → c ≡ file → StartsAlike t pin file c
same_alike t pin file c is = rw is (record { answer = λ h r. r; part = λ p. p })
