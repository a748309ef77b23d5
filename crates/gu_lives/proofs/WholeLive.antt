-- The live changes of a run are a whole list, and so are those of them that may be kept.
use Rattle.std.proofs.Common.{◌≡◌, ℕ, ◌+◌, ◌≤◌, Bool, true, false, not, ◌&&◌, List, [], ◌∷◌, ◌++◌, length}
use Rattle.std.proofs.Common.{refl, sym, ◌∙◌, ap, subst, cond, arith, map, append_assoc, length-append}
use Rattle.std.specs.Prelude.{Some, None, ◌==◌, find, filter}
use Rattle.std.specs.List.{All, AllByRecursion}
use Rattle.std.proofs.lemmas.Bool.{and_parts, ltb-true, ltb-false}
use Rattle.std.proofs.lemmas.List.Elements.{All-nil, All-cons, All-filter}
use Rattle.std.proofs.lemmas.List.Sums.{length-filter, count_by-le-length}
use Rattle.std.proofs.lemmas.Map.Keys.{IsDistinct-head, IsDistinct-tail, IsDistinct-cons}
use Rattle.gu_base.specs.Limits.{most_entries}
use Rattle.gu_base.specs.House.{House, HasLawfulOpening}
use Rattle.gu_base.specs.History.{numbered_as, numbered_from, records, live, is_change, is_reversed, RisesFrom}
use Rattle.gu_base.specs.Answers.{command_refusal, status_of, is_same_id, is_same_call}
use Rattle.gu_base.specs.Refusals.{first, unless}
use Rattle.gu_base.specs.Runs.{call_of, IsRunFrom, opening_history}
use Rattle.gu_base.specs.declared.entry.Entry.{Entry}
use Rattle.gu_base.specs.declared.entry.Record.{Record}
use Rattle.gu_base.specs.declared.house.Pair.{Pair}
use Rattle.gu_base.specs.declared.house.Agreement.{Agreement}
use Rattle.gu_base.specs.declared.refusal.Refusal.TheVariants.{BookFull}
use Rattle.std.specs.Prelude.{nat_lt}
use Rattle.gu_base.proofs.Accepted.{accepted_parts}
use Rattle.gu_base.proofs.Basics.{nothing_here, either_way}
use Rattle.gu_base.proofs.LegalLaws.{legal_from_replay, replay_from_legal}
use Rattle.gu_base.proofs.Numbered.{rises_later, listed, rises_kept, length_numbered}
use Rattle.gu_base.proofs.Opening.{opened_from, opening_entry, opening_is, no_id}
use Rattle.gu_tree.specs.Shown.{HasDistinctNumbers}
use Rattle.gu_depend.proofs.StandsUnder.{rises_distinct}
use Rattle.gu_lives.specs.Extends.{HasMore}
use Rattle.gu_lives.specs.Renumbered.{call_in, IsWhole}
use Rattle.gu_lives.specs.Kept.{IsClosed}
use Rattle.gu_lives.proofs.Known.{knows_none}
use Rattle.gu_lives.proofs.KeptLegal.{kept_is_legal}
use Rattle.gu_lives.proofs.Larger.{cut_behind, whole_run, replay_grows}

-- ---- cuts of a filtered list

-- where an element of a filtered list stands in the whole
record IsCutAt {A : Type 0} (p : A → Bool) (xs b : List A) (r : A) : Type 0 where
  front : List A
  behind : List A
  is : xs ≡ front ++ r ∷ behind
  kept : filter p front ≡ b

cut_step : {A : Type 0} (p : A → Bool) (x : A) (xs b : List A) (r : A) (a : List A) (c : Bool) → p x ≡ c
    → ((b : List A) → filter p xs ≡ b ++ r ∷ a → IsCutAt p xs b r)
    → cond c (x ∷ filter p xs) (filter p xs) ≡ b ++ r ∷ a → IsCutAt p (x ∷ xs) b r
cut_step p x xs b r a false is rest e =
    let q = rest b e in
    record {
      front = x ∷ q.front;
      behind = q.behind;
      is = ap (λ ys. x ∷ ys) q.is;
      kept = ap (λ b. cond b (x ∷ filter p q.front) (filter p q.front)) is ∙ q.kept;
    }
cut_step p x xs [] r a true is rest e =
    let same : x ≡ r = cc in
    record { front = []; behind = xs; is = ap (λ y. y ∷ xs) same; kept = refl }
cut_step p x xs (y ∷ b) r a true is rest e =
    let later : filter p xs ≡ b ++ r ∷ a = cc in
    let same : x ≡ y = cc in
    let q = rest b later in
    record {
      front = x ∷ q.front;
      behind = q.behind;
      is = ap (λ ys. x ∷ ys) q.is;
      kept = ap (λ b. cond b (x ∷ filter p q.front) (filter p q.front)) is
          ∙ (ap (λ ys. x ∷ ys) q.kept ∙ ap (λ z. z ∷ b) same);
    }

nothing_in : {A : Type 0} (before after : List A) (r : A) → [] ≡ before ++ r ∷ after → ⊥
nothing_in [] after r e = cc
nothing_in (b ∷ before) after r e = cc

filter_cut : {A : Type 0} (p : A → Bool) (xs b : List A) (r : A) (a : List A) → filter p xs ≡ b ++ r ∷ a
    → IsCutAt p xs b r
filter_cut p [] b r a e = absurd (nothing_in b a r e)
filter_cut p (x ∷ xs) b r a e = cut_step p x xs b r a (p x) refl (λ b f. filter_cut p xs b r a f) e

none_kept : {A : Type 0} (p q : A → Bool) (xs : List A) → find q xs ≡ None → find q (filter p xs) ≡ None
none_kept p q [] h = refl
none_kept {A} p q (x ∷ xs) h =
    let n = nothing_here (q x) x (find q xs) h in
    let rest = none_kept p q xs n.1 in
    either_way (λ (ys : List A). find q ys ≡ None) (p x) (x ∷ filter p xs) (filter p xs)
    (λ is. ap (λ b. cond b (Some x) (find q (filter p xs))) n.0 ∙ rest) (λ out. rest)

all_cuts : {A : Type 0} (P : A → Type 0) (xs : List A)
    → ((before after : List A) (x : A) → xs ≡ before ++ x ∷ after → P x) → All P xs
all_cuts P [] each = All-nil P
all_cuts P (x ∷ xs) each =
    All-cons P x xs (each [] xs x refl)
    (all_cuts P xs (λ before after y e. each (x ∷ before) after y (ap (λ ys. x ∷ ys) e)))

-- ---- what may be kept of a whole list

apart_kept : (p : Record → Bool) (P : ℕ → Type 0) (l : List Record)
    → AllByRecursion P (map (λ (r : Record). r.number) l)
    → AllByRecursion P (map (λ (r : Record). r.number) (filter p l))
apart_kept p P [] all = tt
apart_kept p P (r ∷ l) all =
    let rest = apart_kept p P l all.1 in
    either_way (λ (rs : List Record). AllByRecursion P (map (λ (r : Record). r.number) rs)) (p r) (r ∷ filter p l)
    (filter p l) (λ is. (all.0, rest)) (λ out. rest)

pub distinct_kept : (p : Record → Bool) (l : List Record) → HasDistinctNumbers l → HasDistinctNumbers (filter p l)
distinct_kept p [] distinct = distinct
distinct_kept p (r ∷ l) distinct =
    let rest = distinct_kept p l
    (IsDistinct-tail (λ a b. a == b) r.number (map (λ (r : Record). r.number) l) distinct) in
    either_way (λ (rs : List Record). HasDistinctNumbers rs) (p r) (r ∷ filter p l) (filter p l)
    (λ is.
    IsDistinct-cons (λ a b. a == b) r.number (map (λ (r : Record). r.number) (filter p l))
    (apart_kept p (λ y. (r.number == y) ≡ false) l
    (IsDistinct-head (λ a b. a == b) r.number (map (λ (r : Record). r.number) l) distinct)) rest) (λ out. rest)

pub whole_kept : (t : House) (l : List Record) (keep : Record → Bool) → IsWhole t l → IsClosed l keep
    → IsWhole t (filter keep l)
whole_kept t l keep w closed =
    let fewer = count_by-le-length keep l in
    let is = length-filter keep l in
    record {
      legal = kept_is_legal t l keep w.distinct w.legal closed;
      distinct = distinct_kept keep l w.distinct;
      changes = All-filter keep (λ (r : Record). is_change r.command ≡ true) l w.changes;
      statuses = All-filter keep (λ (r : Record). r.status ≡ status_of r.firm r.command) l w.statuses;
      ids = λ before after r e.
          let c = filter_cut keep l before r after e in
          subst (λ b. find (is_same_id (call_in r)) b ≡ None) c.kept
          (none_kept keep (is_same_id (call_in r)) c.front (w.ids c.front c.behind r c.is));
      few = omega (arith, fewer, is, w.few);
    }

-- under a larger house
pub whole_grows : (t u : House) (l : List Record) → HasMore t u → IsWhole t l → IsWhole u l
whole_grows t u l ext w = record {
  legal = legal_from_replay u l (replay_grows ext [] l (knows_none t) (replay_from_legal t l w.legal));
  distinct = w.distinct;
  changes = w.changes;
  statuses = w.statuses;
  ids = w.ids;
  few = w.few;
}

-- ---- the live changes of a run

record IsNumberedCut (k : ℕ) (h : List Entry) (ys : List Record) (r : Record) : Type 0 where
  before : List Entry
  after : List Entry
  entry : Entry
  is : h ≡ before ++ entry ∷ after
  front : numbered_from k before ≡ ys
  here : numbered_as (k + length before) entry ≡ r

numbered_cut : (k : ℕ) (h : List Entry) (ys : List Record) (r : Record) (zs : List Record)
    → numbered_from k h ≡ ys ++ r ∷ zs → IsNumberedCut k h ys r
numbered_cut k [] ys r zs e = absurd (nothing_in ys zs r e)
numbered_cut k (d ∷ h) [] r zs e = record {
  before = [];
  after = h;
  entry = d;
  is = refl;
  front = refl;
  here = let same : numbered_as k d ≡ r = cc in ap (λ n. numbered_as n d) (omega arith) ∙ same;
}
numbered_cut k (d ∷ h) (y ∷ ys) r zs e =
    let later : numbered_from (k + 1) h ≡ ys ++ r ∷ zs = cc in
    let same : numbered_as k d ≡ y = cc in
    let c = numbered_cut (k + 1) h ys r zs later in
    record {
      before = d ∷ c.before;
      after = c.after;
      entry = c.entry;
      is = ap (λ es. d ∷ es) c.is;
      front = ap (λ x. x ∷ numbered_from (k + 1) c.before) same ∙ ap (λ rs. y ∷ rs) c.front;
      here = ap (λ n. numbered_as n c.entry) (omega arith) ∙ c.here;
    }

-- an entry of the opening
record IsOpened (t : House) (i : ℕ) (es : List (Pair × Agreement)) (before : List Entry) (e : Entry) : Type 0 where
  front : List (Pair × Agreement)
  made : Pair × Agreement
  behind : List (Pair × Agreement)
  is : es ≡ front ++ made ∷ behind
  opened : opened_from t i front ≡ before
  here : opening_entry t (i + length front) made ≡ e

opened_cut : (t : House) (i : ℕ) (es : List (Pair × Agreement)) (before : List Entry) (e : Entry) (after : List Entry)
    → opened_from t i es ≡ before ++ e ∷ after → IsOpened t i es before e
opened_cut t i [] before e after h = absurd (nothing_in before after e h)
opened_cut t i (d ∷ es) [] e after h = record {
  front = [];
  made = d;
  behind = es;
  is = refl;
  opened = refl;
  here = let same : opening_entry t i d ≡ e = cc in ap (λ n. opening_entry t n d) (omega arith) ∙ same;
}
opened_cut t i (d ∷ es) (b ∷ before) e after h =
    let later : opened_from t (i + 1) es ≡ before ++ e ∷ after = cc in
    let same : opening_entry t i d ≡ b = cc in
    let c = opened_cut t (i + 1) es before e after later in
    record {
      front = d ∷ c.front;
      made = c.made;
      behind = c.behind;
      is = ap (λ ds. d ∷ ds) c.is;
      opened = ap (λ x. x ∷ opened_from t (i + 1) c.front) same ∙ ap (λ xs. b ∷ xs) c.opened;
      here = ap (λ n. opening_entry t n c.made) (omega arith) ∙ c.here;
    }

-- what each entry of a run is: accepted with its status, under an id of its own
record IsOwn (before : List Entry) (e : Entry) : Type 0 where
  status : e.status ≡ status_of e.firm e.command
  id : find (is_same_id (call_of e)) (records before) ≡ None

live_rises : (p : Record → Bool) (n : ℕ) (es : List Entry) → RisesFrom n (filter p (numbered_from n es))
live_rises p n [] = tt
live_rises p n (e ∷ es) =
    rises_kept n (numbered_as n e) (filter p (numbered_from (n + 1) es)) (omega arith) (live_rises p (n + 1) es)
    (p (numbered_as n e))

-- the numbers of the live changes rise
pub live_rise : (h : List Entry) → RisesFrom 0 (live h)
live_rise h =
    rises_later 0 1 (live h) (omega arith) (live_rises (λ r. is_change r.command && not (is_reversed h r.number)) 1 h)

module _ {t : House} {h : List Entry} (lawful : HasLawfulOpening t) (small : length t.opening ≤ most_entries)
    (run : IsRunFrom t (opening_history t) h) where
  opened_own : (before after : List Entry) (e : Entry) → opening_history t ≡ before ++ e ∷ after → IsOwn before e
  opened_own before after e cut =
      let c = opened_cut t 1 t.opening before e after (sym (opening_is t lawful small) ∙ cut) in
      let longer = length-append c.front (c.made ∷ c.behind) in
      let whole : length t.opening ≡ length (c.front ++ c.made ∷ c.behind) = ap length c.is in
      let fresh = no_id t c.front c.made (omega (arith, longer, whole, small)) in
      record {
        status = subst (λ (d : Entry). d.status ≡ status_of d.firm d.command) c.here refl;
        id = subst (λ b. find (is_same_id (call_of e)) (records b) ≡ None) c.opened
            (subst (λ (d : Entry). find (is_same_id (call_of d)) (records (opened_from t 1 c.front)) ≡ None) c.here
            fresh);
      }

  later_own : (before after : List Entry) (e : Entry) → h ≡ before ++ e ∷ after
      → length (opening_history t) ≤ length before → IsOwn before e
  later_own before after e cut le =
      let ok = run.accepted before after e cut le in
      let a = accepted_parts (find (is_same_call (call_of e)) (records before))
      (find (is_same_id (call_of e)) (records before)) (length before + 1) (status_of e.firm e.command)
      (first (unless (nat_lt (length before) most_entries) BookFull
      ∷ command_refusal t before e.firm e.command ∷ [])) (length before + 1) e.status ok in
      record { status = a.1.1.1; id = a.0 }

  own_by : (before after : List Entry) (e : Entry) → h ≡ before ++ e ∷ after → (b : Bool)
      → nat_lt (length before) (length (opening_history t)) ≡ b → IsOwn before e
  own_by before after e cut true is =
      let low = ltb-true (length before) (length (opening_history t)) is in
      let one = length-append before (e ∷ []) in
      let c = cut_behind (before ++ e ∷ []) after (opening_history t) run.begins.0
      (append_assoc before (e ∷ []) after ∙ (sym cut ∙ run.begins.1)) (omega (arith, low, one)) in
      opened_own before c.0 e (c.1 ∙ append_assoc before (e ∷ []) c.0)
  own_by before after e cut false is =
      later_own before after e cut (ltb-false (length before) (length (opening_history t)) is)

  own : (before after : List Entry) (e : Entry) → h ≡ before ++ e ∷ after → IsOwn before e
  own before after e cut = own_by before after e cut (nat_lt (length before) (length (opening_history t))) refl

  pub whole_live : length h ≤ most_entries → IsWhole t (live h)
  whole_live few =
      let p : Record → Bool = λ r. is_change r.command && not (is_reversed h r.number) in
      let fewer = count_by-le-length p (records h) in
      let is = length-filter p (records h) in
      let all = length_numbered 1 h in
      record {
        legal = legal_from_replay t (live h) (whole_run run).replayed;
        distinct = rises_distinct 1 (live h) (live_rises p 1 h);
        changes = all_cuts (λ (r : Record). is_change r.command ≡ true) (live h) (λ before after r e.
            (and_parts (is_change r.command) (not (is_reversed h r.number)) (listed p 1 h r before after e).passes).0);
        statuses = All-filter p (λ (r : Record). r.status ≡ status_of r.firm r.command) (records h)
            (all_cuts (λ (r : Record). r.status ≡ status_of r.firm r.command) (records h) (λ before after r e.
            let c = numbered_cut 1 h before r after e in
            subst (λ (r : Record). r.status ≡ status_of r.firm r.command) c.here
            (own c.before c.after c.entry c.is).status));
        ids = λ before after r e.
            let c = filter_cut p (records h) before r after e in
            let n = numbered_cut 1 h c.front r c.behind c.is in
            let one : find (is_same_id (call_in r)) c.front ≡ None =
            subst (λ ys. find (is_same_id (call_in r)) ys ≡ None) n.front
            (subst (λ (d : Record). find (is_same_id (call_in d)) (records n.before) ≡ None) n.here
            (own n.before n.after n.entry n.is).id) in
            subst (λ b. find (is_same_id (call_in r)) b ≡ None) c.kept
            (none_kept p (is_same_id (call_in r)) c.front one);
        few = omega (arith, fewer, is, all, few);
      }
