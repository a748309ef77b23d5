-- Each step on the count keeps its rule.
use Rattle.std.proofs.Common.{◌≡◌, ◌≢◌, ◌≤◌, ◌==◌, ℕ, zero, suc, ◌+◌, ◌-◌, List, [], ◌∷◌, ◌++◌, length, set, true}
use Rattle.std.proofs.Common.{false, true≢false, refl, sym, ap, ◌∙◌, subst, ⊎_elim, ◌⊎◌, inl, inr, arith, length-append}
use Rattle.std.proofs.Common.{append_assoc, append-nil, get_or}
use Rattle.std.specs.Prelude.{slice_index, slice_set}
use mathlib.Core.Option.{some, none, some-ne-none, some-injective}
use lib.ListN.{get_elem?}
use prog.Atomic.{either}
use Rattle.atomic_table.specs.Table.{step, keeps, opening, Allows, Splits, Joins, Me}
use Rattle.atomic_table.proofs.Lists.{at_set, at_snoc, set_again, exchanged}
use Rattle.gu_base.specs.Limits.{most_entries}
use Rattle.gu_base.specs.declared.entry.Entry.{Entry}
use Rattle.gu_desk.specs.Begins.{BeginsWith}
use Rattle.gu_desk.specs.Passes.{of_opening, of_book, of_journal, of_caller, beside, of_kind, with_laid_in}
use Rattle.gu_desk.specs.Passes.{with_seen_of, Fits, IsCounted, Looks, Publishes, Settles, Confirms, Compares, Orders}
use Rattle.gu_desk.specs.Passes.{with_kept_laid_in, without_journal, journal_of}
use Rattle.gu_desk.specs.declared.count.PassView.{PassView}

no_callers : {A : Type 0} → false ≡ true → A
no_callers e = absurd (true≢false (sym e))

-- ---- histories that begin one another

pub begins_itself : (h : List Entry) → BeginsWith h h
begins_itself h = record { rest = []; is = sym (append-nil h) }

pub begins_empty : (h : List Entry) → BeginsWith h []
begins_empty h = record { rest = h; is = refl }

pub begins_longer : (h seen more : List Entry) → BeginsWith h seen → BeginsWith (h ++ more) seen
begins_longer h seen more p =
    record { rest = p.rest ++ more; is = ap (λ (l : List Entry). l ++ more) p.is ∙ append_assoc seen p.rest more }

pub begins_with_all : (l h seen : List Entry) → BeginsWith l h → BeginsWith h seen → BeginsWith l seen
begins_with_all l h seen p q = subst (λ (x : List Entry). BeginsWith x seen) (sym p.is) (begins_longer h seen p.rest q)

-- of two lists that begin one, the shorter begins the longer
shorter : (a b r t : List Entry) → a ++ r ≡ b ++ t → length a ≤ length b → BeginsWith b a
shorter [] b r t e n = begins_empty b
shorter (x ∷ a) [] r t e n = absurd (omega (arith, n))
shorter (x ∷ a) (y ∷ b) r t e n =
    let first : x ≡ y = cc in
    let others : a ++ r ≡ b ++ t = cc in
    let p = shorter a b r t others (omega (arith, n)) in
    record {
      rest = p.rest;
      is = ap (λ (l : List Entry). y ∷ l) p.is ∙ ap (λ (z : Entry). z ∷ (a ++ p.rest)) (sym first);
    }

-- two that begin one history
pub both_begin : (h a b : List Entry) → BeginsWith h a → BeginsWith h b → length a ≤ length b → BeginsWith b a
both_begin h a b p q n = shorter a b p.rest q.rest (sym p.is ∙ q.is) n

-- a list is as long as what it begins with, at least
begins_short : (h seen : List Entry) → BeginsWith h seen → length seen ≤ length h
begins_short h seen p = omega (arith, ap (λ (l : List Entry). length l) p.is, length-append seen p.rest)

-- a caller's pass fits wherever it is
caller_fits : (place journal : ℕ) (h d : List Entry) (at : ℕ) (seen kept : List Entry) → BeginsWith h seen
    → BeginsWith d kept
    → Fits place journal h d
    at (record { seen = seen; laid_in = []; kept = kept; is_books = false; is_journals = false })
caller_fits place journal h d at seen kept p q = record {
  books = no_callers;
  journals = no_callers;
  seen = p;
  laid_in = begins_empty h;
  kept = q;
}

-- all passes fit after one has changed
fits_set : (place journal : ℕ) (h d : List Entry) (views : List PassView) (at : ℕ) (w : PassView)
    → ((j : ℕ) (u : PassView) → j ≢ at → get_elem? views j ≡ some u → Fits place journal h d j u)
    → Fits place journal h d at w → (j : ℕ) (u : PassView) → get_elem? (set views at w) j ≡ some u
    → Fits place journal h d j u
fits_set place journal h d views at w others mine j u e =
    ⊎_elim (λ (x : (j ≡ at) × (w ≡ u)).
    subst (λ (y : ℕ × PassView). Fits place journal h d y.0 y.1) (λ i. (sym x.0 i, x.1 i)) mine)
    (λ (x : (j ≢ at) × (get_elem? views j ≡ some u)). others j u x.0 x.1) (at_set views at j w u e)

-- make: the first pass is the book's and the journal's, and the words are the length and nothing
pub begins : (h : List Entry) → length h ≤ most_entries → IsCounted (opening (length h ∷ 0 ∷ []) [] (of_opening h))
begins h few = record {
  place = 0;
  journal = 0;
  history = h;
  durable = [];
  words = refl;
  begins = begins_empty h;
  few = few;
  fits = one;
}
  where
    one : (at : ℕ) (v : PassView) → get_elem? (of_opening h ∷ []) at ≡ some v → Fits 0 0 h [] at v
    one zero v e =
        subst (Fits 0 0 h [] 0) (some-injective _ _ e)
        (record {
          books = λ _. (refl, refl);
          journals = λ _. (refl, refl, begins_empty []);
          seen = begins_itself h;
          laid_in = begins_empty h;
          kept = begins_empty [];
        })
    one (suc at) v e = absurd (some-ne-none v (sym e))

-- split: a caller's pass has seen what the other has, and knows what it knows
pub gives : (id : ℕ) (v : PassView) → Splits IsCounted id v v (beside v)
gives id v s k here =
    let mine = k.fits id v here in
    record {
      place = k.place;
      journal = k.journal;
      history = k.history;
      durable = k.durable;
      words = k.words;
      begins = k.begins;
      few = k.few;
      fits = λ j u e.
          ⊎_elim (λ was. k.fits j u (subst (λ l. get_elem? l j ≡ some u) (set_again s.views id v here) was))
          (λ (same : beside v ≡ u).
          subst (Fits k.place k.journal k.history k.durable j) same
          (caller_fits k.place k.journal k.history k.durable j v.seen v.kept mine.seen mine.kept))
          (at_snoc (set s.views id v) (beside v) u j e);
    }

-- the last place of a list with one element more
at_end : (l : List PassView) (a b : PassView) (j : ℕ) → get_elem? (l ++ a ∷ []) j ≡ some b
    → (get_elem? l j ≡ some b) ⊎ ((j ≡ length l) × (a ≡ b))
at_end [] a b zero e = inr (refl, some-injective a b e)
at_end [] a b (suc j) e = absurd (some-ne-none b (sym e))
at_end (x ∷ xs) a b zero e = inl e
at_end (x ∷ xs) a b (suc j) e =
    ⊎_elim (λ t. inl t) (λ (t : (j ≡ length xs) × (a ≡ b)). inr (ap suc t.0, t.1)) (at_end xs a b j e)

-- split: the journal's pass leaves the first, and stands behind all
pub gives_journal : (id : ℕ) (h : List Entry) → Splits IsCounted id (of_opening h) (of_book h) (of_journal h [])
gives_journal id h s k here =
    let mine = k.fits id (of_opening h) here in
    let views = set s.views id (of_book h) in
    let place = length views in
    let was_there : (j : ℕ) (u : PassView) → get_elem? views j ≡ some u → Fits k.place place k.history k.durable j u =
    fits_set k.place place k.history k.durable s.views id (of_book h)
    (λ j u apart e.
    let y = k.fits j u e in
    record {
      books = y.books;
      journals = λ c. absurd (apart ((y.journals c).0 ∙ sym (mine.journals refl).0));
      seen = y.seen;
      laid_in = y.laid_in;
      kept = y.kept;
    })
    (record {
      books = mine.books;
      journals = no_callers;
      seen = mine.seen;
      laid_in = begins_empty k.history;
      kept = begins_empty k.durable;
    }) in
    record {
      place = k.place;
      journal = place;
      history = k.history;
      durable = k.durable;
      words = k.words;
      begins = k.begins;
      few = k.few;
      fits = λ j u e.
          ⊎_elim (λ was. was_there j u was)
          (λ (new : (j ≡ place) × (of_journal h [] ≡ u)).
          subst (Fits k.place place k.history k.durable j) new.1
          (record {
            books = no_callers;
            journals = λ _. (new.0, (mine.journals refl).1, begins_empty k.durable);
            seen = mine.seen;
            laid_in = begins_empty k.history;
            kept = mine.kept;
          }))
          (at_end views (of_journal h []) u j e);
    }

-- the same at a pass that is known to be the first
pub gives_journal_as : (id : ℕ) (v : PassView) (h : List Entry) → v ≡ of_opening h
    → Splits IsCounted id v (without_journal v) (journal_of v)
gives_journal_as id v h is =
    subst (λ (x : PassView). Splits IsCounted id x (without_journal x) (journal_of x)) (sym is) (gives_journal id h)

-- a pass into which another was laid fits, and so does what is left of that
joined : (id : ℕ) (v : PassView) (other : ℕ) (u w : PassView)
    → ((place journal : ℕ) (h d : List Entry) → BeginsWith h d → Fits place journal h d id v
    → Fits place journal h d other u → Fits place journal h d id w)
    → Joins IsCounted id v other u w (of_caller [])
joined id v other u w fit s k here apart there =
    let mine = k.fits id v here in
    let theirs = ⊎_elim (λ (t : (other ≡ id) × (w ≡ u)). absurd (apart t.0))
    (λ (t : (other ≢ id) × (get_elem? s.views other ≡ some u)). k.fits other u t.1)
    (at_set s.views id other w u there) in
    record {
      place = k.place;
      journal = k.journal;
      history = k.history;
      durable = k.durable;
      words = k.words;
      begins = k.begins;
      few = k.few;
      fits = fits_set k.place k.journal k.history k.durable (set s.views id w) other (of_caller [])
          (λ j x _ e.
          fits_set k.place k.journal k.history k.durable s.views id w (λ i y _ e'. k.fits i y e')
          (fit k.place k.journal k.history k.durable k.begins mine theirs) j x e)
          (caller_fits k.place k.journal k.history k.durable other [] [] (begins_empty k.history)
          (begins_empty k.durable));
    }

-- join: what the caller's pass has seen is laid into the other
pub joins : (id : ℕ) (v : PassView) (other : ℕ) (u : PassView) → v.is_journals ≡ false
    → Joins IsCounted id v other u (with_laid_in v u) (of_caller [])
joins id v other u not =
    joined id v other u (with_laid_in v u)
    (λ place journal h d _ mine theirs. record {
      books = mine.books;
      journals = λ c. no_callers (sym not ∙ c);
      seen = mine.seen;
      laid_in = theirs.seen;
      kept = mine.kept;
    })

-- join: the journal's pass has then seen what the other had
pub shows : (id : ℕ) (v : PassView) (other : ℕ) (u : PassView) → v.is_books ≡ false
    → Joins IsCounted id v other u (with_seen_of v u) (of_caller [])
shows id v other u callers =
    joined id v other u (with_seen_of v u)
    (λ place journal h d _ mine theirs. record {
      books = λ c. no_callers (sym callers ∙ c);
      journals = mine.journals;
      seen = theirs.seen;
      laid_in = mine.laid_in;
      kept = mine.kept;
    })

-- join: what the caller's pass knows to be durable is laid into the journal's
pub lays_kept : (id : ℕ) (v : PassView) (other : ℕ) (u : PassView)
    → Joins IsCounted id v other u (with_kept_laid_in v u) (of_caller [])
lays_kept id v other u =
    joined id v other u (with_kept_laid_in v u) (λ place journal h d begun mine theirs. record {
      books = mine.books;
      journals = λ c. let y = mine.journals c in (y.0, y.1, theirs.kept);
      seen = mine.seen;
      laid_in = begins_with_all h d u.kept begun theirs.kept;
      kept = mine.kept;
    })

-- look: the book's pass has seen the history, whose length the word is, and which begins with what was laid into it
pub looks : (slots id : ℕ) (v : PassView) → v.is_books ≡ true
    → Allows IsCounted slots id (v, []) 0 (λ n. n) (Looks (step slots 0 0 0 none) (v, []))
looks slots id v is s k _ here _ =
    let mine = k.fits id v here in
    let all = (mine.books is).1 in
    let w = of_kind v v.seen [] v.kept in (
      w,
      keeps,
      tt,
      record {
        place = k.place;
        journal = k.journal;
        history = k.history;
        durable = k.durable;
        words = ap (λ ws. slice_set ws 0 (slice_index ws 0)) k.words;
        begins = k.begins;
        few = k.few;
        fits = fits_set k.place k.journal k.history k.durable s.views id w (λ j u _ e. k.fits j u e)
            (record {
              books = mine.books;
              journals = λ c. let y = mine.journals c in (y.0, y.1, begins_empty k.durable);
              seen = mine.seen;
              laid_in = begins_empty k.history;
              kept = mine.kept;
            });
      },
      (
        ap (λ ws. slice_index ws 0) k.words ∙ ap (λ (l : List Entry). length l) (sym all),
        subst (λ l. BeginsWith l v.laid_in) (sym all) mine.laid_in,
        refl,
      ),
    )

-- the same at a pass that is known by what it was
pub looks_as : (slots id : ℕ) (me : Me Entry PassView) (v : PassView) → me ≡ (v, []) → v.is_books ≡ true
    → Allows IsCounted slots id me 0 (λ n. n) (Looks (step slots 0 0 0 none) me)
looks_as slots id me v same is =
    subst (λ (m : Me Entry PassView). Allows IsCounted slots id m 0 (λ n. n) (Looks (step slots 0 0 0 none) m))
    (sym same) (looks slots id v is)

exchanged_to : (n old new : ℕ) → n ≡ old → either (n == old) new n ≡ new
exchanged_to n old new e = exchanged n old new (λ k. k ≡ new) (λ _. refl) (λ ne. absurd (ne e))

-- publish: the record stands behind the history
pub publishes : (slots id : ℕ) (h : List Entry) (old : ℕ) (e : Entry) → old ≡ length h
    → length (h ++ e ∷ []) ≤ most_entries
    → Allows IsCounted slots id (of_book h, []) 0 (λ n. either (n == old) (old + 1) n)
    (Publishes (step slots 0 old (old + 1) (some e)) (of_book h, []))
publishes slots id h old e is few s k _ here _ =
    let mine = k.fits id (of_book h) here in
    let known = mine.books refl in
    let w = of_book (h ++ e ∷ []) in
    let longer = k.history ++ e ∷ [] in
    let found : length k.history ≡ old = sym (is ∙ ap (λ (l : List Entry). length l) known.1) in
    let n : either (length k.history == old) (old + 1) (length k.history) ≡ length longer =
    exchanged_to (length k.history) old (old + 1) found ∙ omega (arith, found, length-append k.history (e ∷ [])) in (
      w,
      keeps,
      tt,
      record {
        place = k.place;
        journal = k.journal;
        history = longer;
        durable = k.durable;
        words = ap (λ ws. slice_set ws 0 (either (slice_index ws 0 == old) (old + 1) (slice_index ws 0))) k.words
            ∙ ap (λ (x : ℕ). x ∷ length k.durable ∷ []) n;
        begins = begins_longer k.history k.durable (e ∷ []) k.begins;
        few = subst (λ (l : List Entry). length (l ++ e ∷ []) ≤ most_entries) known.1 few;
        fits = fits_set k.place k.journal longer k.durable s.views id w
            (λ j u apart f.
            let y = k.fits j u f in
            record {
              books = λ c. absurd (apart ((y.books c).0 ∙ sym known.0));
              journals = y.journals;
              seen = begins_longer k.history u.seen (e ∷ []) y.seen;
              laid_in = begins_longer k.history u.laid_in (e ∷ []) y.laid_in;
              kept = y.kept;
            })
            (record {
              books = λ _. (known.0, ap (λ l. l ++ e ∷ []) known.1);
              journals = no_callers;
              seen = subst (λ l. BeginsWith longer (l ++ e ∷ [])) (sym known.1) (begins_itself longer);
              laid_in = begins_empty longer;
              kept = begins_empty k.durable;
            });
      },
      refl,
    )

-- the same at a pass that is known by what it was
pub publishes_as : (slots id : ℕ) (me : Me Entry PassView) (h : List Entry) (old : ℕ) (e : Entry) → me ≡ (of_book h, [])
    → old ≡ length h → length (h ++ e ∷ []) ≤ most_entries
    → Allows IsCounted slots id me 0 (λ n. either (n == old) (old + 1) n)
    (Publishes (step slots 0 old (old + 1) (some e)) me)
publishes_as slots id me h old e same is few =
    subst (λ (m : Me Entry PassView).
    Allows IsCounted slots id m 0 (λ n. either (n == old) (old + 1) n)
    (Publishes (step slots 0 old (old + 1) (some e)) m))
    (sym same) (publishes slots id h old e is few)

-- settle: the pass knows of all that is durable, of which the word is the length
pub settles : (slots id : ℕ) (me : Me Entry PassView)
    → Allows IsCounted slots id me 1 (λ n. n) (Settles (step slots 1 0 0 none) me)
settles slots id me s k _ here _ =
    let v = me.0 in
    let mine = k.fits id v here in
    let w = of_kind v v.seen v.laid_in k.durable in
    let found : slice_index s.words 1 ≡ length k.durable = ap (λ ws. slice_index ws 1) k.words in (
      w,
      keeps,
      tt,
      record {
        place = k.place;
        journal = k.journal;
        history = k.history;
        durable = k.durable;
        words = ap (λ ws. slice_set ws 1 (slice_index ws 1)) k.words;
        begins = k.begins;
        few = k.few;
        fits = fits_set k.place k.journal k.history k.durable s.views id w (λ j u _ e. k.fits j u e)
            (record {
              books = mine.books;
              journals = λ is. let y = mine.journals is in (y.0, refl, y.2);
              seen = mine.seen;
              laid_in = mine.laid_in;
              kept = begins_itself k.durable;
            });
      },
      (
        found,
        omega (arith, found, begins_short k.history k.durable k.begins, k.few),
        mine.kept,
        (λ n. both_begin k.history v.seen k.durable mine.seen k.begins (omega (arith, n, found))),
        refl,
      ),
    )

-- confirm: what is durable is then all that the journal's pass has seen
pub confirms : (slots id : ℕ) (h d : List Entry) (records : ℕ) → records ≡ length h → BeginsWith h d
    → Allows IsCounted slots id (of_journal h d, []) 1 (λ _. records)
    (λ _. Confirms (step slots 1 records 0 none) (of_journal h d, []) records)
confirms slots id h d records all grown s k _ here _ =
    let mine = k.fits id (of_journal h d) here in
    let known = mine.journals refl in
    let grown : BeginsWith h k.durable = subst (λ (l : List Entry). BeginsWith h l) known.1 grown in
    let w = of_journal h h in (
      w,
      keeps,
      tt,
      record {
        place = k.place;
        journal = k.journal;
        history = k.history;
        durable = h;
        words = ap (λ ws. slice_set ws 1 records) k.words ∙ ap (λ (n : ℕ). length k.history ∷ n ∷ []) all;
        begins = mine.seen;
        few = k.few;
        fits = fits_set k.place k.journal k.history h s.views id w
            (λ j u apart e.
            let y = k.fits j u e in
            record {
              books = y.books;
              journals = λ c. absurd (apart ((y.journals c).0 ∙ sym known.0));
              seen = y.seen;
              laid_in = y.laid_in;
              kept = begins_with_all h k.durable u.kept grown y.kept;
            })
            (record {
              books = no_callers;
              journals = λ _. (known.0, refl, begins_empty h);
              seen = mine.seen;
              laid_in = begins_empty k.history;
              kept = begins_itself h;
            });
      },
      refl,
    )

-- the same at a pass that is known by what it was
pub confirms_as : (slots id : ℕ) (me : Me Entry PassView) (h d : List Entry) (records : ℕ) → me ≡ (of_journal h d, [])
    → records ≡ length h → BeginsWith h d
    → Allows IsCounted slots id me 1 (λ _. records) (λ _. Confirms (step slots 1 records 0 none) me records)
confirms_as slots id me h d records same all grown =
    subst (λ (m : Me Entry PassView).
    Allows IsCounted slots id m 1 (λ _. records) (λ _. Confirms (step slots 1 records 0 none) m records))
    (sym same) (confirms slots id h d records all grown)

-- compare: what the journal's pass knows is what is durable, which begins with what was laid into it
pub compares : (slots id : ℕ) (v : PassView) → v.is_journals ≡ true
    → Allows IsCounted slots id (v, []) 1 (λ n. n) (Compares (step slots 1 0 0 none) (v, []))
compares slots id v is s k _ here _ =
    let mine = k.fits id v here in
    let known = mine.journals is in
    let w = of_kind v v.seen [] v.kept in (
      w,
      keeps,
      tt,
      record {
        place = k.place;
        journal = k.journal;
        history = k.history;
        durable = k.durable;
        words = ap (λ ws. slice_set ws 1 (slice_index ws 1)) k.words;
        begins = k.begins;
        few = k.few;
        fits = fits_set k.place k.journal k.history k.durable s.views id w (λ j u _ e. k.fits j u e)
            (record {
              books = mine.books;
              journals = λ _. (known.0, known.1, begins_empty k.durable);
              seen = mine.seen;
              laid_in = begins_empty k.history;
              kept = mine.kept;
            });
      },
      (subst (λ (l : List Entry). BeginsWith l v.laid_in) (sym known.1) known.2, refl),
    )

-- the same at a pass that is known by what it was
pub compares_as : (slots id : ℕ) (me : Me Entry PassView) (v : PassView) → me ≡ (v, []) → v.is_journals ≡ true
    → Allows IsCounted slots id me 1 (λ n. n) (Compares (step slots 1 0 0 none) me)
compares_as slots id me v same is =
    subst (λ (m : Me Entry PassView). Allows IsCounted slots id m 1 (λ n. n) (Compares (step slots 1 0 0 none) m))
    (sym same) (compares slots id v is)

-- order: what a caller's pass has seen and what was laid into it begin one history
pub orders : (slots id : ℕ) (v : PassView) → v.is_journals ≡ false
    → Allows IsCounted slots id (v, []) 0 (λ n. n) (Orders (step slots 0 0 0 none) (v, []))
orders slots id v not s k _ here _ =
    let mine = k.fits id v here in
    let w = of_kind v v.seen [] v.kept in (
      w,
      keeps,
      tt,
      record {
        place = k.place;
        journal = k.journal;
        history = k.history;
        durable = k.durable;
        words = ap (λ ws. slice_set ws 0 (slice_index ws 0)) k.words;
        begins = k.begins;
        few = k.few;
        fits = fits_set k.place k.journal k.history k.durable s.views id w (λ j u _ e. k.fits j u e)
            (record {
              books = mine.books;
              journals = λ c. no_callers (sym not ∙ c);
              seen = mine.seen;
              laid_in = begins_empty k.history;
              kept = mine.kept;
            });
      },
      ((λ n. both_begin k.history v.laid_in v.seen mine.laid_in mine.seen n), refl),
    )

-- the same at a pass that is known by what it was
pub orders_as : (slots id : ℕ) (me : Me Entry PassView) (v : PassView) → me ≡ (v, []) → v.is_journals ≡ false
    → Allows IsCounted slots id me 0 (λ n. n) (Orders (step slots 0 0 0 none) me)
orders_as slots id me v same not =
    subst (λ (m : Me Entry PassView). Allows IsCounted slots id m 0 (λ n. n) (Orders (step slots 0 0 0 none) m))
    (sym same) (orders slots id v not)

-- the last of a list with one element more
last_is : (h : List Entry) (e d : Entry) → get_or (h ++ e ∷ []) (length h) d ≡ e
last_is [] e d = refl
last_is (x ∷ xs) e d = last_is xs e d

-- the place of the last record of a history that gained one
pub last_place : (h k : List Entry) (e : Entry) → k ≡ h ++ e ∷ [] → length k - 1 ≡ length h
last_place h k e more = let n = ap (λ (l : List Entry). length l) more in omega (arith, n, length-append h (e ∷ []))

-- what stands there is the record that it gained
pub gained_is : (h k : List Entry) (e last : Entry) → k ≡ h ++ e ∷ [] → last ≡ get_or k (length k - 1) last
    → h ++ last ∷ [] ≡ k
gained_is h k e last more at =
    let same : last ≡ e = at ∙ (ap (λ (n : ℕ). get_or k n last) (last_place h k e more)
    ∙ (ap (λ (l : List Entry). get_or l (length h) last) more ∙ last_is h e last)) in
    ap (λ (x : Entry). h ++ x ∷ []) same ∙ sym more
