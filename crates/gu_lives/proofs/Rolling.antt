-- A book is rolled.
use Rattle.std.proofs.Common.{◌≡◌, ℕ, zero, ◌+◌, ◌<◌, ◌≤◌, Bool, true, not, ◌&&◌, List, [], ◌∷◌, ◌++◌, length}
use Rattle.std.proofs.Common.{refl, sym, ◌∙◌, ap, subst, cond, arith, map, Contains}
use Rattle.std.specs.Prelude.{filter}
use Rattle.std.proofs.lemmas.List.{map-append}
use Rattle.std.proofs.lemmas.List.Elements.{filter-append, Contains-append_left, Contains-append_right}
use Rattle.gu_base.specs.House.{House}
use Rattle.gu_base.specs.History.{numbered_as, numbered_from, records, live, is_change, is_reversed}
use Rattle.gu_base.specs.Runs.{IsRunFrom, opening_history}
use Rattle.gu_base.specs.declared.entry.Entry.{Entry}
use Rattle.gu_base.specs.declared.entry.Record.{Record}
use Rattle.gu_base.specs.declared.house.Pair.{Pair}
use Rattle.gu_base.specs.declared.house.Agreement.{Agreement}
use Rattle.gu_base.proofs.Opening.{opened_from, opened_length, opening_entry, opening_is}
use Rattle.gu_lives.specs.Extends.{Extends}
use Rattle.gu_lives.specs.Kept.{IsClosed}
use Rattle.gu_lives.specs.Renumbered.{mapped, mapped_record, entry_in, new_number, rolled, IsWhole}
use Rattle.gu_lives.specs.Roll.{CanRoll, IsRolled, kept}
use Rattle.gu_lives.proofs.Larger.{opening_same}
use Rattle.gu_lives.proofs.Mapped.{state_same}
use Rattle.gu_lives.proofs.Rolled.{new_one, rolled_live, rolled_run}
use Rattle.gu_lives.specs.Trades.{in_trades}
use Rattle.gu_lives.proofs.WholeTrades.{whole_trades}
use Rattle.gu_lives.proofs.WholeLive.{whole_grows, whole_kept, whole_live}

numbered_append : (k : ℕ) (g h : List Entry)
    → numbered_from k (g ++ h) ≡ numbered_from k g ++ numbered_from (k + length g) h
numbered_append k [] h = ap (λ n. numbered_from n h) (omega arith)
numbered_append k (e ∷ g) h =
    ap (λ rs. numbered_as k e ∷ rs)
    (numbered_append (k + 1) g h ∙ ap (λ n. numbered_from (k + 1) g ++ numbered_from n h) (omega arith))

-- the opening's entries pass a test that passes each change that sets terms and has one of the first numbers
opened_kept : (p : Record → Bool) (t : House) (k i : ℕ) (es : List (Pair × Agreement))
    → ((n j : ℕ) (e : Pair × Agreement) → k ≤ n → n < k + length es → p (numbered_as n (opening_entry t j e)) ≡ true)
    → filter p (numbered_from k (opened_from t i es)) ≡ numbered_from k (opened_from t i es)
opened_kept p t k i [] each = refl
opened_kept p t k i (e ∷ es) each =
    ap (λ b. cond b (numbered_as k (opening_entry t i e) ∷ filter p (numbered_from (k + 1) (opened_from t (i + 1) es)))
    (filter p (numbered_from (k + 1) (opened_from t (i + 1) es)))) (each k i e (omega arith) (omega arith))
    ∙ ap (λ rs. numbered_as k (opening_entry t i e) ∷ rs)
    (opened_kept p t (k + 1) (i + 1) es
    (λ n j d low high. each n j d (omega (arith, low)) (omega (arith, high))))

-- and are kept as they are, whatever their numbers
opened_back : (f : ℕ → ℕ) (t : House) (k i : ℕ) (es : List (Pair × Agreement))
    → map entry_in (mapped f (numbered_from k (opened_from t i es))) ≡ opened_from t i es
opened_back f t k i [] = refl
opened_back f t k i (e ∷ es) = ap (λ h. opening_entry t i e ∷ h) (opened_back f t (k + 1) (i + 1) es)

module _ {t : House} {h : List Entry} {keep : Record → Bool} (can : CanRoll t h) (closed : IsClosed (live h) keep) where
  abbrev opened : List Entry
  opened = opened_from t 1 t.opening

  opening : opening_history t ≡ opened
  opening = opening_is t can.lawful can.small

  -- the live changes begin with the opening's
  live_begins : (rest : List Record) × (live h ≡ records opened ++ rest)
  live_begins =
      let p : Record → Bool = λ r. is_change r.command && not (is_reversed h r.number) in
      let behind = can.run.begins.0 in
      let is : h ≡ opened ++ behind = can.run.begins.1 ∙ ap (λ o. o ++ behind) opening in
      let long : length (opening_history t) ≡ length t.opening = ap length opening ∙ opened_length t 1 t.opening in
      let later = numbered_from (1 + length opened) behind in (
        filter p later,
        ap (λ g. filter p (numbered_from 1 g)) is
            ∙ (ap (filter p) (numbered_append 1 opened behind)
            ∙ (filter-append p (records opened) later
            ∙ ap (λ rs. rs ++ filter p later)
            (opened_kept p t 1 1 t.opening
            (λ n j e low high. ap not (can.unreversed n low (omega (arith, high, long))))))),
      )

  among : (rest : List Record) → live h ≡ records opened ++ rest → (es : List (Pair × Agreement)) (k i : ℕ)
      → ((r : Record) → Contains (numbered_from k (opened_from t i es)) r → Contains (live h) r)
      → filter keep (numbered_from k (opened_from t i es)) ≡ numbered_from k (opened_from t i es)
  among rest is [] k i there = refl
  among rest is (e ∷ es) k i there =
      let r = numbered_as k (opening_entry t i e) in
      let later = numbered_from (k + 1) (opened_from t (i + 1) es) in
      let passes : keep r ≡ true = closed.terms r (there r (zero, omega arith, refl)) refl in
      ap (λ b. cond b (r ∷ filter keep later) (filter keep later)) passes
      ∙ ap (λ rs. r ∷ rs)
      (among rest is es (k + 1) (i + 1) (λ d at. there d (Contains-append_right (r ∷ []) later d at)))

  -- and so do those that are kept
  kept_begins : (rest : List Record) × (kept keep h ≡ records opened ++ rest)
  kept_begins =
      let b = live_begins in (
        filter keep b.0,
        ap (filter keep) b.1
            ∙ (filter-append keep (records opened) b.0
            ∙ ap (λ rs. rs ++ filter keep b.0)
            (among b.0 b.1 t.opening 1 1
            (λ r at. subst (λ z. Contains z r) (sym b.1) (Contains-append_left (records opened) b.0 r at)))),
      )

  whole : IsWhole t (kept keep h)
  whole = whole_kept t (live h) keep (whole_live can.lawful can.small can.run can.few) closed

  -- so the new history begins with the opening
  rolled_begins : (rest : List Entry) × (rolled (kept keep h) ≡ opened ++ rest)
  rolled_begins =
      let f = new_number (kept keep h) in
      let b = kept_begins in (
        map entry_in (mapped f b.0),
        ap (λ l. map entry_in (mapped f l)) b.1
            ∙ (ap (map entry_in) (map-append (mapped_record f) (records opened) b.0)
            ∙ (map-append entry_in (mapped f (records opened)) (mapped f b.0)
            ∙ ap (λ g. g ++ map entry_in (mapped f b.0)) (opened_back f t 1 1 t.opening))),
      )

  pub book_rolled : (u : House) → Extends t u → IsRolled u h keep
  book_rolled u ext =
      let w = whole_grows t u (kept keep h) ext.more whole in
      let run = rolled_run u (kept keep h) w in
      let b = rolled_begins in
      let same = opening_same ext.more ext.opening can.lawful can.small ∙ opening in
      record {
        run = record {
          begins = (b.0, b.1 ∙ ap (λ o. o ++ b.0) (sym same));
          accepted = λ before after e cut le. run.accepted before after e cut (omega arith);
        };
        live_is = rolled_live u (kept keep h) w;
        same = state_same (new_number (kept keep h)) (new_one (kept keep h)) (kept keep h) u;
      }

pub rolled_part : (t u : House) (h : List Entry) (keep : Record → Bool) → Extends t u → CanRoll t h
    → IsClosed (live h) keep → IsRolled u h keep
rolled_part t u h keep ext can closed = book_rolled can closed u ext

pub rolled_whole : (t u : House) (h : List Entry) → Extends t u → CanRoll t h → IsRolled u h (λ _. true)
rolled_whole t u h ext can =
    rolled_part t u h (λ _. true) ext can
    (record { terms = λ r among h. refl; below = λ k e a b under out. absurd (cc) })

pub rolled_trades : (t u : House) (h : List Entry) (p : ℕ → Bool) → Extends t u → CanRoll t h
    → IsRolled u h (in_trades (live h) p)
rolled_trades t u h p ext can =
    let w = whole_live can.lawful can.small can.run can.few in
    rolled_part t u h (in_trades (live h) p) ext can (whole_trades t (live h) p w.distinct w.legal)

-- a run from the empty history that begins with the opening is one from the opening
pub run_from : (t : House) (l : List Record) (rest : List Entry) → IsWhole t l → rolled l ≡ opening_history t ++ rest
    → IsRunFrom t (opening_history t) (rolled l)
run_from t l rest w is =
    let run = rolled_run t l w in
    record { begins = (rest, is); accepted = λ before after e cut le. run.accepted before after e cut (omega arith) }
