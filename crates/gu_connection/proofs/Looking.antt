-- What a connection notes of a reading: the last report that it told of, and up to which entry it has looked.
use Rattle.std.proofs.Common.{◌≡◌, ℕ, ◌-◌, List, [], ◌∷◌, length, refl, arith, ap, ◌∙◌}
use Rattle.std.specs.Prelude.{slice_get}
use Rattle.std.specs.Option.{option_map_or}
use Rattle.gu_base.specs.declared.entry.Entry.{Entry}
use Rattle.gu_base.specs.declared.report.Report.{Report}
use Rattle.gu_trace.specs.Between.{last_told, looked_to, HasLooked}

-- the number of the last of some reports is that of the last in the list
last_at : (x : Report) (l : List Report) (before : ℕ)
    → option_map_or (λ (r : Report). r.number) (slice_get (x ∷ l) (length l)) before ≡ last_told x.number l
last_at x [] before = refl
last_at x (y ∷ l) before = last_at y l before

pub last_of : (l : List Report) (before : ℕ)
    → option_map_or (λ (r : Report). r.number) (slice_get l (length l - 1)) before ≡ last_told before l
last_of [] before = refl
last_of (x ∷ l) before =
    let at : length (x ∷ l) - 1 ≡ length l = omega arith in
    ap (λ (i : ℕ). option_map_or (λ (r : Report). r.number) (slice_get (x ∷ l) i) before) at ∙ last_at x l before

-- what a reading at a history of so many entries leaves of where the readings have looked
pub noted : (house : List ℕ) (h : List Entry) (f : List ℕ) (sent looked entries told to : ℕ)
    (read reports : List Report) → length h ≡ entries → reports ≡ read → told ≡ last_told sent reports
    → to ≡ looked_to looked entries reports
    → HasLooked house h f (last_told sent read) (looked_to looked (length h) read) → HasLooked house h f told to
noted house h f sent looked entries told to read reports long same last up has = rw (last, up, same, ← long) has
