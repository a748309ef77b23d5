-- The lines read so far.
use Rattle.std.proofs.Common.{◌≡◌, ◌≤◌, ◌<◌, ℕ, ◌+◌, ◌-◌, Bool, true, false, List, [], ◌∷◌, ◌++◌, length, take, map, Ok}
use Rattle.std.proofs.Common.{Err, Result, Option, Some, None, refl, sym, ap, ◌∙◌, arith, length-append, append_assoc}
use Rattle.std.specs.Prelude.{nat_lt}
use Rattle.std.specs.List.{filter_map, cons_option, enumerate_from}
use Rattle.std.proofs.lemmas.Grind.{common_steps}
use Rattle.std.proofs.lemmas.List.{length-map}
use Rattle.gu_base.specs.House.{House}
use Rattle.gu_parties.specs.Words.{words}
use Rattle.gu_parties.specs.Table.{table_of, is_opening, opened_if}
use Rattle.gu_parties.specs.Causes.{house_cause, version_cause}
use Rattle.gu_parties.specs.Steps.{add_line, Fails, house_alone}
use Rattle.gu_parties.specs.HouseFile.{at_line, line_cause, later_faults, second_word, faults_of, house_of_lines}
use Rattle.gu_parties.specs.HouseFile.{unless_faulty}
use Rattle.gu_parties.specs.Parsing.{Stops, StopsBehind, Gives, GivesBehind, IsCleanUpto, house_behind}
use Rattle.gu_parties.proofs.Stated.{added, refused, addable, table_more}
use Rattle.gu_parties.specs.declared.fault.HouseError.{HouseError}
use Rattle.gu_parties.specs.declared.fault.Cause.{Cause}
use Rattle.gu_parties.specs.declared.fault.Cause.TheVariants.{TooManyLines, BadVersion, NoHouse, BadLine, BadName}
use Rattle.gu_parties.specs.declared.fault.Cause.TheVariants.{BadNumber, OwnAgreement, UnknownName, NamedTwice, Memory}
use Rattle.gu_parties.specs.Limits.{most_lines}

-- the faults of the lines `rest`, which stand behind the lines `done`
abbrev pub faults_behind : List ℕ → List (List (List ℕ)) → List (List (List ℕ)) → List (ℕ × Cause)
faults_behind house done [] = []
faults_behind house done (ws ∷ rest) =
    cons_option (at_line (3 + length done) (line_cause (3 + length done) (table_of house done) ws))
    (faults_behind house (done ++ ws ∷ []) rest)

-- the faults of all lines are those of the ones read and of the others
take_done : (done rest : List (List (List ℕ))) → take (length done) (done ++ rest) ≡ done
take_done done rest = grind (arith, common_steps)

faults_split : (house : List ℕ) (all done rest : List (List (List ℕ))) → all ≡ done ++ rest
    → filter_map (λ e. at_line e.0 (line_cause e.0 (table_of house (take (e.0 - 3) all)) e.1))
    (enumerate_from (3 + length done) rest)
    ≡ faults_behind house done rest
faults_split house all done [] s = refl
faults_split house all done (ws ∷ rest) s =
    let place : 3 + length done - 3 ≡ length done = omega arith in
    let before : take (3 + length done - 3) all ≡ done = rw (place, s) (take_done done (ws ∷ rest)) in
    let next : 3 + length done + 1 ≡ 3 + length (done ++ ws ∷ []) = omega (arith, length-append done (ws ∷ [])) in
    let split : all ≡ (done ++ ws ∷ []) ++ rest = rw append_assoc s in
    rw (before, next, faults_split house all (done ++ ws ∷ []) rest split) refl

faults_all : (house : List ℕ) (all : List (List (List ℕ))) → later_faults house all ≡ faults_behind house [] all
faults_all house all = faults_split house all [] all refl

-- no fault behind these lines is at one of them, or before them
faults_later : (house : List ℕ) (n : ℕ) (done rest : List (List (List ℕ))) → n < 3 + length done
    → IsCleanUpto n (faults_behind house done rest)
faults_later house n done [] h = refl
faults_later house n done (ws ∷ rest) h =
    by (line_cause (3 + length done) (table_of house done) ws) refl
    (faults_later house n (done ++ ws ∷ []) rest (omega (arith, length-append done (ws ∷ []))))
  where
    by : (c : Option Cause) → line_cause (3 + length done) (table_of house done) ws ≡ c
        → IsCleanUpto n (faults_behind house (done ++ ws ∷ []) rest)
        → IsCleanUpto n (faults_behind house done (ws ∷ rest))
    by None e later = rw e later
    by (Some c) e later =
        let behind : nat_lt n (3 + length done) ≡ true = grind (arith, common_steps) in
        rw (e, behind) later

-- the lines up to line n have no cause, and `done`, those from line 3 on, gave the table u; `rest` is still to be read
pub record Reads (house : List ℕ) (all rest : List (List (List ℕ))) (n : ℕ) (u : House) : Type 0 where
  pub done : List (List (List ℕ))
  pub split : all ≡ done ++ rest
  pub count : n ≡ 3 + length done
  pub faults : later_faults house all ≡ faults_behind house done rest
  pub table : u ≡ table_of house done

-- none is read yet
pub reads_none : (house : List ℕ) (all : List (List (List ℕ))) → Reads house all all 3 (house_alone house)
reads_none house all = record { done = []; split = refl; count = refl; faults = faults_all house all; table = refl }

module _ (house : List ℕ) (ls : List (List ℕ)) (line : List ℕ) (rest : List (List (List ℕ))) (n : ℕ) (u : House)
    (r : Reads house (map words ls) (words line ∷ rest) n u) where
  -- the fault of this line, then those behind it
  here : later_faults house (map words ls)
      ≡ cons_option (at_line n (line_cause n u (words line))) (faults_behind house (r.done ++ words line ∷ []) rest)
  here = r.faults ∙ rw (← r.count, ← r.table) refl

  -- there is a line too many
  pub reads_many : nat_lt most_lines n ≡ true → house_behind house ls ≡ Err (n, TooManyLines)
  reads_many h = rw (here, h) refl

  -- the line was added
  pub reads_more : (v : House) → nat_lt most_lines n ≡ false → add_line u (words line) ≡ Ok v
      → Reads house (map words ls) rest (n + 1) v
  reads_more v h e =
      let none = added u v (words line) e in
      record {
        done = r.done ++ words line ∷ [];
        split = rw append_assoc r.split;
        count = omega (arith, length-append r.done (words line ∷ []), r.count);
        faults = here ∙ rw (h, none.0) refl;
        table = sym none.1 ∙ rw r.table (sym (table_more house r.done (words line)));
      }

  -- the line has a cause
  stop_cause : (c : Cause) → nat_lt most_lines n ≡ false → add_line u (words line) ≡ Err c
      → house_behind house ls ≡ Err (n, c)
  stop_cause c h e = rw (here, h, refused u c (words line) e) refl

  pub reads_stop : (c : Cause) → nat_lt most_lines n ≡ false → Fails c (add_line u (words line))
      → StopsBehind c n house ls
  reads_stop Memory h e =
      let long : length ls ≡ length r.done + (length rest + 1) =
      omega (arith, ap length r.split, length-append r.done (words line ∷ rest), length-map ls words) in
      let clean : IsCleanUpto n (faults_behind house (r.done ++ words line ∷ []) rest) = faults_later house n
      (r.done ++ words line ∷ []) rest (omega (arith, length-append r.done (words line ∷ []), r.count)) in
      (omega (arith, r.count), omega (arith, r.count), rw (here, h, addable u (words line) e) clean)
  reads_stop TooManyLines h e = stop_cause TooManyLines h e
  reads_stop BadVersion h e = stop_cause BadVersion h e
  reads_stop NoHouse h e = stop_cause NoHouse h e
  reads_stop BadLine h e = stop_cause BadLine h e
  reads_stop BadName h e = stop_cause BadName h e
  reads_stop BadNumber h e = stop_cause BadNumber h e
  reads_stop OwnAgreement h e = stop_cause OwnAgreement h e
  reads_stop UnknownName h e = stop_cause UnknownName h e
  reads_stop NamedTwice h e = stop_cause NamedTwice h e

-- a fault stays one, whatever the table
still_faulty : (fs : List (ℕ × Cause)) (t u : House) (e : ℕ × Cause) → unless_faulty fs t ≡ Err e
    → unless_faulty fs u ≡ Err e
still_faulty [] t u e h = cc
still_faulty (f ∷ fs) t u e h = cc

-- where there is no fault, the table is by the version
pub opened_behind : (opens : Bool) (house : List ℕ) (ls : List (List ℕ)) (t : House) → house_behind house ls ≡ Ok t
    → unless_faulty (later_faults house (map words ls)) (opened_if opens (table_of house (map words ls)))
    ≡ Ok (opened_if opens t)
opened_behind opens house ls t h = by (later_faults house (map words ls)) refl
  where
    by : (fs : List (ℕ × Cause)) → later_faults house (map words ls) ≡ fs
        → unless_faulty (later_faults house (map words ls)) (opened_if opens (table_of house (map words ls)))
        ≡ Ok (opened_if opens t)
    by [] e =
        let same : Ok (table_of house (map words ls)) ≡ Ok t = rw e at h in
        let is : table_of house (map words ls) ≡ t = cc in
        rw e (ap (λ (u : House). Ok (opened_if opens u)) is)
    by (f ∷ fs) e = let no : Err f ≡ Ok t = rw e at h in cc

module _ (version second house : List ℕ) (ls : List (List ℕ)) (v : version_cause (Some version) ≡ None)
    (h : house_cause (Some (words second)) ≡ None) (w : second_word (Some (words second)) ≡ house) where
  -- ---- the whole file

  whole : house_of_lines (version ∷ second ∷ ls)
      ≡ unless_faulty (later_faults house (map words ls))
      (opened_if (is_opening version) (table_of house (map words ls)))
  whole = rw (v, h, w) refl

  faults_whole : faults_of (version ∷ second ∷ ls) ≡ later_faults house (map words ls)
  faults_whole = rw (v, h, w) refl

  stop : (c : Cause) (n : ℕ) → house_behind house ls ≡ Err (n, c) → house_of_lines (version ∷ second ∷ ls) ≡ Err (n, c)
  stop c n s = whole ∙ still_faulty (later_faults house (map words ls)) _ _ (n, c) s

  stops_behind : (c : Cause) (n : ℕ) → StopsBehind c n house ls → Stops c n (version ∷ second ∷ ls)
  stops_behind Memory n s = (s.0, omega (arith, s.1), rw faults_whole s.2)
  stops_behind TooManyLines n s = stop TooManyLines n s
  stops_behind BadVersion n s = stop BadVersion n s
  stops_behind NoHouse n s = stop NoHouse n s
  stops_behind BadLine n s = stop BadLine n s
  stops_behind BadName n s = stop BadName n s
  stops_behind BadNumber n s = stop BadNumber n s
  stops_behind OwnAgreement n s = stop OwnAgreement n s
  stops_behind UnknownName n s = stop UnknownName n s
  stops_behind NamedTwice n s = stop NamedTwice n s

  pub gives_all : (r : Result House HouseError) → GivesBehind (is_opening version) r house ls
      → Gives r (version ∷ second ∷ ls)
  gives_all (Ok u) e = whole ∙ e
  gives_all (Err e) s = stops_behind e.cause e.line s

-- a line that isn't one too many
pub within_last : (n : ℕ) → n ≤ most_lines → nat_lt most_lines n ≡ false
within_last n h = grind (arith, common_steps)
