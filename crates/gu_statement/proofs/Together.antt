-- Histories that agree in the entries of a firm's statement agree in what reports may show.
use Rattle.std.proofs.Common.{◌≡◌, ℕ, ◌+◌, ◌<◌, Bool, true, false, List, [], ◌∷◌, refl, sym, ◌∙◌}
use Rattle.std.proofs.Common.{ap, arith, Option, cond, eqb}
use Rattle.std.specs.Prelude.{Some, None, find, filter, map, ◌||◌, ◌==◌, option_and_then}
use Rattle.std.specs.List.{filter_map, cons_option}
use Rattle.std.proofs.lemmas.Bool.{false_from_ne_true}
use Rattle.std.proofs.lemmas.Bool.Decides.{Decides-eqb}
use Rattle.gu_base.specs.House.{House}
use Rattle.gu_base.specs.History.{numbered_as, numbered_from, records}
use Rattle.gu_base.specs.Answers.{entry_of}
use Rattle.gu_base.specs.declared.command.Command.{Command}
use Rattle.gu_base.specs.declared.command.Command.TheVariants.{Trade, Split, Claim, Refuse, Cancel, Agree, Raise}
use Rattle.gu_base.specs.declared.command.Command.TheVariants.{Initiate, Decline, Reverse}
use Rattle.gu_base.specs.declared.entry.Entry.{Entry}
use Rattle.gu_base.specs.declared.entry.Record.{Record}
use Rattle.gu_trace.specs.Concerns.{concerns, change_concerns, record_concerns}
use Rattle.gu_statement.specs.Sight.{Seen, without_parts, seen_of, seen}
use Rattle.gu_statement.specs.Lines.{EntryLine, entry_line, entry_lines, involves, is_terms_in, LookAlike}

abbrev line_at : List EntryLine → ℕ → Option EntryLine
line_at s k = find (λ (e : EntryLine). e.entry.number == k) s

abbrev line_or_none : List ℕ → List Entry → List ℕ → Record → Option EntryLine
line_or_none house h f r = cond (involves house h f r.firm r.command) (Some (entry_line h f r)) None

abbrev lines_from : List ℕ → List Entry → List ℕ → ℕ → List Entry → List EntryLine
lines_from house h f m es = filter_map (line_or_none house h f) (numbered_from m es)

none_first : (k : ℕ) (w : EntryLine) (c : Bool) (rest : List EntryLine) → eqb w.entry.number k ≡ false
    → None ≡ line_at rest k → None ≡ line_at (cons_option (cond c (Some w) None) rest) k
none_first k w false rest is later = later
none_first k w true rest is later = later ∙ ap (λ b. cond b (Some w) (line_at rest k)) (sym is)

none_at : (house f : List ℕ) (h : List Entry) (k m : ℕ) (es : List Entry) → k < m
    → None ≡ line_at (lines_from house h f m es) k
none_at house f h k m [] low = refl
none_at house f h k m (e ∷ es) low =
    none_first k (entry_line h f (numbered_as m e)) (involves house h f e.firm e.command)
    (lines_from house h f (m + 1) es)
    (false_from_ne_true (eqb m k) (λ s. let same : m ≡ k = (Decides-eqb m k).0 s in omega (arith, low, same)))
    (none_at house f h k (m + 1) es (omega (arith, low)))

look_first : (k : ℕ) (r : Record) (o : Option Record) (p : Record → Option EntryLine) (w : EntryLine) (c b : Bool)
    (rest : List EntryLine) → p r ≡ cond c (Some w) None → eqb w.entry.number k ≡ b
    → (b ≡ true → None ≡ line_at rest k) → line_at rest k ≡ option_and_then p o
    → line_at (cons_option (cond c (Some w) None) rest) k ≡ option_and_then p (cond b (Some r) o)
look_first k r o p w true true rest of is none later = ap (λ d. cond d (Some w) (line_at rest k)) is ∙ sym of
look_first k r o p w true false rest of is none later = ap (λ d. cond d (Some w) (line_at rest k)) is ∙ later
look_first k r o p w false true rest of is none later = sym (none refl) ∙ sym of
look_first k r o p w false false rest of is none later = later

look_from : (house f : List ℕ) (h : List Entry) (k m : ℕ) (es : List Entry) → line_at (lines_from house h f m es) k
    ≡ option_and_then (line_or_none house h f) (find (λ (r : Record). r.number == k) (numbered_from m es))
look_from house f h k m [] = refl
look_from house f h k m (e ∷ es) =
    look_first k (numbered_as m e) (find (λ (r : Record). r.number == k) (numbered_from (m + 1) es))
    (line_or_none house h f) (entry_line h f (numbered_as m e)) (involves house h f e.firm e.command) (eqb m k)
    (lines_from house h f (m + 1) es) refl refl
    (λ s. let same : m ≡ k = (Decides-eqb m k).0 s in none_at house f h k (m + 1) es (omega (arith, same)))
    (look_from house f h k (m + 1) es)

-- the lines as they are filtered and made
made_step : (w : EntryLine) (r : Record) (p : Record → EntryLine) (c : Bool) (rs : List Record) (rest : List EntryLine)
    → p r ≡ w → map p rs ≡ rest → map p (cond c (r ∷ rs) rs) ≡ cons_option (cond c (Some w) None) rest
made_step w r p false rs rest is later = later
made_step w r p true rs rest is later = ap (λ x. x ∷ map p rs) is ∙ ap (λ xs. w ∷ xs) later

made : (p : Record → EntryLine) (c : Record → Bool) (rs : List Record)
    → map p (filter c rs) ≡ filter_map (λ r. cond (c r) (Some (p r)) None) rs
made p c [] = refl
made p c (r ∷ rs) =
    made_step (p r) r p (c r) (filter c rs) (filter_map (λ r. cond (c r) (Some (p r)) None) rs) refl (made p c rs)

-- ---- which of the lines concern the firm

abbrev moves : Command → Bool
moves (Trade _ _ _ _ _) = true
moves (Split _ _) = true
moves (Claim _ _) = true
moves (Refuse _) = true
moves (Cancel _) = true
moves (Agree _ _ _ _) = false
moves (Raise _ _) = false
moves (Initiate _) = false
moves (Decline _) = false
moves (Reverse _) = false

abbrev moves_in : Option EntryLine → Bool
moves_in None = false
moves_in (Some e) = moves e.entry.command

abbrev is_told : List EntryLine → Command → Bool
is_told s (Initiate n) = moves_in (line_at s n)
is_told s (Decline n) = moves_in (line_at s n)
is_told s (Reverse n) = moves_in (line_at s n)
is_told s (Trade _ _ _ _ _) = true
is_told s (Split _ _) = true
is_told s (Claim _ _) = true
is_told s (Refuse _) = true
is_told s (Cancel _) = true
is_told s (Agree _ _ _ _) = false
is_told s (Raise _ _) = false

or_false : (b : Bool) → (b || false) ≡ b
or_false true = refl
or_false false = refl

moved : (b : Bool) (w : EntryLine) → moves w.entry.command ≡ true
    → b ≡ moves_in (cond (b || false) (Some w) None)
moved true w is = sym is
moved false w is = refl

unmoved : (b : Bool) (w : EntryLine) → moves w.entry.command ≡ false → false ≡ moves_in (cond b (Some w) None)
unmoved true w is = sym is
unmoved false w is = refl

named : (house f : List ℕ) (h : List Entry) (r : Record) (c : Command) → r.command ≡ c
    → change_concerns house h f r.firm c
    ≡ moves_in (cond (involves house h f r.firm c) (Some (entry_line h f r)) None)
named house f h r (Trade a b i s l) is =
    moved (change_concerns house h f r.firm (Trade a b i s l)) (entry_line h f r) (ap (λ c. moves (without_parts c)) is)
named house f h r (Split n ps) is =
    moved (change_concerns house h f r.firm (Split n ps)) (entry_line h f r) (ap (λ c. moves (without_parts c)) is)
named house f h r (Claim n a) is =
    moved (change_concerns house h f r.firm (Claim n a)) (entry_line h f r) (ap (λ c. moves (without_parts c)) is)
named house f h r (Refuse n) is =
    moved (change_concerns house h f r.firm (Refuse n)) (entry_line h f r) (ap (λ c. moves (without_parts c)) is)
named house f h r (Cancel n) is =
    moved (change_concerns house h f r.firm (Cancel n)) (entry_line h f r) (ap (λ c. moves (without_parts c)) is)
named house f h r (Agree a b x y) is =
    unmoved (involves house h f r.firm (Agree a b x y)) (entry_line h f r) (ap (λ c. moves (without_parts c)) is)
named house f h r (Raise a x) is =
    unmoved (involves house h f r.firm (Raise a x)) (entry_line h f r) (ap (λ c. moves (without_parts c)) is)
named house f h r (Initiate n) is =
    unmoved (involves house h f r.firm (Initiate n)) (entry_line h f r) (ap (λ c. moves (without_parts c)) is)
named house f h r (Decline n) is =
    unmoved (involves house h f r.firm (Decline n)) (entry_line h f r) (ap (λ c. moves (without_parts c)) is)
named house f h r (Reverse n) is =
    unmoved (involves house h f r.firm (Reverse n)) (entry_line h f r) (ap (λ c. moves (without_parts c)) is)

named_or_none : (house f : List ℕ) (h : List Entry) (o : Option Record)
    → record_concerns house h f o ≡ moves_in (option_and_then (line_or_none house h f) o)
named_or_none house f h None = refl
named_or_none house f h (Some r) = named house f h r r.command refl

abbrev all_lines : List ℕ → List Entry → List ℕ → List EntryLine
all_lines house h f = filter_map (line_or_none house h f) (records h)

consenting : (house f : List ℕ) (h : List Entry) (n : ℕ)
    → record_concerns house h f (entry_of h n) ≡ moves_in (line_at (all_lines house h f) n)
consenting house f h n = named_or_none house f h (entry_of h n) ∙ ap moves_in (sym (look_from house f h n 1 h))

-- a line that is there concerns the firm where it is told, and one that isn't doesn't
told_so : (house f : List ℕ) (h : List Entry) (by : List ℕ) (c : Command) → involves house h f by c ≡ true
    → concerns house h f by c ≡ is_told (all_lines house h f) (without_parts c)
told_so house f h by (Trade a b i s l) there = sym (or_false (concerns house h f by (Trade a b i s l))) ∙ there
told_so house f h by (Split n ps) there = sym (or_false (concerns house h f by (Split n ps))) ∙ there
told_so house f h by (Claim n a) there = sym (or_false (concerns house h f by (Claim n a))) ∙ there
told_so house f h by (Refuse n) there = sym (or_false (concerns house h f by (Refuse n))) ∙ there
told_so house f h by (Cancel n) there = sym (or_false (concerns house h f by (Cancel n))) ∙ there
told_so house f h by (Agree a b x y) there = refl
told_so house f h by (Raise a x) there = refl
told_so house f h by (Initiate n) there = consenting house f h n
told_so house f h by (Decline n) there = consenting house f h n
told_so house f h by (Reverse n) there = consenting house f h n

not_there : (a b : Bool) → (a || b) ≡ false → a ≡ false
not_there true b h = h
not_there false b h = refl

apart : (house f : List ℕ) (h : List Entry) (by : List ℕ) (c : Command) → involves house h f by c ≡ false
    → concerns house h f by c ≡ false
apart house f h by (Trade a b i s l) none = not_there (concerns house h f by (Trade a b i s l)) false none
apart house f h by (Split n ps) none = not_there (concerns house h f by (Split n ps)) false none
apart house f h by (Claim n a) none = not_there (concerns house h f by (Claim n a)) false none
apart house f h by (Refuse n) none = not_there (concerns house h f by (Refuse n)) false none
apart house f h by (Cancel n) none = not_there (concerns house h f by (Cancel n)) false none
apart house f h by (Agree a b x y) none = refl
apart house f h by (Raise a x) none = refl
apart house f h by (Initiate n) none =
    not_there (concerns house h f by (Initiate n)) (is_terms_in f (entry_of h n)) none
apart house f h by (Decline n) none =
    not_there (concerns house h f by (Decline n)) (is_terms_in f (entry_of h n)) none
apart house f h by (Reverse n) none =
    not_there (concerns house h f by (Reverse n)) (is_terms_in f (entry_of h n)) none

-- ---- what is seen is read from the lines

abbrev seen_in : (Command → Bool) → List EntryLine → List Seen
seen_in q s = map (λ (e : EntryLine). e.entry) (filter (λ (e : EntryLine). q e.entry.command) s)

read_step : (q : Command → Bool) (w : EntryLine) (i c : Bool) (xs : List Seen) (rest : List EntryLine)
    → (i ≡ true → c ≡ q w.entry.command) → (i ≡ false → c ≡ false) → xs ≡ seen_in q rest
    → cons_option (cond c (Some w.entry) None) xs ≡ seen_in q (cons_option (cond i (Some w) None) rest)
read_step q w false c xs rest here none later =
    ap (λ b. cons_option (cond b (Some w.entry) None) xs) (none refl) ∙ later
read_step q w true true xs rest here none later =
    ap (λ ys. w.entry ∷ ys) later
    ∙ ap (λ b. map (λ (e : EntryLine). e.entry)
    (cond b (w ∷ filter (λ (e : EntryLine). q e.entry.command) rest)
    (filter (λ (e : EntryLine). q e.entry.command) rest))) (here refl)
read_step q w true false xs rest here none later =
    later
    ∙ ap (λ b. map (λ (e : EntryLine). e.entry)
    (cond b (w ∷ filter (λ (e : EntryLine). q e.entry.command) rest)
    (filter (λ (e : EntryLine). q e.entry.command) rest))) (here refl)

read_all : (house f : List ℕ) (h : List Entry) (rs : List Record) → filter_map (seen_of house h f) rs
    ≡ seen_in (is_told (all_lines house h f)) (filter_map (line_or_none house h f) rs)
read_all house f h [] = refl
read_all house f h (r ∷ rs) =
    read_step (is_told (all_lines house h f)) (entry_line h f r) (involves house h f r.firm r.command)
    (concerns house h f r.firm r.command) (filter_map (seen_of house h f) rs)
    (filter_map (line_or_none house h f) rs) (told_so house f h r.firm r.command) (apart house f h r.firm r.command)
    (read_all house f h rs)

seen_by_lines : (t : House) (f : List ℕ) (h : List Entry)
    → seen t.house h f ≡ seen_in (is_told (entry_lines t h f)) (entry_lines t h f)
seen_by_lines t f h =
    read_all t.house f h (records h)
    ∙ ap (λ s. seen_in (is_told s) s)
    (sym (made (entry_line h f) (λ (r : Record). involves t.house h f r.firm r.command) (records h)))

-- histories that look alike to the firm show it the same entries
pub seen_alike : (t : House) (f : List ℕ) (h g : List Entry) → LookAlike t f h g → seen t.house h f ≡ seen t.house g f
seen_alike t f h g same =
    seen_by_lines t f h ∙ (ap (λ s. seen_in (is_told s) s) same ∙ sym (seen_by_lines t f g))
