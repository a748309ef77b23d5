-- A whole list of changes is a history, with numbers from 1 on.
use Rattle.std.proofs.Common.{◌≡◌, ℕ, ◌+◌, ◌<◌, Bool, true, false, not, ◌&&◌, ◌||◌, List, [], ◌∷◌, ◌++◌, length}
use Rattle.std.proofs.Common.{refl, sym, ◌∙◌, ap, subst, cond, arith, map, length-append}
use Rattle.std.specs.Prelude.{⊤, Some, None, ◌==◌, find, filter, option_map, nat_lt}
use Rattle.std.specs.List.{All, AllByRecursion}
use Rattle.std.proofs.lemmas.Bool.{lt-ltb}
use Rattle.std.proofs.lemmas.Bool.Decides.{Decides-eqb}
use Rattle.std.proofs.lemmas.List.{length-map}
use Rattle.std.proofs.lemmas.List.Elements.{All-head, All-tail}
use Rattle.std.proofs.lemmas.Map.Keys.{IsDistinct-head, IsDistinct-tail}
use Rattle.gu_base.specs.Limits.{most_entries}
use Rattle.gu_base.specs.House.{House}
use Rattle.gu_base.specs.History.{numbered_as, numbered_from, records, live, is_change, is_reversed}
use Rattle.gu_base.specs.Refusals.{refusal_of}
use Rattle.gu_base.specs.Answers.{answer_to, command_refusal, status_of, is_same_id, is_same_call}
use Rattle.gu_base.specs.Runs.{call_of, IsRunFrom}
use Rattle.gu_base.specs.Same.{same_command}
use Rattle.gu_base.specs.SamePartsLaws.{number_same}
use Rattle.gu_base.specs.declared.command.Command.{Command}
use Rattle.gu_base.specs.declared.command.Command.TheVariants.{Trade, Split, Claim, Refuse, Cancel, Agree, Raise}
use Rattle.gu_base.specs.declared.command.Command.TheVariants.{Initiate, Decline, Reverse}
use Rattle.gu_base.specs.declared.entry.Entry.{Entry}
use Rattle.gu_base.specs.declared.entry.Record.{Record}
use Rattle.gu_base.specs.declared.entry.Answer.TheVariants.{Accepted}
use Rattle.gu_base.proofs.Accepted.{change_refused}
use Rattle.gu_base.proofs.Basics.{nothing_here}
use Rattle.gu_base.proofs.LiveLaws.{change_is_no_reverse}
use Rattle.gu_base.proofs.Opening.{answer_is}
use Rattle.gu_tree.specs.Shown.{HasDistinctNumbers}
use Rattle.gu_lives.specs.Renumbered.{mapped, mapped_command, mapped_record, mapped_refusal, IsInjective}
use Rattle.gu_lives.specs.Renumbered.{place_in, new_number, renumbered, entry_in, rolled, call_in, IsWhole}
use Rattle.gu_lives.proofs.Mapped.{find_mapped}
use Rattle.gu_lives.proofs.MappedRefusals.{refusal_mapped}

-- ---- no two numbers become one

place_step : (n a b x y : ℕ) (p q : Bool) → (n == a) ≡ p → (n == b) ≡ q → (x ≡ y → a ≡ b)
    → cond p 0 (x + 1) ≡ cond q 0 (y + 1) → a ≡ b
place_step n a b x y true true e f rest h = sym ((Decides-eqb n a).0 e) ∙ (Decides-eqb n b).0 f
place_step n a b x y true false e f rest h = let z : 0 ≡ y + 1 = h in absurd (omega (arith, z))
place_step n a b x y false true e f rest h = let z : x + 1 ≡ 0 = h in absurd (omega (arith, z))
place_step n a b x y false false e f rest h = let z : x + 1 ≡ y + 1 = h in rest (omega (arith, z))

place_one : (l : List Record) → IsInjective (place_in l)
place_one [] a b h = h
place_one (r ∷ l) a b h =
    place_step r.number a b (place_in l a) (place_in l b) (r.number == a) (r.number == b) refl refl (place_one l a b) h

pub new_one : (l : List Record) → IsInjective (new_number l)
new_one l a b h = let z : place_in l a + 1 ≡ place_in l b + 1 = h in place_one l a b (omega (arith, z))

-- ---- numbers that count

abbrev Counts : (ℕ → ℕ) → ℕ → List Record → Type 0
Counts f k [] = ⊤
Counts f k (r ∷ l) = (f r.number ≡ k) × Counts f (k + 1) l

counts_agree : (f g : ℕ → ℕ) (n k : ℕ) (l : List Record) → ((m : ℕ) → (n == m) ≡ false → f m ≡ g m)
    → AllByRecursion (λ y. (n == y) ≡ false) (map (λ (r : Record). r.number) l) → Counts f k l → Counts g k l
counts_agree f g n k [] same others c = tt
counts_agree f g n k (r ∷ l) same others c =
    (sym (same r.number others.0) ∙ c.0, counts_agree f g n (k + 1) l same others.1 c.1)

counts_from : (l : List Record) (k : ℕ) → HasDistinctNumbers l → Counts (λ n. place_in l n + k) k l
counts_from [] k distinct = tt
counts_from (r ∷ l) k distinct = (
  let a : place_in (r ∷ l) r.number ≡ 0 = ap (λ b. cond b 0 (place_in l r.number + 1)) (number_same r.number) in
      omega (arith, a),
  counts_agree (λ n. place_in l n + (k + 1)) (λ n. place_in (r ∷ l) n + k) r.number (k + 1) l
      (λ m other.
      let a : place_in (r ∷ l) m ≡ place_in l m + 1 = ap (λ b. cond b 0 (place_in l m + 1)) other in
      omega (arith, a))
      (IsDistinct-head (λ a b. a == b) r.number (map (λ (r : Record). r.number) l) distinct)
      (counts_from l (k + 1) (IsDistinct-tail (λ a b. a == b) r.number (map (λ (r : Record). r.number) l) distinct)),
)

-- those of a front
counts_front : (f : ℕ → ℕ) (k : ℕ) (b rest : List Record) → Counts f k (b ++ rest) → Counts f k b
counts_front f k [] rest c = tt
counts_front f k (r ∷ b) rest c = (c.0, counts_front f (k + 1) b rest c.1)

-- ---- the entries of a list with other numbers

abbrev AllChange : List Record → Type 0
AllChange [] = ⊤
AllChange (r ∷ l) = (is_change r.command ≡ true) × AllChange l

abbrev entries : (ℕ → ℕ) → List Record → List Entry
entries f l = map entry_in (mapped f l)

module _ (f : ℕ → ℕ) where
  records_from : (k : ℕ) (l : List Record) → Counts f k l → numbered_from k (entries f l) ≡ mapped f l
  records_from k [] c = refl
  records_from k (r ∷ l) c =
      ap (λ n. numbered_as n (entry_in (mapped_record f r)) ∷ numbered_from (k + 1) (entries f l)) (sym c.0)
      ∙ ap (λ rs. mapped_record f r ∷ rs) (records_from (k + 1) l c.1)

  pub change_mapped : (c : Command) → is_change (mapped_command f c) ≡ is_change c
  change_mapped (Trade _ _ _ _ _) = refl
  change_mapped (Split _ _) = refl
  change_mapped (Claim _ _) = refl
  change_mapped (Refuse _) = refl
  change_mapped (Cancel _) = refl
  change_mapped (Agree _ _ _ _) = refl
  change_mapped (Raise _ _) = refl
  change_mapped (Initiate _) = refl
  change_mapped (Decline _) = refl
  change_mapped (Reverse _) = refl

  status_mapped : (by : List ℕ) (c : Command) → status_of by (mapped_command f c) ≡ status_of by c
  status_mapped by (Trade _ _ _ _ _) = refl
  status_mapped by (Split _ _) = refl
  status_mapped by (Claim _ _) = refl
  status_mapped by (Refuse _) = refl
  status_mapped by (Cancel _) = refl
  status_mapped by (Agree _ _ _ _) = refl
  status_mapped by (Raise _ _) = refl
  status_mapped by (Initiate _) = refl
  status_mapped by (Decline _) = refl
  status_mapped by (Reverse _) = refl

  none_reversed : (n : ℕ) (l : List Record) → AllChange l → is_reversed (entries f l) n ≡ false
  none_reversed n [] all = refl
  none_reversed n (r ∷ l) all =
      ap (λ b. b || is_reversed (entries f l) n)
      (change_is_no_reverse n (mapped_command f r.command) (change_mapped r.command ∙ all.0))
      ∙ none_reversed n l all.1

  all_kept : (p : Record → Bool) (l : List Record) → AllChange l
      → ((r : Record) → is_change r.command ≡ true → p (mapped_record f r) ≡ true)
      → filter p (mapped f l) ≡ mapped f l
  all_kept p [] all keeps = refl
  all_kept p (r ∷ l) all keeps =
      ap (λ b. cond b (mapped_record f r ∷ filter p (mapped f l)) (filter p (mapped f l))) (keeps r all.0)
      ∙ ap (λ rs. mapped_record f r ∷ rs) (all_kept p l all.1 keeps)

  -- all of them are live
  live_is : (l : List Record) → Counts f 1 l → AllChange l → live (entries f l) ≡ mapped f l
  live_is l c all =
      ap (filter (λ r. is_change r.command && not (is_reversed (entries f l) r.number))) (records_from 1 l c)
      ∙ all_kept (λ r. is_change r.command && not (is_reversed (entries f l) r.number)) l all
      (λ r change.
      ap (λ b. is_change (mapped_command f r.command) && not b) (none_reversed (f r.number) l all)
      ∙ ap (λ b. b && true) (change_mapped r.command ∙ change))

  -- ---- each is accepted

  no_call : (p q : Record → Bool) (xs : List Record) → find p xs ≡ None → find (λ x. p x && q x) xs ≡ None
  no_call p q [] h = refl
  no_call p q (x ∷ xs) h =
      let a = nothing_here (p x) x (find p xs) h in
      ap (λ b. cond (b && q x) (Some x) (find (λ x. p x && q x) xs)) a.0 ∙ no_call p q xs a.1

  entry_accepted : (t : House) (one : IsInjective f) (b : List Record) (r : Record) → Counts f 1 b → AllChange b
      → is_change r.command ≡ true → r.status ≡ status_of r.firm r.command → find (is_same_id (call_in r)) b ≡ None
      → length b < most_entries → refusal_of t b r.firm r.command ≡ None
      → answer_to t (entries f b) (call_of (entry_in (mapped_record f r)))
      ≡ Accepted (length (entries f b) + 1) r.status
  entry_accepted t one b r c all change status fresh few ok =
      let h = entries f b in
      let e = entry_in (mapped_record f r) in
      let unused : find (is_same_id (call_of e)) (records h) ≡ None =
      ap (find (is_same_id (call_of e))) (records_from 1 b c)
      ∙ (find_mapped (mapped_record f) (is_same_id (call_of e)) (is_same_id (call_in r)) (λ x. refl) b
      ∙ ap (option_map (mapped_record f)) fresh) in
      let long : length h ≡ length b = length-map (mapped f b) entry_in ∙ length-map b (mapped_record f) in
      let lawful : command_refusal t h r.firm (mapped_command f r.command) ≡ None =
      change_refused t h r.firm (mapped_command f r.command) (change_mapped r.command ∙ change)
      ∙ (ap (λ l. refusal_of t l r.firm (mapped_command f r.command)) (live_is b c all)
      ∙ (refusal_mapped f one b t r.firm r.command ∙ ap (option_map (mapped_refusal f)) ok)) in
      answer_is (find (is_same_call (call_of e)) (records h)) (find (is_same_id (call_of e)) (records h))
      (length h + 1) (status_of r.firm (mapped_command f r.command)) (nat_lt (length h) most_entries)
      (command_refusal t h r.firm (mapped_command f r.command))
      (no_call (is_same_id (call_of e)) (λ x. same_command x.command e.command) (records h) unused) unused
      (lt-ltb (length h) most_entries (omega (arith, long, few))) lawful
      ∙ ap (λ s. Accepted (length h + 1) s) (status_mapped r.firm r.command ∙ sym status)

-- ---- cuts

pub map_cut : {A B : Type 0} (g : A → B) (xs : List A) (ys : List B) (z : B) (zs : List B) → map g xs ≡ ys ++ z ∷ zs
    → (b : List A) × ((r : A) × ((rest : List A) × ((xs ≡ b ++ r ∷ rest) × ((map g b ≡ ys) × (g r ≡ z)))))
map_cut g [] [] z zs e = absurd (cc)
map_cut g [] (y ∷ ys) z zs e = absurd (cc)
map_cut g (x ∷ xs) [] z zs e = ([], (x, (xs, (refl, (refl, cc)))))
map_cut g (x ∷ xs) (y ∷ ys) z zs e =
    let p = map_cut g xs ys z zs (cc) in
    (x ∷ p.0, (p.1.0, (p.1.1.0, (cc (p.1.1.1.0), (cc (p.1.1.1.1.0), p.1.1.1.1.1)))))

changes_of : (l : List Record) → All (λ r. is_change r.command ≡ true) l → AllChange l
changes_of [] all = tt
changes_of (r ∷ l) all = (
  All-head (λ (r : Record). is_change r.command ≡ true) r l all,
  changes_of l (All-tail (λ (r : Record). is_change r.command ≡ true) r l all),
)

changes_front : (b rest : List Record) → AllChange (b ++ rest) → AllChange b
changes_front [] rest all = tt
changes_front (r ∷ b) rest all = (all.0, changes_front b rest all.1)

change_at : (b : List Record) (r : Record) (rest : List Record) → AllChange (b ++ r ∷ rest) → is_change r.command ≡ true
change_at [] r rest all = all.0
change_at (d ∷ b) r rest all = change_at b r rest all.1

at_cut : (P : Record → Type 0) (b : List Record) (r : Record) (rest : List Record) → All P (b ++ r ∷ rest) → P r
at_cut P [] r rest all = All-head P r rest all
at_cut P (d ∷ b) r rest all = at_cut P b r rest (All-tail P d (b ++ r ∷ rest) all)

module _ (t : House) (l : List Record) (w : IsWhole t l) where
  abbrev fresh : ℕ → ℕ
  fresh = new_number l

  all_count : Counts fresh 1 l
  all_count = counts_from l 1 w.distinct

  -- its live changes are the list, with its new numbers
  pub rolled_live : live (rolled l) ≡ renumbered l
  rolled_live = live_is fresh l all_count (changes_of l w.changes)

  accepted_at : (b rest : List Record) (r : Record) → l ≡ b ++ r ∷ rest
      → answer_to t (entries fresh b) (call_of (entry_in (mapped_record fresh r)))
      ≡ Accepted (length (entries fresh b) + 1) r.status
  accepted_at b rest r e =
      let all = subst AllChange e (changes_of l w.changes) in
      let long = length-append b (r ∷ rest) in
      let whole : length l ≡ length (b ++ r ∷ rest) = ap length e in
      entry_accepted fresh t (new_one l) b r
      (counts_front fresh 1 b (r ∷ rest) (subst (Counts fresh 1) e all_count))
      (changes_front b (r ∷ rest) all) (change_at b r rest all)
      (at_cut (λ r. r.status ≡ status_of r.firm r.command) b r rest
      (subst (All (λ r. r.status ≡ status_of r.firm r.command)) e w.statuses))
      (w.ids b rest r e) (omega (arith, long, whole, w.few)) (w.legal.accepted b rest r e)

  -- it is a history of a run from the empty one
  pub rolled_run : IsRunFrom t [] (rolled l)
  rolled_run = record {
    begins = (rolled l, refl);
    accepted = λ before after e cut le.
        let p = map_cut entry_in (renumbered l) before e after cut in
        let q = map_cut (mapped_record fresh) l p.0 p.1.0 p.1.1.0 p.1.1.1.0 in
        let ok = accepted_at q.0 q.1.1.0 q.1.0 q.1.1.1.0 in
        let front : entries fresh q.0 ≡ before = ap (map entry_in) q.1.1.1.1.0 ∙ p.1.1.1.1.0 in
        let same : entry_in (mapped_record fresh q.1.0) ≡ e = ap entry_in q.1.1.1.1.1 ∙ p.1.1.1.1.1 in
        subst (λ h. answer_to t h (call_of e) ≡ Accepted (length h + 1) e.status) front
        (subst (λ (d : Entry). answer_to t (entries fresh q.0) (call_of d)
        ≡ Accepted (length (entries fresh q.0) + 1) d.status) same ok);
  }
