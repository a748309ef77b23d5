-- The entries of a list's numbers, with new numbers, are its history.
use Rattle.std.proofs.Common.{◌≡◌, ℕ, zero, suc, ◌+◌, Bool, true, ◌&&◌, List, [], ◌∷◌, ◌++◌, length, map}
use Rattle.std.proofs.Common.{refl, sym, ◌∙◌, ap, subst, cond, arith, not, false}
use Rattle.std.specs.Prelude.{Result, Ok, Err, IfOk, Option, Some, option_map, ◌==◌, ◌||◌}
use Rattle.std.specs.List.{Contains, filter_map, cons_option}
use Rattle.std.proofs.lemmas.List.Elements.{All-contains, Contains-append_right}
use Rattle.gu_base.specs.Answers.{entry_of}
use Rattle.gu_base.specs.History.{is_change, is_reversed, records}
use Rattle.gu_base.specs.House.{House}
use Rattle.gu_base.specs.Numbers.{EntryPart}
use Rattle.gu_base.specs.declared.command.Command.{Command}
use Rattle.gu_base.specs.declared.command.Command.TheVariants.{Trade, Split, Claim, Refuse, Cancel, Agree, Raise}
use Rattle.gu_base.specs.declared.command.Command.TheVariants.{Initiate, Decline, Reverse}
use Rattle.gu_base.specs.declared.entry.Entry.{Entry}
use Rattle.gu_base.specs.declared.entry.Record.{Record}
use Rattle.gu_base.proofs.Basics.{filter_twice}
use Rattle.gu_base.proofs.NodeNames.{name_same}
use Rattle.gu_base.proofs.Numbered.{found_at, listed}
use Rattle.gu_depend.specs.Under.{names}
use Rattle.gu_depend.proofs.Grown.{maker, made_number, NamesThere}
use Rattle.gu_depend.proofs.Replay.{legal_list}
use Rattle.gu_lives.specs.Renumbered.{entry_in, mapped, mapped_command, mapped_name, mapped_record, new_number}
use Rattle.gu_lives.specs.Renumbered.{place_in, rolled, IsWhole}
use Rattle.gu_lives.specs.Roll.{kept}
use Rattle.gu_lives.proofs.WholeTrades.{grown}
use Rattle.gu_roll.specs.Numbering.{entry_at_number, new_in, place_among, AreOf, IsTableOf}

abbrev pub number_of : Record → ℕ
number_of r = r.number

-- ---- where a change stands

pub cut_of : {A : Type 0} (l : List A) (r : A) → Contains l r
    → (before : List A) × ((after : List A) × (l ≡ before ++ r ∷ after))
cut_of [] r (i, within, e) = absurd (omega (arith, within))
cut_of (x ∷ l) r (zero, within, e) = ([], (l, ap (λ z. z ∷ l) e))
cut_of (x ∷ l) r (suc i, within, e) =
    let p = cut_of l r (i, omega (arith, within), e) in
    (x ∷ p.0, (p.1.0, ap (λ z. x ∷ z) p.1.1))

-- what is kept of the live changes are entries under their numbers
pub kept_are_of : (keep : Record → Bool) (h : List Entry) → AreOf h (kept keep h)
kept_are_of keep h r among =
    let p : Record → Bool = λ x. is_change x.command && not (is_reversed h x.number) in
    let c = cut_of (kept keep h) r among in
    (listed (λ x. p x && keep x) 1 h r c.0 c.1.0 (filter_twice p keep (records h) ∙ c.1.1)).found

-- ---- one entry after the other

module _ (f g : ℕ → ℕ) (h : List Entry) where
  abbrev SameAt : Record → Type 0
  SameAt r = (entry_of h r.number ≡ Some r) × (mapped_command f r.command ≡ mapped_command g r.command)

  at_one : (r : Record) → SameAt r → entry_at_number f h r.number ≡ Some (entry_in (mapped_record g r))
  at_one r is =
      ap (option_map (λ (d : Record). entry_in (mapped_record f d))) is.0
      ∙ (λ i. Some (record { firm = r.firm; id = r.id; command = is.1 i; status = r.status }))

  pub each_renamed : (l : List Record) → ((r : Record) → Contains l r → SameAt r)
      → filter_map (entry_at_number f h) (map number_of l) ≡ map entry_in (mapped g l)
  each_renamed [] same = refl
  each_renamed (r ∷ l) same =
      ap (λ (o : Option Entry). cons_option o (filter_map (entry_at_number f h) (map number_of l)))
      (at_one r (same r (zero, omega arith, refl)))
      ∙ ap (λ es. entry_in (mapped_record g r) ∷ es)
      (each_renamed l (λ d among. same d (Contains-append_right (r ∷ []) l d among)))

-- ---- the numbers that a change names

-- the place of a number is that of its change
pub place_is : (l : List Record) (n : ℕ) → place_among (map number_of l) n ≡ place_in l n
place_is [] n = refl
place_is (r ∷ l) n = ap (λ (k : ℕ). cond (r.number == n) 0 (k + 1)) (place_is l n)

-- the numbers of a list
pub number_among : (l : List Record) (r : Record) → Contains l r → Contains (map number_of l) r.number
number_among [] r (i, within, e) = absurd (omega (arith, within))
number_among (x ∷ l) r (zero, within, e) = (zero, omega arith, ap number_of e)
number_among (x ∷ l) r (suc i, within, e) =
    Contains-append_right (x.number ∷ []) (map number_of l) r.number (number_among l r (i, omega (arith, within), e))

module _ (f g : ℕ → ℕ) where
  same_at : (n : EntryPart) → f n.entry ≡ g n.entry → mapped_name f n ≡ mapped_name g n
  same_at n e = λ i. record { entry = e i; part = n.part }

  -- a change whose node has the same number by both is the same by both
  pub same_command_by : (c : Command) → is_change c ≡ true
      → ((n : EntryPart) → names n c ≡ true → f n.entry ≡ g n.entry) → mapped_command f c ≡ mapped_command g c
  same_command_by (Trade _ _ _ _ _) is named = refl
  same_command_by (Split n parts) is named =
      ap (λ m. Split m parts) (same_at n (named n (ap (λ b. b || false) (name_same n))))
  same_command_by (Claim n account) is named =
      ap (λ m. Claim m account) (same_at n (named n (name_same n)))
  same_command_by (Refuse n) is named = ap Refuse (same_at n (named n (name_same n)))
  same_command_by (Cancel n) is named = ap Cancel (same_at n (named n (name_same n)))
  same_command_by (Agree _ _ _ _) is named = refl
  same_command_by (Raise _ _) is named = refl
  same_command_by (Initiate _) is named = absurd (cc)
  same_command_by (Decline _) is named = absurd (cc)
  same_command_by (Reverse _) is named = absurd (cc)

-- ---- all of it

module _ (t : House) (l : List Record) (whole : IsWhole t l) (h : List Entry) (of : AreOf h l) (table : List (Option ℕ))
    (is : IsTableOf (map number_of l) (length h) table) where
  -- a change's number has its new one
  looked_up : (r : Record) → Contains l r → new_in table r.number ≡ new_number l r.number
  looked_up r among =
      let at = found_at r.number 1 h r (of r among) in
      is r.number (number_among l r among) at.from (omega (arith, at.within))
      ∙ ap (λ (k : ℕ). k + 1) (place_is l r.number)

  -- and so has each that a change names
  named_up : (r : Record) → Contains l r → (n : EntryPart) → names n r.command ≡ true
      → new_in table n.entry ≡ new_number l n.entry
  named_up r among n named =
      let there = All-contains (NamesThere l) l r (grown t l (legal_list t l whole.distinct whole.legal)).named among n
      named in
      let m = maker l n there.0 there.1 in
      let own : n.entry ≡ m.change.number = made_number m.change n there.0 m.makes_it in
      subst (λ (k : ℕ). new_in table k ≡ new_number l k) (sym own) (looked_up m.change m.among)

  pub all_renamed : filter_map (entry_at_number (new_in table) h) (map number_of l) ≡ rolled l
  all_renamed =
      each_renamed (new_in table) (new_number l) h l
      (λ r among. (
        of r among,
        same_command_by (new_in table) (new_number l) r.command
            (All-contains (λ (d : Record). is_change d.command ≡ true) l r whole.changes among) (named_up r among),
      ))

-- what holds of a value by one test holds by a weaker one
pub if_ok : {A E : Type 0} (P Q : A → Type 0) → ((a : A) → P a → Q a) → (r : Result A E) → IfOk r P → IfOk r Q
if_ok P Q weaker (Ok a) holds = weaker a holds
if_ok P Q weaker (Err e) holds = tt
