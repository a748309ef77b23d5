-- An own part as most are sent.
use Rattle.std.proofs.Common.{◌≡◌, ◌≢◌, ◌<◌, ◌+◌, ◌-◌, ◌*◌, ◌∙◌, inl, inr, ℕ, Bool, true, false, cond, eqb, ltb, List}
use Rattle.std.proofs.Common.{[], ◌∷◌, ◌++◌, length, take, drop, Option, Some, None, Ok, refl, sym, ap, append-nil}
use Rattle.std.proofs.Common.{arith}
use Rattle.std.specs.List.{position_or_len}
use Rattle.std.specs.Option.{is_some}
use Rattle.std.proofs.lemmas.Bool.{cases_Bool, lt-ltb, le-ltb, ne_eqb}
use Rattle.std.proofs.lemmas.Bool.Decides.{nat_tests}
use Rattle.std.proofs.lemmas.List.{drop-drop, drop_all, take_all, length-drop, length-take}
use Rattle.gu_base.specs.Names.{is_digit}
use Rattle.gu_base.specs.declared.command.Part.{Part}
use Rattle.gu_base.proofs.Basics.{none_or_some}
use Rattle.gu_codec.specs.Fields.{is_soh, value_at, field_at, fields_of, fields_before}
use Rattle.gu_codec.proofs.FieldSteps.{fields_some, fields_none, field_nil}
use Rattle.gu_message.specs.Values.{is_dot, digits_after, digits_of, quantity_of}
use Rattle.gu_message.specs.Checks.{needed, name_of}
use Rattle.gu_message.specs.Finding.{entries}
use Rattle.gu_message.specs.SplitParts.{named_by, part_of, counted_of, with_front, IsPlain}
use Rattle.gu_message.proofs.MoreParts.{with_none, one_more}

-- ---- a quantity of digits

digits_go : (acc d : ℕ) (ds : List ℕ) (b : Bool) → is_digit d ≡ b
    → digits_after acc (d ∷ ds) ≡ cond b (digits_after (acc * 10 + (d - 48)) ds) None
digits_go acc d ds b is = rw is refl

no_dot : (acc : ℕ) (t : List ℕ) (n : ℕ) → digits_after acc t ≡ Some n → position_or_len is_dot t ≡ length t
no_dot acc [] n e = refl
no_dot acc (d ∷ ds) n e = elim (cases_Bool (is_digit d)) [
  | inl digit ↦
      let rest = no_dot (acc * 10 + (d - 48)) ds n (sym (digits_go acc d ds true digit) ∙ e) in
      let other : eqb d 46 ≡ false = ne_eqb d 46 (λ dot. grind (arith, nat_tests)) in
      rw other (omega (arith, rest))
  | inr other ↦ let none = sym (digits_go acc d ds false other) ∙ e in absurd cc
]

cond_some : (b : Bool) (o : Option ℕ) (n : ℕ) → cond b o None ≡ Some n → o ≡ Some n
cond_some true o n e = e
cond_some false o n e = absurd cc

digits_read : (t : List ℕ) (n : ℕ) → digits_of 18 t ≡ Some n → digits_after 0 t ≡ Some n
unfolding digits_of
digits_read t n e = cond_some _ (digits_after 0 t) n e

some_digit : (t : List ℕ) (n : ℕ) → digits_of 18 t ≡ Some n → 0 < length t
unfolding digits_of
some_digit [] n e = absurd cc
some_digit (d ∷ ds) n e = omega arith

quantity_digits : (t : List ℕ) (n : ℕ) → digits_of 18 t ≡ Some n → quantity_of t ≡ Some n
unfolding quantity_of
quantity_digits t n e =
    let none = no_dot 0 t n (digits_read t n e) in
    let end : ltb (length t) (length t) ≡ false = le-ltb (length t) (length t) (omega arith) in
    let whole : take (length t) t ≡ t = take_all (length t) t (omega arith) in
    rw (none, end, whole, e) refl

-- ---- its two fields

value_from : (r : List ℕ) (n : ℕ) → n ≡ position_or_len is_soh r → 0 < n → n < length r
    → value_at r ≡ Some (take n r, drop (n + 1) r)
value_from r n is some inside =
    let s : ltb 0 n ≡ true = lt-ltb 0 n some in
    let i : ltb n (length r) ≡ true = lt-ltb n (length r) inside in
    rw (sym is, s, i) refl

field_79 : (bytes r value rest : List ℕ) → bytes ≡ 55 ∷ 57 ∷ 61 ∷ r → value_at r ≡ Some (value, rest)
    → field_at bytes ≡ Some ((79, value), rest)
unfolding field_at
field_79 bytes r value rest is found = rw (is, found) refl

field_80 : (bytes r value rest : List ℕ) → bytes ≡ 56 ∷ 48 ∷ 61 ∷ r → value_at r ≡ Some (value, rest)
    → field_at bytes ≡ Some ((80, value), rest)
unfolding field_at
field_80 bytes r value rest is found = rw (is, found) refl

-- the value from `at` to the SOH at `end`
value_to : (bytes : List ℕ) (at end : ℕ) → end ≡ at + position_or_len is_soh (drop at bytes) → at < end
    → end < length bytes → value_at (drop at bytes) ≡ Some (take (end - at) (drop at bytes), drop (end + 1) bytes)
value_to bytes at end is some inside =
    let n = end - at in
    let found = value_from (drop at bytes) n (omega (arith, is)) (omega arith) (omega (arith, length-drop at bytes)) in
    let back : at + (n + 1) ≡ end + 1 = omega arith in
    let rest : drop (n + 1) (drop at bytes) ≡ drop (end + 1) bytes =
    drop-drop (n + 1) at bytes ∙ ap (λ (k : ℕ). drop k bytes) back in
    found ∙ ap (λ (t : List ℕ). Some (take n (drop at bytes), t)) rest

pub plain : (bytes : List ℕ) (at name end lots : ℕ) → drop at bytes ≡ 55 ∷ 57 ∷ 61 ∷ drop (at + 3) bytes
    → name ≡ at + 3 + position_or_len is_soh (drop (at + 3) bytes) → name ≢ at + 3 → name < length bytes
    → drop (name + 1) bytes ≡ 56 ∷ 48 ∷ 61 ∷ drop (name + 4) bytes
    → end ≡ name + 4 + position_or_len is_soh (drop (name + 4) bytes) → end < length bytes
    → digits_of 18 (take (end - (name + 4)) (drop (name + 4) bytes)) ≡ Some lots
    → IsPlain bytes at (take (name - (at + 3)) (drop (at + 3) bytes)) lots (end + 1)
plain bytes at name end lots first name_is named name_in second end_is end_in digits =
    let account = take (name - (at + 3)) (drop (at + 3) bytes) in
    let quantity = take (end - (name + 4)) (drop (name + 4) bytes) in
    let some = some_digit quantity lots digits in
    let a = field_79 (drop at bytes) (drop (at + 3) bytes) account (drop (name + 1) bytes) first
    (value_to bytes (at + 3) name name_is (omega arith) name_in) in
    let q = field_80 (drop (name + 1) bytes) (drop (name + 4) bytes) quantity (drop (end + 1) bytes) second
    (value_to bytes (name + 4) end end_is (omega (arith, length-take (end - (name + 4)) (drop (name + 4) bytes)))
    end_in) in
    record {
      quantity = quantity;
      fields = fields_some (drop at bytes) (79, account) (drop (name + 1) bytes) a
          ∙ ap (λ (fs : List (ℕ × List ℕ)). (79, account) ∷ fs)
          (fields_some (drop (name + 1) bytes) (80, quantity) (drop (end + 1) bytes) q);
      is_lots = quantity_digits quantity lots digits;
      inside = omega arith;
    }

-- ---- an entry that ends

no_field : (bytes r : List ℕ) → bytes ≡ 55 ∷ 57 ∷ 61 ∷ r → value_at r ≡ None → field_at bytes ≡ None
unfolding field_at
no_field bytes r is none = rw (is, none) refl

pub ends_at_79 : (bytes r : List ℕ) → bytes ≡ 55 ∷ 57 ∷ 61 ∷ r → fields_before 79 (fields_of bytes) ≡ []
ends_at_79 bytes r is = elim (none_or_some (value_at r)) [
  | inl none ↦ ap (fields_before 79) (fields_none bytes (no_field bytes r is none))
  | inr h ↦ ap (fields_before 79) (fields_some bytes (79, h.0.0) h.0.1 (field_79 bytes r h.0.0 h.0.1 is h.1))
]

pub ends_at_end : (bytes : List ℕ) → fields_before 79 (fields_of (drop (length bytes) bytes)) ≡ []
ends_at_end bytes =
    ap (λ (t : List ℕ). fields_before 79 (fields_of t)) (drop_all (length bytes) bytes (omega arith))
    ∙ ap (fields_before 79) (fields_none [] field_nil)

-- ---- its part

plain_part : (by account quantity : List ℕ) (lots : ℕ) → quantity_of quantity ≡ Some lots
    → name_of account ≡ Some account
    → part_of by (account, (80, quantity) ∷ []) ≡ Ok (record { lots = lots; firm = by; account = Some account })
unfolding part_of needed named_by
plain_part by account quantity lots is name = rw (is, name) refl

pub some_name : (b : Bool) (a : List ℕ) (name : Option (List ℕ)) → name ≡ cond b (Some a) None → is_some name ≡ true
    → name ≡ Some a
some_name true a name e some = e
some_name false a name e some = let none = rw e at some in absurd cc

pub one_plain : (by bytes : List ℕ) (at end lots : ℕ) (account : List ℕ) (name : Option (List ℕ))
    (front after : List Part) (count left : ℕ) → IsPlain bytes at account lots end
    → fields_before 79 (fields_of (drop end bytes)) ≡ [] → name ≡ name_of account → name ≡ Some account
    → count ≡ left + 1 → after ≡ front ++ (record { lots = lots; firm = by; account = name } ∷ [])
    → with_front after (counted_of by left (entries 79 (fields_of (drop end bytes))))
    ≡ with_front front (counted_of by count (entries 79 (fields_of (drop at bytes))))
one_plain by bytes at end lots account name front after count left p ends is_name is_some one kept =
    let rest = fields_of (drop end bytes) in
    let fs : List (ℕ × List ℕ) = (80, p.quantity) ∷ rest in
    let part : Part = record { lots = lots; firm = by; account = Some account } in
    let read : part_of by (account, fields_before 79 fs) ≡ Ok part =
    ap (λ (t : List (ℕ × List ℕ)). part_of by (account, (80, p.quantity) ∷ t)) ends
    ∙ plain_part by account p.quantity lots p.is_lots (sym is_name ∙ is_some) in
    let keeps : after ≡ front ++ (part ∷ []) =
    kept ∙ ap (λ (n : Option (List ℕ)). front ++ (record { lots = lots; firm = by; account = n } ∷ [])) is_some in
    one_more by account fs (entries 79 rest) front after (Ok part) count left one refl read keeps
    ∙ ap (λ (t : List (ℕ × List ℕ)). with_front front (counted_of by count (entries 79 t))) (sym p.fields)

-- ---- a group that ends

all_plain : (by bytes : List ℕ) (front : List Part)
    → with_front front (counted_of by 0 (entries 79 (fields_of (drop (length bytes) bytes)))) ≡ Ok front
all_plain by bytes front =
    let none : fields_of (drop (length bytes) bytes) ≡ [] =
    ap fields_of (drop_all (length bytes) bytes (omega arith)) ∙ fields_none [] field_nil in
    ap (λ (fs : List (ℕ × List ℕ)). with_front front (counted_of by 0 (entries 79 fs))) none
    ∙ ap (λ (ps : List Part). Ok ps) (append-nil front)

-- as many as were to come were read, up to the end
pub all_read : (by bytes : List ℕ) (at left count : ℕ) (before after : List Part) → at ≡ length bytes → left ≡ 0
    → before ≡ []
    → with_front after (counted_of by left (entries 79 (fields_of (drop at bytes))))
    ≡ with_front before (counted_of by count (entries 79 (fields_of bytes)))
    → counted_of by count (entries 79 (fields_of bytes)) ≡ Ok after
all_read by bytes at left count before after at_end no_more none e =
    let r = counted_of by count (entries 79 (fields_of bytes)) in
    sym (with_none r) ∙ ap (λ (ps : List Part). with_front ps r) (sym none) ∙ sym e
    ∙ ap (λ (n : ℕ). with_front after (counted_of by left (entries 79 (fields_of (drop n bytes))))) at_end
    ∙ ap (λ (n : ℕ). with_front after (counted_of by n (entries 79 (fields_of (drop (length bytes) bytes))))) no_more
    ∙ all_plain by bytes after
