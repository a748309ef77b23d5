-- What is found of a history without going over it is what a search of it finds, also with one more entry.
use Rattle.gu_book.proofs
use Rattle.gu_depend.proofs.Vocabulary
use proofs.{AllShown.undone, ByNumber.{its_own, numbered_some, records_once}, Once.{both_found, none_of_both, once_at}}
use proofs.Vocabulary.{AllByRecursion, allowed, and_parts, ap, arith, Bool, bytes_eq, bytes_eq-Decides}
use proofs.Vocabulary.{Call, cond, count_by, Entry, entry_of, eqb-true, false, find, find-append, found_at}
use proofs.Vocabulary.{found_in, get_or, House, IsDistinct-head, IsDistinct-tail, known_entry, length, List}
use proofs.Vocabulary.{None, numbered_as, numbered_from, option_and_then, option_map, Record, records, refl, Reversals}
use proofs.Vocabulary.{Reverse, Some, suc, sym, true, [], ℕ, ◌&&◌, ◌++◌, ◌+◌, ◌-◌, ◌<◌, ◌==◌, ◌∙◌, ◌∷◌, ◌≡◌, ◌≤◌}
use Rattle.gu_base.proofs.{Basics.{bytes_symm, mapped_none, or_none}, LiveLaws.numbered_push}
use Rattle.gu_base.specs.declared.entry.Answer.TheVariants.{Refused}
use Rattle.gu_book.specs.{Ids.{NoIdTwice, same_id}, Lookups.{AreReversalsOf, IsNewestFirst, number_of, reversal_in}}
use Rattle.gu_depend.proofs.Finds.{by_test, count_cons}
use Rattle.gu_ids.proofs.NewestLaws.{newest_push}
use Vocabulary.{Accepted, Answer, answer_by, answer_to}
use Vocabulary.{call_of, DuplicateId, is_reverse_of, is_same_call, is_same_id, most_entries, Repeated, same_command}

-- ---- a search of a history with one more entry

-- the number that a search finds, one entry later
number_push : (p : Record → Bool) (h : List Entry) (e : Entry) (n : ℕ) → n ≡ length h + 1
    → (p (numbered_as (1 + length h) e) ≡ true → find p (records h) ≡ None)
    → option_map (λ (r : Record). r.number) (find p (records (h ++ e ∷ [])))
    ≡ cond (p (numbered_as (1 + length h) e)) (Some n) (option_map (λ (r : Record). r.number) (find p (records h)))
number_push p h e n number none =
    let new = numbered_as (1 + length h) e in
    let last : 1 + length h ≡ n = omega arith in
    let found = ap (find p) (numbered_push 1 h e) ∙ find-append p (records h) (new ∷ []) in
    by_test (p new) (λ is. cc (found, is, none is, last)) (λ other. cc (found, other, or_none (find p (records h))))

-- ---- ids

-- there is a number for an accepted entry
pub entries_fewer : (t : House) (h : List Entry) (e : Entry) (n : ℕ)
    → answer_to t h (call_of e) ≡ Accepted n e.status → length h < most_entries
entries_fewer t h e n ok = (allowed t h e n ok).room

-- its id is the first
pub first_added : {h : List Entry} → IsNewestFirst h → (t : House) (e : Entry) (n : ℕ)
    → answer_to t h (call_of e) ≡ Accepted n e.status → IsNewestFirst (h ++ e ∷ [])
first_added {h} are t e n ok =
    let a = allowed t h e n ok in
    let last : suc (length h) ≡ n = omega arith in
    record {
      numbers = λ c.
          cc (
            number_push _ h e n a.number (λ same. let p = and_parts _ _ same in
                let firm = sym ((bytes_eq-Decides e.firm c.firm).0 p.0) in let id : c.id
                ≡ e.id = sym ((bytes_eq-Decides e.id c.id).0 p.1) in
                (λ i. find (λ (r : Record). bytes_eq r.firm (firm i) && bytes_eq r.id (id i)) (records h)) ∙ a.id),
            newest_push h e c.firm c.id,
            last,
            are.numbers c,
          );
    }

-- ---- the call that an id names

module _ (h : List Entry) (c : Call) (n : ℕ) (there : number_of h c ≡ Some n) where
  its_record : (r : Record) × ((find (is_same_id c) (records h) ≡ Some r) × (r.number ≡ n))
  its_record = numbered_some _ n there

  -- the record is found by its number
  its_entry : entry_of h n ≡ Some its_record.0
  its_entry =
      let r = its_record.0 in
      rw its_record.1.1 at (its_own _ r (records_once h) (found_in (is_same_id c) (records h) r its_record.1.0))

  -- the entry of the number stands in the history
  pub stands_within : n - 1 < length h
  stands_within =
      let at = found_at n 1 h _ its_entry in omega arith

  -- and has the id
  pub stands_found : (e : Entry) → e ≡ get_or h (n - 1) e → find (is_same_id c) (records h) ≡ Some (numbered_as n e)
  stands_found e is =
      cc (its_record.1.0, its_entry, known_entry h n e (found_at n 1 h _ its_entry).from stands_within is)

-- no record has the id: none is of the call itself
pub no_call : (c : Call) (rs : List Record) → find (is_same_id c) rs ≡ None → find (is_same_call c) rs ≡ None
no_call c = none_of_both _ _

-- no later entry has the id
no_later : (c : Call) (m : ℕ) (d : Entry) (h : List Entry) → AllByRecursion (λ y. same_id d y ≡ false) h
    → d.firm ≡ c.firm → d.id ≡ c.id → find (is_same_id c) (numbered_from m h) ≡ None
no_later c m d [] apart firm id = refl
no_later c m d (e ∷ h) apart firm id =
    let other : (bytes_eq e.firm c.firm && bytes_eq e.id c.id) ≡ false =
    cc (firm, id, bytes_symm e.firm d.firm, bytes_symm e.id d.id, apart.0) in
    cc (no_later c (m + 1) d h apart.1 firm id)

ids_once : (c : Call) (m : ℕ) (h : List Entry) → NoIdTwice h → count_by (is_same_id c) (numbered_from m h) ≤ 1
ids_once c m [] once = omega arith
ids_once c m (d ∷ h) once =
    omega (
      arith,
      count_cons (is_same_id c) (numbered_as m d) (numbered_from (m + 1) h),
      once_at (is_same_id c) (numbered_from (m + 1) h) (is_same_id c (numbered_as m d))
          (ids_once c (m + 1) h (IsDistinct-tail same_id d h once))
          (λ test. let p = and_parts (bytes_eq d.firm c.firm) (bytes_eq d.id c.id) test in
          no_later c (m + 1) d h (IsDistinct-head same_id d h once) ((bytes_eq-Decides d.firm c.firm).0 p.0)
          ((bytes_eq-Decides d.id c.id).0 p.1)),
    )

-- the answer to a call whose id no entry has
pub new_answer : (h : List Entry) (c : Call) → number_of h c ≡ None → (other : Answer)
    → other ≡ answer_by (find (is_same_call c) (records h)) (find (is_same_id c) (records h)) other
new_answer h c none other =
    let n = mapped_none _ _ none in
    cc (n, no_call c (records h) n)

-- the answer to a call whose id this entry has
pub known_answer : (h : List Entry) (c : Call) (n : ℕ) (e : Entry) → NoIdTwice h
    → find (is_same_id c) (records h) ≡ Some (numbered_as n e) → (other : Answer)
    → cond (same_command e.command c.command) (Repeated n e.status) (Refused (DuplicateId n))
    ≡ answer_by (find (is_same_call c) (records h)) (find (is_same_id c) (records h)) other
known_answer h c n e once found other =
    -- the one entry of the id is of the call itself, or none is
    let the_call =
    both_found _ (λ (r : Record). same_command r.command c.command) (records h) (ids_once c 1 h once)
    ∙ ap (option_and_then (λ (r : Record). cond (same_command r.command c.command) (Some r) None)) found in
    by_test (same_command e.command c.command) (λ is. cc (is, the_call, found)) (λ apart. cc (apart, the_call, found))

-- ---- reversals

module _ {h : List Entry} {rs : Reversals} (are : AreReversalsOf rs h) where
  -- an entry that reverses nothing
  pub reversals_same : (e : Entry) → ((m : ℕ) → is_reverse_of m e.command ≡ false) → AreReversalsOf rs (h ++ e ∷ [])
  reversals_same e none = record {
    numbers = λ m.
        cc (
          number_push (λ r. is_reverse_of m r.command) h e (length h + 1) refl (λ is. absurd (let f = none m in cc)),
          are.numbers m,
          none m,
        );
  }

  -- an accepted Reverse, put in
  pub reversals_put : (t : House) (e : Entry) (n k : ℕ) → answer_to t h (call_of e) ≡ Accepted n e.status
      → e.command ≡ Reverse k → (new : Reversals)
      → ((m : ℕ) → reversal_in new m ≡ cond (k == m) (Some n) (reversal_in rs m)) → AreReversalsOf new (h ++ e ∷ [])
  reversals_put t e n k ok reverse new is_put =
      let none = (undone t h e n k ok reverse).1.unreversed in
      record {
        numbers = λ m. let tested : is_reverse_of m e.command ≡ (k == m) = cc in
            cc (
              number_push (λ (r : Record). is_reverse_of m r.command) h e n (allowed t h e n ok).number
                  (λ is. rw (eqb-true k m (sym tested ∙ is)) at none),
              is_put m,
              are.numbers m,
              tested,
            );
      }
