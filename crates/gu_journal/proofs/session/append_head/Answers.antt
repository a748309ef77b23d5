use Rattle.gu_journal.proofs.session.append_head.Goals as goal
use Rattle.gu_journal.proofs.Vocabulary.{append-nil, append_assoc, codes, field, form, List, [], ℕ, ◌++◌, ◌≡◌}

five : (o p q r s t : List ℕ) → ((((o ++ p) ++ q) ++ r) ++ s) ++ t ≡ o ++ (p ++ (q ++ (r ++ (s ++ (t ++ [])))))
five o p q r s t = simp (append_assoc, append-nil)

pub returns-clause-items : goal.returns-clause-items
returns-clause-items c =
    rw (c.append_field-5.ensures.items, c.append_field-4.ensures.items, c.append_field-3.ensures.items)
    (rw (c.append_field-2.ensures.items, c.append_field.ensures.items, c.house_digits-digits.ensures)
    (five c.args.out.now.items (field 98 (codes "0")) (field 108 (codes "0")) (field 1137 (codes "9")) (field 1408 form)
    (field 58 _)))
