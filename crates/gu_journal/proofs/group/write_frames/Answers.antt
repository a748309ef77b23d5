use Rattle.gu_journal.proofs.group.write_frames.Goals as goal
use Rattle.gu_journal.proofs.{Going.passed_on, Groups.is_group_of, Vocabulary.{ap, arith, entry_frames, Holds512, inl}}
use Rattle.gu_journal.proofs.Vocabulary.{inr, IsBytes, length, List, message_text, rules, seal_with, Sha512, subst, sym}
use Rattle.gu_journal.proofs.Vocabulary.{ℕ, ◌++◌, ◌+◌, ◌∙◌, ◌≡◌, ◌≤◌}

pub returns-clause-group : goal.returns-clause-group
returns-clause-group c =
    let house = c.args.first.house in
    let n = c.args.first.number in
    let es = c.args.entries.now in
    let few : n + length es ≤ 1000001 = search rules in
    let bytes : IsBytes c.finalize-digest.result = search rules in
    let at : c.len-seal_at.result ≡ length c.as_slice.result.now =
    omega (arith, c.len-seal_at.ensures, c.as_slice.ensures.len) in
    let cloned : c.update.new.self ≡ c.in_ok-clone.field-0 = sym c.in_ok-clone.ensures.cases in
    is_group_of house c.args.moment.now n es c.args.hasher.now c.update.new.self c.update-2.new.self
    c.as_slice.result.now c.write_seal.new.out.items c.deref.result.now c.finalize-digest.result
    c.len-seal_at.result c.firm_is_lawful.ensures c.requires.moment bytes c.in_ok-write_entries.ensures.sayable few
    (c.as_slice.ensures.value ∙ c.in_ok-write_entries.ensures.text
    ∙ ap (λ (l : List ℕ). l ++ entry_frames house c.args.moment.now n es) c.clear.ensures.items)
    c.update.ensures
    (λ m h. c.finalize-digest.ensures m (subst (λ (s : Sha512). Holds512 s m) cloned h))
    (c.in_ok-write_seal.ensures.ok
    ∙ ap (λ (l : List ℕ). l ++ message_text (seal_with house c.args.moment.now
    (n + length es) c.finalize-digest.result n))
    (sym c.as_slice.ensures.value))
    c.deref.ensures.value at c.update-2.ensures

pub returns-then-not-has_room-clause-cause : goal.returns-then-not-has_room-clause-cause
returns-then-not-has_room-clause-cause c len = elim (c.has_room.ensures.no (search rules)) [
  | inl none ↦ inl none
  | inr many ↦ inr (inl many)
]

pub returns-in_err-write_entries-clause-cause : goal.returns-in_err-write_entries-clause-cause
returns-in_err-write_entries-clause-cause c =
    passed_on c.from_residual.result c.from_residual.ensures
    (λ e is. rw is (λ len. c.in_err-write_entries.ensures.cause len c.args.hasher.now))
