use Rattle.gu_book.proofs.live.Live.numbers.Goals as goal
use Rattle.gu_book.proofs.Vocabulary
use Rattle.gu_book.proofs.{ByNumber.{left, left_more}, live.Live.numbers.Goals.{in-Some+in_ok-push, in_default}}
use Vocabulary.{ap, append_assoc, cons_option, Entry, find}
use Vocabulary.{List, live, map, None, Option, option_map, Record, record_of, Some, sym, ℕ, ◌++◌, ◌+◌, ◌==◌, ◌∙◌, ◌≡◌}

-- with the change of the next number, if there is one, fewer are left
next : (h : List Entry) (i : ℕ) (o : Option Record) (ns all : List ℕ)
    → find (λ (d : Record). d.number == i + 1) (live h) ≡ o → ns ++ map (λ (r : Record). r.number) (left h i) ≡ all
    → ns ++ map (λ (r : Record). r.number) (cons_option o (left h (i + 1))) ≡ all
next h i o ns all found so_far =
    ap (λ rs. ns ++ map (λ (r : Record). r.number) rs)
    (sym (left_more h i ∙ ap (λ o. cons_option o (left h (i + 1))) found))
    ∙ so_far

pub loop-place-preserved : goal.loop-place-preserved
loop-place-preserved c = λ h is.
    let i = c.loop-place.place in
    let numbers = c.loop-place.numbers.items in
    let all = map (λ (r : Record). r.number) c.args.self.now in
    let found = ap (find (λ (d : Record). d.number == i + 1)) is ∙ sym (rw c.at_place.ensures at c.change.ensures) in
    elim c.match-change.branch [
      | in-Some+in_ok-push w ↦
          rw (w.numbers-is, w.in_ok-push.ensures.items, append_assoc)
          (next h i (Some (record_of w.in-Some.made)) numbers all (found ∙ ap (option_map record_of) w.in-Some.is)
          (c.loop-place.invariant h is))
      | in_default w ↦
          rw w.numbers-is
          (next h i None numbers all (found ∙ ap (option_map record_of) w.in_default.is) (c.loop-place.invariant h is))
    ]
