use Rattle.gu_journal.proofs.group.write_entries.Goals as goal
use Rattle.gu_journal.proofs.{Groups.{all_more, one_more}, Vocabulary.{AllByRecursion, ap, arith, drop, drop_more}}
use Rattle.gu_journal.proofs.Vocabulary.{Entry, entry_frames, IsSayableEntry, length, length-take, List, rules, subst}
use Rattle.gu_journal.proofs.Vocabulary.{sym, take, take-append-drop, take_all, ◌++◌, ◌+◌, ◌<◌, ◌∙◌, ◌∷◌, ◌≡◌, ◌≤◌}

pub loop-i-preserved : goal.loop-i-preserved
loop-i-preserved c =
    let i = c.loop-i.i in
    let n = c.args.first.number + i in
    let e = c.index-entries-i.result in
    let later = drop (i + 1) c.args.entries.now in
    let dropped : drop i c.args.entries.now ≡ e ∷ later = search (rules, drop_more) in
    let sayable : IsSayableEntry e = search rules in
    record {
      told = one_more c.args.first.house c.args.moment.now n
          (c.args.first.number + (i + 1)) e later c.loop-i.room.text.items _ _
          (ap (λ (es : List Entry). c.loop-i.room.text.items ++ entry_frames c.args.first.house c.args.moment.now n es)
          (sym dropped) ∙ c.loop-i.invariant.told)
          c.in_ok-write_entry.ensures.ok (omega arith);
      sayable = all_more IsSayableEntry c.args.entries.now i e later dropped c.loop-i.invariant.sayable sayable;
    }

pub returns-clause-sayable : goal.returns-clause-sayable
returns-clause-sayable c =
    let all : length c.args.entries.now ≤ c.loop-i.i = search rules in
    subst (AllByRecursion IsSayableEntry) (take_all c.loop-i.i c.args.entries.now all) c.loop-i.invariant.sayable

-- what can't be said
pub returns-then-not-is_sayable-clause-cause : goal.returns-then-not-is_sayable-clause-cause
returns-then-not-is_sayable-clause-cause c len hasher =
    let i = c.loop-i.i in
    let es = c.args.entries.now in
    let e = c.index-entries-i.result in
    let later = drop (i + 1) es in
    let dropped : drop i es ≡ e ∷ later = search (rules, drop_more) in
    let within : i < length es = search rules in (
      take i es,
      later,
      e,
      sym (take-append-drop i es) ∙ ap (λ (l : List Entry). take i es ++ l) dropped,
      omega (arith, within, length-take i es),
      search rules,
    )
