use Rattle.gu_book.proofs.live.look_up.Goals as goal
use Rattle.gu_book.proofs
use proofs.{ByNumber.{named_before, no_change, still_live, unknown}, Vocabulary.{arith, common_steps, rules, sym, ◌∙◌}}

pub returns-in_default : goal.returns-in_default
returns-in_default c = unknown c.args.entries.now c.args.number (sym (rw c.in_default.is at c.entry_at.ensures))

pub returns-then-not-is_change : goal.returns-then-not-is_change
returns-then-not-is_change c =
    no_change c.args.entries.now c.args.number c.in-Some.entry.now (sym (rw c.in-Some.is at c.entry_at.ensures))
    (first_of (cc, search rules, grind (arith, common_steps)))

pub returns-in-Some-number : goal.returns-in-Some-number
returns-in-Some-number c =
    named_before c.args.entries.now c.args.number c.in-Some.entry.now (sym (rw c.in-Some.is at c.entry_at.ensures))
    (first_of (cc, search rules, grind (arith, common_steps))) c.in-Some-number.reversal
    (sym (c.requires.reversals.numbers c.args.number) ∙ (sym c.number.ensures ∙ c.in-Some-number.is))

pub returns-in-None : goal.returns-in-None
returns-in-None c =
    still_live c.args.entries.now c.args.number c.in-Some.entry.now (sym (rw c.in-Some.is at c.entry_at.ensures))
    (first_of (cc, search rules, grind (arith, common_steps)))
    (sym (c.requires.reversals.numbers c.args.number) ∙ (sym c.number.ensures ∙ c.in-None.is))
