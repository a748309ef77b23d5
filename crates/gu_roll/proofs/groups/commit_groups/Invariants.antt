use Rattle.std.proofs.Common.{◌≤◌, ℕ, List, length, take}
use Rattle.gu_base.specs.House.{House}
use Rattle.gu_base.specs.Runs.{IsRunFrom}
use Rattle.gu_base.specs.declared.entry.Entry.{Entry}
use Rattle.gu_image.specs.Image.{seen_of, leaves}
use Rattle.gu_journal.specs.Keeping.{Keeps}
use Rattle.gu_roll.proofs.groups.commit_groups.Given as goal

abbrev pub invariant-loop-group : goal.invariant-loop-group
invariant-loop-group l = record {
  behind : l.have ≤ l.done;
  within : l.done ≤ length l.history;
  kept : (t : House) (pin : List ℕ) (opening : List Entry) → IsRunFrom t opening l.history
      → length opening ≤ l.have → Keeps seen_of leaves t pin (take l.have l.history) l.initial.journal
      → Keeps seen_of leaves t pin (take l.done l.history) l.journal;
}
