use Rattle.gu_journal.proofs.group.write_entries.Given as goal
use Rattle.gu_journal.proofs.Vocabulary.{AllByRecursion, drop, entry_frames, IsSayableEntry, take, ◌++◌, ◌+◌, ◌≡◌}

abbrev pub invariant-loop-i : goal.invariant-loop-i
invariant-loop-i l = record {
  told : l.room.text.items ++ entry_frames l.first.0 l.moment (l.first.1.0 + l.i) (drop l.i l.entries)
      ≡ l.initial.room.text.items ++ entry_frames l.first.0 l.moment l.first.1.0 l.entries;
  sayable : AllByRecursion IsSayableEntry (take l.i l.entries);
}
