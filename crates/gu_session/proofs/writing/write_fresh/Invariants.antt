use Rattle.std.proofs.Common.{◌≡◌, ◌++◌, length, drop, map}
use Rattle.std.specs.List.{flat_map}
use Rattle.gu_session.specs.Keeping.{messages, total}
use Rattle.gu_session.specs.Steps.{new}
use Rattle.gu_session.specs.Text.{text_of}
use Rattle.gu_session.proofs.writing.write_fresh.Given as goal

abbrev pub invariant-loop-i : goal.invariant-loop-i
invariant-loop-i l =
    let text = text_of l.writer.house l.writer.firm l.writer.time in
    record {
      sent : l.out.items ++ flat_map text (map new (messages (drop l.i l.headers.items) l.left))
          ≡ l.initial.out.items ++ flat_map text (map new (messages l.headers.items l.bodies));
      size : total (drop l.i l.headers.items) ≡ length l.left;
    }
