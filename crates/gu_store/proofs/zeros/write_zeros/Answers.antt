use Rattle.gu_store.proofs.zeros.write_zeros.Goals as goal
use Rattle.gu_store.proofs.Zeroing.{holds_twice, zeroing_twice, zeroing_wider}
use Rattle.std.proofs.Common.{arith, ◌+◌, ◌<◌, ◌∙◌, ◌≤◌}

pub returns-in_err-write_piece-clause-zeroing : goal.returns-in_err-write_piece-clause-zeroing
returns-in_err-write_piece-clause-zeroing g c =
    let done = c.loop-done.done in
    let piece = c.min-piece.result in
    let within : done + piece ≤ c.args.count = omega (arith, c.loop-done.invariant.within, c.min-piece.ensures) in
    zeroing_wider _ _ g.D.Disk.is_mixing _ (done + piece) _ _ _ within
    (zeroing_twice _ _ g.D.Disk.is_mixing _ done piece _ _ _ c.loop-done.invariant.zeroing
    c.write_piece.ensures.zeroing)

pub loop-done-preserved : goal.loop-done-preserved
loop-done-preserved g c =
    let done = c.loop-done.done in
    let piece = c.min-piece.result in
    let keeps = c.loop-done.invariant in
    let some : 0 < piece = omega (arith, c.loop-done-test.true, c.min-piece.ensures) in
    record {
      within = omega (arith, keeps.within, c.min-piece.ensures);
      usable = c.write_piece.ensures.usable;
      clean = c.write_piece.ensures.clean ∙ keeps.clean;
      faults = c.in_ok-write_piece.ensures.faults ∙ keeps.faults;
      written = λ more. holds_twice c.args.at done piece _ _ keeps.written c.write_piece.ensures.zeroing.others
          (c.in_ok-write_piece.ensures.written some);
      zeroing = zeroing_twice _ _ g.D.Disk.is_mixing _ done piece _ _ _ keeps.zeroing
          c.write_piece.ensures.zeroing;
    }
