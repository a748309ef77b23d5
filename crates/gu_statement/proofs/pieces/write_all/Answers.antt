use Rattle.std.proofs.Common.{◌-◌, ◌<◌, length, drop, arith, length-drop, length-take}
use Rattle.gu_statement.proofs.Transfers.{Appends_more}
use Rattle.gu_statement.proofs.pieces.write_all.Goals as goal

pub pieces-preserved-in-Ok : goal.pieces-preserved-in-Ok
pieces-preserved-in-Ok g c =
    let bytes = c.args.bytes.now in
    let at = c.pieces.at in
    let n = c.in-Ok.n in
    let before = c.pieces.invariant in
    let some : 0 < n = omega (arith, c.if-n-eq0.false) in
    record {
      within =
          omega (
            arith,
            before.within,
            c.in-Ok.ensures.bound,
            length-take (length bytes - at) (drop at bytes),
            length-drop at bytes,
          );
      written = Appends_more _ _ _ bytes at n before.written c.in-Ok.ensures.bytes;
    }
