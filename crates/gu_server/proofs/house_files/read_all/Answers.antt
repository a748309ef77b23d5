use Rattle.std.proofs.Common.{◌≡◌, ◌++◌, inr, length, take, rules, arith, length-append}
use Rattle.std.proofs.KnownBytes.{Consumes-trans}
use Rattle.std.proofs.lemmas.Result.{err_from_is_err_and}
use Rattle.gu_server.proofs.house_files.read_all.Goals as goal

-- the last read went beyond what a house file may have
pub returns-then-count-len : goal.returns-then-count-len
returns-then-count-len g c =
    let text = c.reads.text.items in
    let piece = take c.in-Ok.count c.read.new.buf in
    let size : c.len.result ≡ length text = search rules in
    record {
      bytes = text ++ piece;
      consumed = Consumes-trans _ _ _ text piece c.reads.invariant.consumed c.in-Ok.ensures.bytes.0;
      few =
          omega (
            arith,
            length-append text piece,
            c.reads.invariant.held,
            c.in-Ok.ensures.bound.0,
            c.in-Ok.ensures.bound.1,
            c.read.auto.buf,
          );
      held = c.reads.invariant.held;
      right =
          inr (omega (
            arith,
            length-append text piece,
            size,
            c.reads.invariant.held,
            c.in-Ok.ensures.bound.1,
            c.if-count-len.true,
          ));
    }

pub returns-in_err-extend_from_slice-in-Ok : goal.returns-in_err-extend_from_slice-in-Ok
returns-in_err-extend_from_slice-in-Ok g c =
    let text = c.reads.text.items in
    let piece = take c.in-Ok.count c.read.new.buf in
    let p = err_from_is_err_and c.from_residual.result c.from_residual.ensures.1 in
    let kept : c.extend_from_slice.new.self.items ≡ text = c.in_err-extend_from_slice-in-Ok.ensures.items in
    rw (p.1, p.2) (record {
      bytes = text ++ piece;
      consumed = Consumes-trans _ _ _ text piece c.reads.invariant.consumed c.in-Ok.ensures.bytes.0;
      few =
          omega (
            arith,
            length-append text piece,
            c.reads.invariant.held,
            c.in-Ok.ensures.bound.0,
            c.in-Ok.ensures.bound.1,
            c.read.auto.buf,
          );
      held = let h = c.reads.invariant.held in rw kept h;
      right = tt;
    })
