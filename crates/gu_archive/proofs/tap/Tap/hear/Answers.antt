use Rattle.std.proofs.Common.{take, rules}
use Rattle.gu_archive.proofs.Pieces.{left_waits}
use Rattle.gu_archive.proofs.tap.Tap.hear.Goals as goal

pub returns : goal.returns
returns c = (
  take c.in_ok-told.told c.extend_from_slice.new.self.items,
  rw (c.front-front.ensures.moment, c.front-front.ensures.connection, c.as_slice.ensures.value)
      at c.in_ok-told.ensures.said,
  left_waits c.args.self.now.incoming.items c.args.bytes.now c.extend_from_slice.new.self.items c.pass.new.bytes.items
      c.in_ok-told.told (search rules) (search rules),
)
