use Rattle.std.proofs.Common.{◌≡◌, arith, rules}
use Rattle.std.specs.Prelude.{decimal}
use Rattle.gu_codec.proofs.Putting.{put_there}
use Rattle.gu_codec.proofs.writing.put_number.Goals as goal

pub returns-clause-text : goal.returns-clause-text
returns-clause-text c =
    let place : c.write_digits.result ≡ c.args.at = omega (arith, c.write_digits.ensures.start, c.requires.len) in
    put_there c.args.bytes.now _ (decimal c.args.number) _ c.args.at _ (omega (arith, c.requires.len))
    (omega (arith, c.requires.fits)) (rw place at c.write_digits.ensures.before)
    (rw place at c.write_digits.ensures.written)

pub write_digits-requires : goal.write_digits-requires
write_digits-requires c = search rules
