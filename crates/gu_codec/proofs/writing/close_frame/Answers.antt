use Rattle.std.proofs.Common.{◌≡◌, ℕ, List, ◌%◌, take, drop, ap, sym, ◌∙◌, arith}
use Rattle.std.specs.Prelude.{sum}
use Rattle.std.proofs.lemmas.List.{take_all}
use Rattle.gu_codec.proofs.Putting.{between}
use Rattle.gu_codec.proofs.Written.{closed}
use Rattle.gu_codec.proofs.writing.close_frame.Goals as goal

pub returns-clause-frame : goal.returns-clause-frame
returns-clause-frame c old h body start e =
    let whole : take c.put.result c.put.new.bytes ≡ c.put.new.bytes =
    take_all c.put.result c.put.new.bytes (omega (arith, c.requires.fits, c.put.ensures.end, c.put.ensures.len)) in
    let sum_of : c.checksum-sum.result ≡ sum (drop c.args.start (take c.args.at c.args.bytes.now)) % 256 =
    c.checksum-sum.ensures
    ∙ ap (λ (t : List ℕ). sum t % 256) (between c.args.bytes.now c.args.start c.args.at c.requires.begun) in
    closed old _ _ h body c.args.start c.checksum-sum.result start e sum_of (sym whole ∙ c.put.ensures.text)
