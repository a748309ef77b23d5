use Rattle.std.proofs.Common.{◌≡◌, rules}
use Rattle.sha2.specs.Sha256.{sha256}
use Rattle.gu_server.proofs.program.pinned.Goals as goal

pub returns-in-Ok-clause-named : goal.returns-in-Ok-clause-named
returns-in-Ok-clause-named g c =
    let text = c.read_pinned.new.text.items in
    let same : c.of-pin.result.bytes ≡ sha256 text = search (rules, c.of-pin.ensures) in
    ((text, c.in-Ok.ensures.text.0, c.in-Ok.ensures.text.1), same)
