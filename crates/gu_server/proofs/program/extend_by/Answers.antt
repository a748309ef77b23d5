use Rattle.std.proofs.Common.{◌≡◌, ℕ, List, subst, rules}
use Rattle.gu_server.specs.Program.{IsPinnedAt}
use Rattle.gu_server.proofs.Served.{extended_by}
use Rattle.gu_server.proofs.program.extend_by.Goals as goal

-- a journal was written anew, or why not
pub returns-clause-does : goal.returns-clause-does
returns-clause-does g c words told is asked at wider copy =
    let path : c.as_str-larger.result.now ≡ c.args.paths.now.larger.bytes.items = search rules in
    let named : IsPinnedAt (g.F.HouseFiles.bytes_at c.args.files.now c.args.paths.now.larger.bytes.items)
    c.in-Ok-pinned.new.house c.in-Ok-pinned.new.pin.bytes =
    subst (λ (p : List ℕ). IsPinnedAt (g.F.HouseFiles.bytes_at c.args.files.now p) c.in-Ok-pinned.new.house
    c.in-Ok-pinned.new.pin.bytes) path c.in-Ok-pinned.ensures.named in
    extended_by words _ _ _ c.args.path.now c.args.paths.now.larger.bytes.items
    c.args.paths.now.journal.bytes.items c.args.paths.now.to.bytes.items _ _ _ _ told c.extend_journal.result
    is asked wider at copy c.in-Ok.ensures.named named c.extend_journal.ensures.extended
    c.extend_journal.ensures.fault
