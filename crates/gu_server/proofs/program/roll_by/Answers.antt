use Rattle.std.proofs.Common.{◌≡◌, ℕ, List, subst, rules}
use Rattle.gu_server.specs.Program.{IsPinnedAt}
use Rattle.gu_server.proofs.Served.{begun_by}
use Rattle.gu_server.proofs.program.roll_by.Goals as goal

-- a new book was begun, or why not
pub returns-clause-does : goal.returns-clause-does
returns-clause-does g c words left made failed is asked at wider copy flag =
    let paths = c.args.rolling.now.paths in
    let path : c.as_str-wider.result.now ≡ paths.larger.bytes.items = search rules in
    let named : IsPinnedAt (g.F.HouseFiles.bytes_at c.args.files.now paths.larger.bytes.items)
    c.in-Ok-pinned.new.house c.in-Ok-pinned.new.pin.bytes =
    subst (λ (p : List ℕ). IsPinnedAt (g.F.HouseFiles.bytes_at c.args.files.now p) c.in-Ok-pinned.new.house
    c.in-Ok-pinned.new.pin.bytes) path c.in-Ok-pinned.ensures.named in
    begun_by words _ _ _ c.args.path.now paths.larger.bytes.items paths.journal.bytes.items paths.to.bytes.items
    c.args.rolling.now.is_open _ _ _ _ is asked wider at copy flag c.in-Ok.ensures.named named left made failed _ _ _ _
    c.roll_journal.result c.roll_journal.ensures
