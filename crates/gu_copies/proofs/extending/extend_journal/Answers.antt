use Rattle.std.proofs.Common.{◌≡◌, ℕ, List, subst, rules}
use Rattle.gu_copies.proofs.Anew.{written_anew}
use Rattle.gu_copies.proofs.extending.extend_journal.Goals as goal

pub returns-in-Ok-put-clause-extended : goal.returns-in-Ok-put-clause-extended
returns-in-Ok-put-clause-extended g c =
    let text = c.in-Ok-made.text.items in
    let same : c.deref.result.now ≡ text = search rules in
    let path : c.as_str-2.result.now ≡ c.args.paths.now.to.bytes.items = search rules in
    let copied : g.F.JournalFiles.is_copied c.args.files.now c.args.paths.now.to.bytes.items text =
    subst (λ (p : List ℕ). g.F.JournalFiles.is_copied c.args.files.now p text) path
    (subst (λ (x : List ℕ). g.F.JournalFiles.is_copied c.args.files.now c.as_str-2.result.now x) same
    c.in-Ok-put.ensures.copied) in
    written_anew c.retire.result c.args.old.house c.args.new.house c.args.old.pin.bytes c.args.new.pin.bytes _ _ text
    c.in-Ok-made.ensures.extended copied
