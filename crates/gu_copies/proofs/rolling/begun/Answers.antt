use Rattle.gu_copies.proofs.Anew.{book_begun}
use Rattle.gu_copies.proofs.rolling.begun.Goals as goal

pub returns-in-Ok-made-clause-rolled : goal.returns-in-Ok-made-clause-rolled
returns-in-Ok-made-clause-rolled g c =
    book_begun (λ line. line.items) c.put_all.result c.args.old.house c.args.new.house c.args.old.pin.bytes
    c.args.new.pin.bytes _ _ _ c.in-Ok-made.book.lost c.in-Ok-made.book.numbers.items c.in-Ok-made.book.bytes.items
    c.in-Ok-made.ensures.rolled c.put_all.ensures.copied c.put_all.ensures.line
