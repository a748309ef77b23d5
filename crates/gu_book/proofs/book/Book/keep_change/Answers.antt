use Rattle.gu_book.proofs.book.Book.keep_change.Goals as goal
use Rattle.gu_book.{proofs.{Books.{book_more, can_follow}, PartsKept.parts_more}, specs.Live.entry_of_change}

pub add-requires-clause-can : goal.add-requires-clause-can
add-requires-clause-can c =
    let ok = rw (← c.self.view_is) at c.requires.accepted in
    rw (c.of.ensures, c.as_slice.ensures.value, c.ready.ensures.items)
    (record {
      follows =
          can_follow c.self.invariant.0 c.args.made.now.number (entry_of_change c.args.made.now) ok c.requires.change;
      named = rw (← c.self.view_is) at c.requires.named;
      there = rw (← c.self.view_is) at c.requires.there;
    })

pub invariant_of-self-2 : goal.invariant_of-self-2
invariant_of-self-2 c =
    simp (c.push_change.ensures, c.ready.ensures.items) (
      book_more c.self.invariant.0 c.args.made.now.number (entry_of_change c.args.made.now)
          (rw (← c.self.view_is) at c.requires.accepted) c.requires.change c.add.new.self
          (rw (c.of.ensures, c.as_slice.ensures.value, c.ready.ensures.items) at c.in_ok-add.ensures.added),
      parts_more c.self.invariant.0.kept c.args.made.now.number (entry_of_change c.args.made.now)
          (rw (← c.self.view_is) at c.requires.accepted) c.requires.change c.self.inside.parts c.parts_in.result
          c.self.invariant.1 c.parts_in.ensures.value,
    )
