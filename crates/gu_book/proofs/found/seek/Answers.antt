use Rattle.gu_book.proofs.found.seek.Goals as goal
use Rattle.gu_book.proofs.Vocabulary.{arith}

pub returns-in-Reverse-clause-seen : goal.returns-in-Reverse-clause-seen
returns-in-Reverse-clause-seen c = λ by.
    rw c.in-Reverse.is (record {
      most = (let most = c.seek_reversed.ensures.most in omega (arith, most));
      least = c.seek_reversed.ensures.least;
      fits = λ made is few. let most = c.seek_reversed.ensures.few in
          omega (arith, is, most);
    })
