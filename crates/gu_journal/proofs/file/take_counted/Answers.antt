use Rattle.gu_journal.proofs.file.take_counted.Goals as goal
use Rattle.gu_journal.proofs.{Looping.nothing_taken, Settling.{brings_again, brings_once}, Vocabulary.{ap, CountsAgain}}
use Rattle.gu_journal.proofs.Vocabulary.{HouseAndHistory, refl, rules, Unsealed, ◌∙◌, ◌≡◌, ◌≢◌}

pub take_file-requires-clause-fresh : goal.take_file-requires-clause-fresh
take_file-requires-clause-fresh g c =
    nothing_taken refl c.new-replay.ensures.fresh c.new-replay.ensures.sealed c.new-replay.ensures.empty
    c.requires.opening

-- ---- all that was taken is sealed

pub returns-then-ne-clause-brings : goal.returns-then-ne-clause-brings
returns-then-ne-clause-brings g c =
    let sealed : c.take_file.new.replay.stand ≢ Unsealed = search rules in
    brings_once c.in_ok-take_file.ensures.counts sealed

-- ---- it is taken once more up to the last seal

pub returns-clause-brings : goal.returns-clause-brings
returns-clause-brings g c =
    let one = c.take_file.new.replay in
    let house = ap (λ (s : HouseAndHistory). s.house) c.in_ok-reopen.ensures.opened
    ∙ c.in_ok-take_file.ensures.counts.replays.house in
    let again : CountsAgain (g.D.Disk.is_clean c.take_again.new.disk) (g.D.Disk.seen c.args.disk.now) one.sealed
    c.args.book.now.house c.args.pin.now.bytes c.take_again.new.replay c.take_again.new.book =
    rw (house, c.take_file.ensures.reads.same) at c.in_ok-take_again.ensures.again in
    let still : one.stand ≡ Unsealed = search rules in
    brings_again c.in_ok-take_file.ensures.counts again still refl c.take_again.ensures.reads.clean
