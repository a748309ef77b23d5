use Rattle.gu_journal.proofs.file.settle.Goals as goal
use Rattle.gu_journal.proofs.{Going.passed_on, Settling.{brought_place, brought_settles, brought_stands}}
use Rattle.gu_journal.proofs.Settling.{brought_starts, brought_there, few_alike, few_settles, only_on}
use Rattle.gu_journal.proofs.{Standing.{few_none, same_alike, same_stands}, Vocabulary.{ap, arith, false, Fresh}}
use Rattle.gu_journal.proofs.Vocabulary.{IsTrue, length, refl, rules, subst, sym, true, ◌∙◌, ◌≡◌, ◌≢◌, ◌≤◌}

-- ---- before anything is written

pub returns-in_err-size-clause-crash : goal.returns-in_err-size-clause-crash
returns-in_err-size-clause-crash g c c' k h left stands =
    same_stands _ _ _ c' k (c.requires.durable c' (c.len.ensures.crash c' left)) stands

pub returns-in_err-size-clause-mixed : goal.returns-in_err-size-clause-mixed
returns-in_err-size-clause-mixed g c all c' h left =
    same_alike _ _ _ c' (c.requires.durable c' (c.len.ensures.crash c' left))

pub returns-then-size-gt-MOST_BYTES-clause-crash : goal.returns-then-size-gt-MOST_BYTES-clause-crash
returns-then-size-gt-MOST_BYTES-clause-crash g c c' k h left stands =
    same_stands _ _ _ c' k (c.requires.durable c' (c.len.ensures.crash c' left)) stands

pub returns-then-size-gt-MOST_BYTES-clause-mixed : goal.returns-then-size-gt-MOST_BYTES-clause-mixed
returns-then-size-gt-MOST_BYTES-clause-mixed g c all c' h left =
    same_alike _ _ _ c' (c.requires.durable c' (c.len.ensures.crash c' left))

pub returns-in_err-replay-clause-crash : goal.returns-in_err-replay-clause-crash
returns-in_err-replay-clause-crash g c c' k h left stands =
    same_stands _ _ _ c' k (c.requires.durable c' (c.len.ensures.crash c'
    (c.take_counted.ensures.reads.crash c' left))) stands

pub returns-in_err-replay-clause-mixed : goal.returns-in_err-replay-clause-mixed
returns-in_err-replay-clause-mixed g c all c' h left =
    same_alike _ _ _ c' (c.requires.durable c' (c.len.ensures.crash c' (c.take_counted.ensures.reads.crash c' left)))

pub returns-in_err-replay-clause-untouched : goal.returns-in_err-replay-clause-untouched
returns-in_err-replay-clause-untouched g c =
    let reads = c.take_counted.ensures.reads in
    passed_on c.from_residual-in_err-replay.result c.from_residual-in_err-replay.ensures (λ e is told. record {
      same = reads.same ∙ c.len.ensures.seen;
      durable = λ x left. c.requires.durable x (c.len.ensures.crash x (reads.crash x left));
    })

pub returns-in_err-replay-clause-cause : goal.returns-in_err-replay-clause-cause
returns-in_err-replay-clause-cause g c =
    passed_on c.from_residual-in_err-replay.result c.from_residual-in_err-replay.ensures
    (λ e is. rw is (rw c.len.ensures.seen at c.in_err-replay.ensures.cause))

-- ---- a file of a byte at most

pub returns-then-size-le1-clause-crash : goal.returns-then-size-le1-clause-crash
returns-then-size-le1-clause-crash g c c' k h left stands =
    let clean = c.in_ok-size.ensures.len (subst IsTrue c.create.ensures.clean h) in
    absurd (few_none _ _ _ (omega (arith, clean, c.if-size-le1.true)) k stands)

pub returns-in_err-create-clause-crash : goal.returns-in_err-create-clause-crash
returns-in_err-create-clause-crash g c c' k h left stands =
    let clean = c.in_ok-size.ensures.len (subst IsTrue c.create.ensures.clean h) in
    absurd (few_none _ _ _ (omega (arith, clean, c.if-size-le1.true)) k stands)

pub returns-then-size-le1-clause-mixed : goal.returns-then-size-le1-clause-mixed
returns-then-size-le1-clause-mixed g c all c' h left =
    let len = c.in_ok-size.ensures.len (subst IsTrue c.create.ensures.clean h) in
    let seen = ap length c.len.ensures.seen in
    let only = only_on c.requires.durable c.len.ensures.crash c.len.ensures.seen in
    few_alike (omega (arith, len, c.if-size-le1.true))
    (c.create.ensures.crash c' only (omega (arith, len, c.if-size-le1.true, seen)) left)

pub returns-in_err-create-clause-mixed : goal.returns-in_err-create-clause-mixed
returns-in_err-create-clause-mixed g c all c' h left =
    let len = c.in_ok-size.ensures.len (subst IsTrue c.create.ensures.clean h) in
    let seen = ap length c.len.ensures.seen in
    let only = only_on c.requires.durable c.len.ensures.crash c.len.ensures.seen in
    few_alike (omega (arith, len, c.if-size-le1.true))
    (c.create.ensures.crash c' only (omega (arith, len, c.if-size-le1.true, seen)) left)

pub returns-then-size-le1-clause-settles : goal.returns-then-size-le1-clause-settles
returns-then-size-le1-clause-settles g c =
    let few : IsTrue (g.D.Disk.is_clean c.create.new.disk) → length (g.D.Disk.seen c.args.disk.now) ≤ 1 = λ h. omega
    (arith, c.in_ok-size.ensures.len (subst IsTrue c.create.ensures.clean h), c.if-size-le1.true) in
    few_settles refl c.requires.opening refl refl refl (search rules) few
    (λ h. c.in_ok-create.ensures.file (omega (arith, few h, ap length c.len.ensures.seen)))

-- ---- zeros are written over the rest

pub repair-requires-clause-within : goal.repair-requires-clause-within
repair-requires-clause-within g c =
    let b = c.in_ok-replay.ensures.brings in
    omega (arith, b.few, brought_place b)

pub returns-in_err-left-clause-mixed : goal.returns-in_err-left-clause-mixed
returns-in_err-left-clause-mixed g c all c' h left =
    let reads = c.take_counted.ensures.reads in
    let clean = subst IsTrue c.repair.ensures.clean h in
    let only = only_on c.requires.durable (λ x l. c.len.ensures.crash x (reads.crash x l))
    (reads.same ∙ c.len.ensures.seen) in
    rw c.len.ensures.seen at (brought_starts c.in_ok-replay.ensures.brings clean reads.same
    (c.in_ok-size.ensures.len (reads.clean clean) ∙ sym (ap length c.len.ensures.seen)) only c.repair.ensures.crash
    (c.repair.ensures.mixed all) (c.repair.ensures.zero all) left)

pub returns-clause-mixed : goal.returns-clause-mixed
returns-clause-mixed g c all c' h left =
    let reads = c.take_counted.ensures.reads in
    let clean = subst IsTrue c.repair.ensures.clean h in
    let only = only_on c.requires.durable (λ x l. c.len.ensures.crash x (reads.crash x l))
    (reads.same ∙ c.len.ensures.seen) in
    rw c.len.ensures.seen at (brought_starts c.in_ok-replay.ensures.brings clean reads.same
    (c.in_ok-size.ensures.len (reads.clean clean) ∙ sym (ap length c.len.ensures.seen)) only c.repair.ensures.crash
    (c.repair.ensures.mixed all) (c.repair.ensures.zero all) left)

pub returns-clause-settles : goal.returns-clause-settles
returns-clause-settles g c =
    let reads = c.take_counted.ensures.reads in
    let b = c.in_ok-replay.ensures.brings in
    let falls : IsTrue (g.D.Disk.is_clean c.repair.new.disk) → IsTrue (g.D.Disk.is_clean c.take_counted.new.disk) =
    λ h. subst IsTrue c.repair.ensures.clean h in
    let fresh : c.eq-is_new.result ≡ true → c.in_ok-replay.replay.stand ≡ Fresh = λ e. search rules in
    let other : c.eq-is_new.result ≡ false → c.in_ok-replay.replay.stand ≢ Fresh = λ e. search rules in
    rw c.len.ensures.seen at (brought_settles {rest = record {
      hasher = c.into_hasher.result;
      end = c.in_ok-replay.replay.sealed;
      left = c.in_ok-left.left;
      is_new = c.eq-is_new.result;
    }} b falls (search rules) (search rules) refl c.in_ok-left.ensures.left fresh other
    (λ h. c.in_ok-left.ensures.file b.taken (brought_place b)
    (c.in_ok-size.ensures.len (reads.clean (falls h)) ∙ sym (ap length c.len.ensures.seen) ∙ sym (ap length reads.same))
    (rw reads.same (brought_there b (falls h)))))

pub returns-in_err-left-clause-crash : goal.returns-in_err-left-clause-crash
returns-in_err-left-clause-crash g c c' k h left stands =
    let reads = c.take_counted.ensures.reads in
    let b = c.in_ok-replay.ensures.brings in
    let clean = subst IsTrue c.repair.ensures.clean h in
    let only = only_on c.requires.durable (λ x l. c.len.ensures.crash x (reads.crash x l))
    (reads.same ∙ c.len.ensures.seen) in
    brought_stands b clean (c.repair.ensures.crash b.taken c' (brought_place b)
    (rw reads.same (brought_there b clean)) only left) k (rw c.len.ensures.seen stands)

pub returns-clause-crash : goal.returns-clause-crash
returns-clause-crash g c c' k h left stands =
    let reads = c.take_counted.ensures.reads in
    let b = c.in_ok-replay.ensures.brings in
    let clean = subst IsTrue c.repair.ensures.clean h in
    let only = only_on c.requires.durable (λ x l. c.len.ensures.crash x (reads.crash x l))
    (reads.same ∙ c.len.ensures.seen) in
    brought_stands b clean (c.repair.ensures.crash b.taken c' (brought_place b)
    (rw reads.same (brought_there b clean)) only left) k (rw c.len.ensures.seen stands)
