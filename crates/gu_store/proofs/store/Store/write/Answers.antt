use Rattle.gu_store.proofs.store.Store.write.Goals as goal
use Rattle.gu_store.proofs.Steps.{from_one, laid, left_stayed, left_wrote, stayed, written, wrote, zero_stayed}
use Rattle.gu_store.proofs.Steps.{zero_wrote}
use Rattle.std.proofs.Common.{arith, length, length-append, sym, ℕ, ◌++◌, ◌+◌, ◌-◌, ◌<◌, ◌∙◌, ◌≡◌}
use Rattle.std.proofs.lemmas.List.Elements.{All-append}

-- ---- what counted before

pub returns-in_err-write_at-clause-crash : goal.returns-in_err-write_at-clause-crash
returns-in_err-write_at-clause-crash g c before c' rest left =
    wrote before _ rest.end rest.file (from_one rest.durable c.write_at.ensures.crash c' left)

pub returns-in_err-write_zeros-clause-crash : goal.returns-in_err-write_zeros-clause-crash
returns-in_err-write_zeros-clause-crash g c before c' rest left =
    stayed before _ rest.end rest.file rest.durable c.write_at.ensures.crash c.write_zeros.ensures.zeroing.crash c' left

pub returns-in_err-sync-clause-crash : goal.returns-in_err-sync-clause-crash
returns-in_err-sync-clause-crash g c before c' rest left =
    stayed before _ rest.end rest.file rest.durable c.write_at.ensures.crash c.write_zeros.ensures.zeroing.crash c'
    (c.sync.ensures.crash c' left)

pub returns-clause-crash : goal.returns-clause-crash
returns-clause-crash g c before c' rest left =
    stayed before _ rest.end rest.file rest.durable c.write_at.ensures.crash c.write_zeros.ensures.zeroing.crash c'
    (c.sync.ensures.crash c' left)

-- ---- the zero behind the group

pub returns-in_err-write_at-clause-zero : goal.returns-in_err-write_at-clause-zero
returns-in_err-write_at-clause-zero g c before c' rest left =
    zero_wrote before _ rest.end rest.file c.requires.fits (from_one rest.durable c.write_at.ensures.crash c' left)

pub returns-in_err-write_zeros-clause-zero : goal.returns-in_err-write_zeros-clause-zero
returns-in_err-write_zeros-clause-zero g c before c' rest left =
    zero_stayed before _ rest.end rest.file c.requires.fits rest.durable c.write_at.ensures.crash
    c.write_zeros.ensures.zeroing.crash c' left

pub returns-in_err-sync-clause-zero : goal.returns-in_err-sync-clause-zero
returns-in_err-sync-clause-zero g c before c' rest left =
    zero_stayed before _ rest.end rest.file c.requires.fits rest.durable c.write_at.ensures.crash
    c.write_zeros.ensures.zeroing.crash c' (c.sync.ensures.crash c' left)

pub returns-clause-zero : goal.returns-clause-zero
returns-clause-zero g c before c' rest left =
    zero_stayed before _ rest.end rest.file c.requires.fits rest.durable c.write_at.ensures.crash
    c.write_zeros.ensures.zeroing.crash c' (c.sync.ensures.crash c' left)

-- ---- where the device finishes each byte

pub returns-in_err-write_at-clause-mixed : goal.returns-in_err-write_at-clause-mixed
returns-in_err-write_at-clause-mixed g c all before c' rest left =
    left_wrote before _ rest.end rest.file rest.no_zero c.requires.fits
    (from_one rest.durable (c.write_at.ensures.mixed (all _) (omega (arith, c.requires.fits, c.requires.room))) c' left)

pub returns-in_err-write_zeros-clause-mixed : goal.returns-in_err-write_zeros-clause-mixed
returns-in_err-write_zeros-clause-mixed g c all before c' rest left =
    left_stayed before _ rest.end rest.file rest.no_zero c.requires.fits rest.durable
    (c.write_at.ensures.mixed (all _) (omega (arith, c.requires.fits, c.requires.room)))
    c.write_zeros.ensures.zeroing.crash c' left

pub returns-in_err-sync-clause-mixed : goal.returns-in_err-sync-clause-mixed
returns-in_err-sync-clause-mixed g c all before c' rest left =
    left_stayed before _ rest.end rest.file rest.no_zero c.requires.fits rest.durable
    (c.write_at.ensures.mixed (all _) (omega (arith, c.requires.fits, c.requires.room)))
    c.write_zeros.ensures.zeroing.crash c' (c.sync.ensures.crash c' left)

pub returns-clause-mixed : goal.returns-clause-mixed
returns-clause-mixed g c all before c' rest left =
    left_stayed before _ rest.end rest.file rest.no_zero c.requires.fits rest.durable
    (c.write_at.ensures.mixed (all _) (omega (arith, c.requires.fits, c.requires.room)))
    c.write_zeros.ensures.zeroing.crash c' (c.sync.ensures.crash c' left)

-- ---- at rest again

pub returns-clause-rest : goal.returns-clause-rest
returns-clause-rest g c before rest =
    let group = c.args.group.now in
    let end = c.args.self.now.end in
    let left = c.args.self.now.left in
    let is = written before _ rest.end rest.file group _ c.requires.some c.requires.fits
    c.write_at.ensures.others c.in_ok-write_at.ensures.written in
    let place : end + length group ≡ length (before ++ group) = omega (arith, rest.end, length-append before group) in
    let same : end + left ≡ end + length group + (left - length group) = omega (arith, c.requires.fits) in
    record {
      file = c.sync.ensures.seen ∙ laid (before ++ group) _ place is (sym same)
          c.write_zeros.ensures.zeroing.others c.in_ok-write_zeros.ensures.written;
      end = place;
      some = omega (arith, c.requires.fits);
      no_zero = All-append (λ (b : ℕ). 0 < b) before group rest.no_zero c.requires.no_zero;
      durable = λ f left. c.in_ok-sync.ensures.durable f left ∙ sym c.sync.ensures.seen;
    }
