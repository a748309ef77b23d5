use Rattle.std.proofs.Common.{List, sym, subst, ◌≡◌, ◌∙◌, ap, IsTrue}
use Rattle.gu_base.specs.House.{House}
use Rattle.gu_base.specs.Runs.{opening_history, IsRunFrom}
use Rattle.gu_base.specs.declared.entry.Entry.{Entry}
use Rattle.gu_lives.specs.Renumbered.{rolled}
use Rattle.gu_lives.specs.Roll.{CanRoll}
use Rattle.gu_lives.proofs.Larger.{opening_same}
use Rattle.gu_roll.specs.Carried.{carried}
use Rattle.gu_roll.specs.Reopened.{begun_under, live_opening}
use Rattle.gu_roll.specs.Rolled.{IsUncarried}
use Rattle.gu_roll.proofs.Again.{is_begun_under}
use Rattle.gu_roll.proofs.Carry.{carried_runs}
use Rattle.gu_roll.proofs.RollWhy.{is_rolled, why_lacks, why_uncarried, why_unmade}
use Rattle.gu_roll.proofs.rolling.roll.Goals as goal

-- the entries are a run under a table that extends the old one, if no agreement of the opening was reversed
pub written_of-requires : goal.written_of-requires
written_of-requires c =
    let t = c.args.old.house in
    let u = c.args.new.house in
    let h = c.in-Ok-counted.found.0.history in
    let k = rolled (carried c.args.asked.keep h) in
    let are = c.in-Ok-found.ensures.entries in
    let can : IsTrue c.in-Ok-found.picked.is_whole → CanRoll t h = λ whole.
    subst (λ (g : House). CanRoll g h) c.in-Ok-counted.ensures.house (c.in-Ok-found.ensures.can whole) in
    let run : IsTrue c.in-Ok.extends → IsTrue c.in-Ok-found.picked.is_whole
    → IsRunFrom u (opening_history u) k = λ extends whole.
    carried_runs t u h c.args.asked.keep (c.in-Ok.ensures.extends extends) (can whole) in
    record {
      room = c.in-Ok-counted.ensures.room;
      run = λ extends whole.
          subst (λ (l : List Entry). IsRunFrom u (opening_history u) l) (sym are) (run extends whole);
      begun = λ extends whole.
          let ext = c.in-Ok.ensures.extends extends in
          let can = can whole in
          are
          ∙ is_begun_under t u k ext (opening_same ext.more ext.opening can.lawful can.small) can.lawful can.small
          (run extends whole)
          ∙ ap (begun_under u) (sym are);
    }

pub returns-in-Ok-found-clause-rolled : goal.returns-in-Ok-found-clause-rolled
returns-in-Ok-found-clause-rolled c =
    let t = c.args.old.house in
    let u = c.args.new.house in
    let h = c.in-Ok-counted.found.0.history in
    let opens : u.opening ≡ live_opening t h =
    c.in-Ok-found.ensures.opens ∙ ap (λ (g : House). live_opening g h) c.in-Ok-counted.ensures.house in
    is_rolled (λ r. r.bytes.items) (λ r. r.numbers.items) (λ r. r.lost) t u c.args.old.pin.bytes
    c.args.new.pin.bytes c.args.file.items c.args.asked.keep h c.in-Ok-found.picked.entries.items
    c.in-Ok-found.picked.tally.numbers.items c.in-Ok-found.picked.tally.lost c.written_of.result c.in-Ok.ensures.more
    opens c.in-Ok-counted.ensures.recovers c.in-Ok-counted.ensures.later c.in-Ok-found.ensures.entries
    c.in-Ok-found.ensures.numbers c.written_of.ensures.again c.written_of.ensures.part
    c.written_of.ensures.numbers c.in-Ok-found.ensures.lost c.written_of.ensures.lost

pub returns-in-Ok-found-clause-why : goal.returns-in-Ok-found-clause-why
returns-in-Ok-found-clause-why c =
    why_unmade c.args.old.house c.args.new.house c.args.old.pin.bytes c.args.file.items c.args.asked.keep
    c.in-Ok-counted.found.0.history c.in-Ok-found.picked.entries.items c.written_of.result
    c.in-Ok-counted.ensures.recovers c.in-Ok-found.ensures.entries c.written_of.ensures.why

pub returns-in-Err-found-clause-why : goal.returns-in-Err-found-clause-why
returns-in-Err-found-clause-why c =
    let h = c.in-Ok-counted.found.0.history in
    why_uncarried c.args.old.house c.args.new.house c.args.old.pin.bytes c.args.file.items c.args.asked.keep h
    c.in-Err-found.error c.in-Ok-counted.ensures.recovers
    (subst (λ (k : House). IsUncarried k c.args.new.house h c.in-Err-found.error) c.in-Ok-counted.ensures.house
    c.in-Err-found.ensures.why)

pub returns-in-Err-clause-why : goal.returns-in-Err-clause-why
returns-in-Err-clause-why c =
    why_lacks c.args.old.house c.args.new.house c.args.old.pin.bytes c.args.file.items c.args.asked.keep
    c.in-Err.error c.in-Err.ensures.why
