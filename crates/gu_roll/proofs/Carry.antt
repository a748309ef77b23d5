-- What is carried to a new book: whole lists of entries under their numbers.
use Rattle.std.proofs.Common.{◌≡◌, ◌≤◌, true, not, ◌&&◌, List, [], ◌∷◌, length}
use Rattle.std.proofs.Common.{refl, ◌∙◌, ap}
use Rattle.std.specs.Prelude.{filter}
use Rattle.gu_base.specs.History.{is_change, is_reversed, live}
use Rattle.gu_base.specs.House.{House, HasLawfulOpening}
use Rattle.gu_base.specs.Limits.{most_entries}
use Rattle.gu_base.specs.Runs.{opening_history, IsRunFrom}
use Rattle.gu_base.specs.declared.entry.Entry.{Entry}
use Rattle.gu_base.specs.declared.entry.Record.{Record}
use Rattle.gu_base.proofs.Numbered.{listed}
use Rattle.gu_base.proofs.Opening.{opened_length, opening_is}
use Rattle.gu_lives.specs.Extends.{Extends}
use Rattle.gu_lives.specs.Kept.{IsClosed}
use Rattle.gu_lives.specs.Renumbered.{rolled, IsWhole}
use Rattle.gu_lives.specs.Roll.{CanRoll}
use Rattle.gu_lives.specs.Trades.{is_open}
use Rattle.gu_lives.proofs.Rolling.{rolled_part}
use Rattle.gu_lives.proofs.WholeLive.{whole_kept, whole_live}
use Rattle.gu_lives.proofs.WholeTrades.{whole_trades}
use Rattle.gu_roll.specs.Carried.{carried, keeps}
use Rattle.gu_roll.specs.Numbering.{AreOf}
use Rattle.gu_roll.specs.declared.keep.Keep.{Keep}
use Rattle.gu_roll.specs.declared.keep.Keep.TheVariants.{All, Open}
use Rattle.gu_roll.proofs.Renamed.{cut_of}

-- all of a list pass a test that passes all
pub keep_all : (l : List Record) → filter (λ _. true) l ≡ l
keep_all [] = refl
keep_all (r ∷ l) = ap (λ z. r ∷ z) (keep_all l)

-- live changes are entries under their numbers
pub live_are_of : (h : List Entry) → AreOf h (live h)
live_are_of h r among =
    let c = cut_of (live h) r among in
    (listed (λ x. is_change x.command && not (is_reversed h x.number)) 1 h r c.0 c.1.0 c.1.1).found

-- what is carried may be left alone
pub carried_closed : (t : House) (h : List Entry) → IsWhole t (live h) → (keep : Keep)
    → IsClosed (live h) (keeps keep h)
carried_closed t h whole All =
    record { terms = λ r among sets. refl; below = λ k e a b under out. absurd (cc) }
carried_closed t h whole Open = whole_trades t (live h) (is_open (live h)) whole.distinct whole.legal

pub carried_whole : (t : House) (h : List Entry) → IsWhole t (live h) → (keep : Keep) → IsWhole t (carried keep h)
carried_whole t h whole keep =
    whole_kept t (live h) (keeps keep h) whole (carried_closed t h whole keep)

-- and is a run under each house that extends the old one
pub carried_runs : (t u : House) (h : List Entry) (keep : Keep) → Extends t u → CanRoll t h
    → IsRunFrom u (opening_history u) (rolled (carried keep h))
carried_runs t u h keep ext can =
    let whole = whole_live can.lawful can.small can.run can.few in
    (rolled_part t u h (keeps keep h) ext can (carried_closed t h whole keep)).run

-- the opening has an entry for each of its lines
pub opening_long : (t : House) → HasLawfulOpening t → length t.opening ≤ most_entries
    → length (opening_history t) ≡ length t.opening
opening_long t lawful small = ap length (opening_is t lawful small) ∙ opened_length t 1 t.opening
