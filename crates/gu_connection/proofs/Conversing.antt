-- What the rounds of a conversation do together.
use Rattle.std.proofs.Common.{◌≡◌, ℕ, suc, List, [], Option, Result, Ok, Err, inl, inr, refl, sym, subst}
use Rattle.std.specs.Prelude.{IfOk}
use Rattle.std.specs.Io.KnownBytes.{Appends}
use Rattle.gu_book.specs.Seen.{HouseAndHistory}
use Rattle.gu_connection.specs.Conversing.{Talk, Rounds, Converses, Ending, RoundsAndCloses, Conversed}
use Rattle.gu_connection.specs.Standing.{Standing}
use Rattle.gu_connection.specs.Talks.{Turns}
use Rattle.gu_connection.specs.declared.worker.Left.{Left}

-- a turn whose whole text was written
pub rounded : {E : Type 0} (r : Result Left E) (opening : HouseAndHistory) (before : Talk)
    (unread holds : Option (List ℕ)) (turned behind : Standing) → Appends before.written holds turned.out
    → behind ≡ record turned { out = [] } → IfOk r
    (λ l. Turns opening before.left before.unread unread before.at turned l)
    → IfOk r (λ l. Rounds opening before (record { at = behind; unread = unread; written = holds; left = l }))
rounded (Ok l) opening before unread holds turned behind writes gone turns =
    record { turned = turned; turns = turns; writes = writes; gone = gone }
rounded (Err e) opening before unread holds turned behind writes gone turns = tt

-- one round more
pub goes_round : (opening : HouseAndHistory) (before between turned behind : Talk)
    → ((n : ℕ) × Converses opening before n between) → Rounds opening between turned → behind ≡ turned
    → (n : ℕ) × Converses opening before n behind
goes_round opening before between turned behind talk round same =
    let at : Talk → Type 0 = λ t. Rounds opening between t in
    (suc talk.0, (between, talk.1, subst at (sym same) round))

-- the connection is closed behind a round
pub stopped : (house : List ℕ) (opening : HouseAndHistory) (before last : Talk)
    → ((n : ℕ) × Converses opening before n last)
    → Conversed house opening before (record { seat = last.at.seat; unread = last.unread; written = last.written })
stopped house opening before last talk = (talk.0, last, talk.1, inl refl)

-- a round closes the connection
pub ended_by : (house : List ℕ) (opening : HouseAndHistory) (before between : Talk) (behind : Ending)
    → ((n : ℕ) × Converses opening before n between) → RoundsAndCloses house opening between behind
    → Conversed house opening before behind
ended_by house opening before between behind talk closes = (talk.0, between, talk.1, inr closes)
