-- What a turn or a Tick has made that the book told nothing.
use Rattle.std.proofs.Common.{◌≡◌, ◌⊎◌, inl, inr, ℕ, List, [], Option, false, subst, sym, ap, ◌∙◌}
use Rattle.gu_base.specs.declared.entry.Entry.{Entry}
use Rattle.gu_book.specs.Seen.{HouseAndHistory}
use Rattle.gu_connection.specs.Standing.{Standing, stands}
use Rattle.gu_connection.specs.Talks.{Turns}
use Rattle.gu_connection.specs.declared.connection.Connection.{Connection}
use Rattle.gu_connection.specs.declared.worker.Left.{Left}
use Rattle.gu_connection.proofs.Still.{still}
use Rattle.gu_desk.specs.Views.{SeatView}
use Rattle.gu_keep.specs.Sending.{IsBeat, IsStill, Beats, Turns as TurnsOf}
use Rattle.gu_recorder.specs.Waiting.{Outgoing, Holds}

-- a turn after which the connection stays as it was left
pub turned_still : (opening : HouseAndHistory) (left : Left) (coming left_over : Option (List ℕ)) (l : Left)
    (old seat : SeatView) (begun before turned behind : Connection) → begun ≡ before → behind ≡ turned
    → Turns opening left coming left_over (stands old begun) (stands seat turned) l → behind.tells ≡ false
    → IsStill opening before behind
turned_still opening left coming left_over l old seat begun before turned behind same stays turns untold =
    let of_begun : Connection → Type 0 =
    λ k. Turns opening left coming left_over (stands old k) (stands seat turned) l in
    let of_turned : Connection → Type 0 =
    λ k. Turns opening left coming left_over (stands old before) (stands seat k) l in
    let made : Turns opening left coming left_over (stands old before) (stands seat behind) l =
    subst of_turned (sym stays) (subst of_begun same turns) in (
      left,
      coming,
      left_over,
      l,
      λ s. still s opening left coming left_over (stands old before) (stands seat behind) l made untold,
    )

-- what a Tick has made is held still
pub beats : (house : List ℕ) (opening : HouseAndHistory) (before ticked behind : Connection)
    (old now after : Outgoing) → before.out.items ≡ [] → IsBeat house opening before ticked → behind ≡ ticked
    → now ≡ old → Holds now after behind.out.items now.rests ⊎ (after ≡ now)
    → Beats house opening before old after
beats house opening before ticked behind old now after none beat same kept (inl holds) =
    let of_now : Outgoing → Type 0 = λ o. Holds o after behind.out.items o.rests in
    let of_behind : Connection → Type 0 = λ k. Holds old after k.out.items old.rests in
    inl (ticked, none, beat, subst of_behind same (subst of_now kept holds))
beats house opening before ticked behind old now after none beat same kept (inr stays) = inr (stays ∙ kept)

-- what a turn has made that the book told nothing is held still
pub stays : (opening : HouseAndHistory) (before given begun behind : Connection) (old now after : Outgoing)
    (h : List Entry) → given.out.items ≡ [] → given ≡ before → begun ≡ record given { tells = false }
    → IsStill opening begun behind → now ≡ old → Holds now after behind.out.items now.rests ⊎ (after ≡ now)
    → TurnsOf opening before old after h
stays opening before given begun behind old now after h none same begins still kept (inl holds) =
    let of_now : Outgoing → Type 0 = λ o. Holds o after behind.out.items o.rests in
    let of_begun : Connection → Type 0 = λ k. IsStill opening k behind in
    let from : begun ≡ record before { tells = false } =
    begins ∙ ap (λ (k : Connection). let x : Connection = record k { tells = false } in x) same in
    let nothing : before.out.items ≡ [] = ap (λ (k : Connection). k.out.items) (sym same) ∙ none in
    inr (behind, nothing, subst of_begun from still, subst of_now kept holds)
stays opening before given begun behind old now after h none same begins still kept (inr nothing) =
    inl (inr (nothing ∙ kept))
