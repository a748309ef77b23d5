-- What an opening call makes is the agreement of its line.
use Rattle.std.proofs.Common.{◌≡◌, ℕ, ◌+◌, List, Option, Some, None, refl, sym, ◌∙◌}
use Rattle.std.specs.Prelude.{slice_get, option_map}
use Rattle.gu_base.specs.House.{House}
use Rattle.gu_base.specs.Answers.{Call}
use Rattle.gu_base.specs.Runs.{opening_call, opening_calls}
use Rattle.gu_base.specs.declared.command.Command.TheVariants.{Agree}
use Rattle.gu_base.specs.declared.house.Pair.{Pair}
use Rattle.gu_base.specs.declared.house.Agreement.{Agreement}
use Rattle.gu_parties.proofs.OpeningCalls.{calls_at}

abbrev Line : Type 0
Line = Pair × Agreement

-- no line stands where no call does
pub none_made : (t : House) (n : ℕ) → None ≡ slice_get (opening_calls t) n → None ≡ slice_get t.opening n
none_made t n is = from (slice_get t.opening n) (is ∙ calls_at t 1 t.opening n)
  where
    from : (o : Option Line) → None ≡ option_map (opening_call t (1 + n)) o → None ≡ o
    from None e = cc
    from (Some x) e = absurd (cc)

-- the call there agrees to the terms of the line
pub line_made : (t : House) (n : ℕ) (call : Call) → Some call ≡ slice_get (opening_calls t) n
    → (x : Line) × (Some x ≡ slice_get t.opening n) × (call.command ≡ Agree x.0.giver x.0.taker x.1.rate x.1.limit)
line_made t n call is = from (slice_get t.opening n) (is ∙ calls_at t 1 t.opening n)
  where
    from : (o : Option Line) → Some call ≡ option_map (opening_call t (1 + n)) o
        → (x : Line) × (Some x ≡ o) × (call.command ≡ Agree x.0.giver x.0.taker x.1.rate x.1.limit)
    from None e = absurd (cc)
    from (Some x) e =
        let same : call ≡ opening_call t (1 + n) x = cc in
        (x, refl, λ i. (same i).command)

-- so what it agrees to is the line
pub made_is : (t : House) (n : ℕ) (call : Call) (giver taker : List ℕ) (rate limit : ℕ)
    → Some call ≡ slice_get (opening_calls t) n → call.command ≡ Agree giver taker rate limit
    → Some (record { giver = giver; taker = taker }, record { rate = rate; limit = limit }) ≡ slice_get t.opening n
made_is t n call giver taker rate limit is agrees =
    let line = line_made t n call is in
    let same : Agree giver taker rate limit ≡ Agree line.0.0.giver line.0.0.taker line.0.1.rate line.0.1.limit =
    sym agrees ∙ line.2 in
    let g : giver ≡ line.0.0.giver = cc in
    let k : taker ≡ line.0.0.taker = cc in
    let r : rate ≡ line.0.1.rate = cc in
    let l : limit ≡ line.0.1.limit = cc in
    (λ i. Some (record { giver = g i; taker = k i }, record { rate = r i; limit = l i })) ∙ line.1
