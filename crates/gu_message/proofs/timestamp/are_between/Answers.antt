use Rattle.std.proofs.Common.{◌≤◌, ℕ, get_or, take, drop, subst}
use Rattle.std.proofs.lemmas.Simd.{length-chunk, get_or-chunk}
use Rattle.gu_message.proofs.Lanes.{between}
use Rattle.gu_message.proofs.timestamp.are_between.Goals as goal

pub returns : goal.returns
returns c full k lt =
    let t = c.args.text.now in
    let at = c.args.at in
    let v = take 16 (drop at t) in
    subst (λ (x : ℕ). (get_or c.args.lowest.now k 0 ≤ x) × (x ≤ get_or c.args.highest.now k 0))
    (get_or-chunk at 16 t k 0 lt)
    (between v c.args.lowest.now c.args.highest.now (length-chunk at 16 t c.requires) c.told-lowest c.told-highest full
    k lt)
