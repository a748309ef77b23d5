use contract.BorrowLft.{◌⊑◌, ⊑_meet, ⊑_static}
use base.Fml.{Lft}
use Rattle.std.proofs.Common.{[], ◌++◌}
use Rattle.gu_recorder.proofs.made.made_behind.Goals as goal

-- all that is passed lives as long as the references to it
pub note-requires : goal.note-requires
note-requires g c κs within =
    let k = κs.1.0 in
    let s : k ⊑ [] = ⊑_static k in
    let both : (x y : Lft) → k ⊑ x → k ⊑ y → k ⊑ x ++ y = ⊑_meet k in
    let j = both _ _ within.1.0 s in
    let ticket = both _ _ (both _ _ within.0.1.1.0 (both _ _ j (both _ _ (both _ _ j s) s))) s in
    let all = both _ _ (both _ _ within.0.0 s) (both _ _ (both _ _ within.0.1.0 s) ticket) in
    both _ _ all all
