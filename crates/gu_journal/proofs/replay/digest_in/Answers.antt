use Rattle.gu_journal.proofs.replay.digest_in.Goals as goal
use Rattle.gu_journal.proofs.Vocabulary.{ap, List, refl, ℕ, ◌∙◌}
use Rattle.hex.proofs.HexLemmas.{decode_sized-encode_lower}
use Rattle.hex.specs.Hex.{decode_sized}
use Rattle.std.proofs.lemmas.Result.{MatchResult-at_ok}

pub returns-in-Ok : goal.returns-in-Ok
returns-in-Ok c bytes is len same =
    let read = ap (λ (t : List ℕ). decode_sized t 32) same ∙ decode_sized-encode_lower bytes 32 len is in
    ((MatchResult-at_ok _ _ bytes read c.decode_to_slice.ensures.value).1, refl)

pub returns-in-Err : goal.returns-in-Err
returns-in-Err c bytes is len same =
    let read = ap (λ (t : List ℕ). decode_sized t 32) same ∙ decode_sized-encode_lower bytes 32 len is in
    let done = (MatchResult-at_ok _ _ bytes read c.decode_to_slice.ensures.value).0 in
    (tt, cc (done, c.in-Err.is))
