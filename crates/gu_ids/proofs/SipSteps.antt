-- The steps of std's hasher don't look at what is pending, but for the last.
use Rattle.std.proofs.Common.{◌≡◌, ℕ, refl}
use Rattle.std.specs.Hash.DefaultHasher.{round, write_word}
use Rattle.gu_ids.specs.declared.hash.Sip.{Sip}
use Rattle.gu_ids.specs.Hashing.{hasher_at, turned, taken}

pub round_at : (s : Sip) (tail count : ℕ) → round (hasher_at s tail count) ≡ hasher_at (turned s) tail count
unfolding round
round_at s tail count = refl

pub write_word_at : (s : Sip) (tail count word : ℕ)
    → write_word (hasher_at s tail count) word ≡ hasher_at (taken s word) tail count
unfolding write_word round
write_word_at s tail count word = refl
