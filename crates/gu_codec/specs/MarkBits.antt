-- The SOH of some bytes, as the bits of a word.
use Rattle.std.specs.Prelude.{◌≡◌, ◌⊎◌, ℕ, ◌+◌, ◌<◌, ◌≤◌, Bool, false, nat_le, if◌then◌else◌, List}
use Rattle.std.specs.Prelude.{length, slice_index}
use Rattle.std.specs.Int.{bit_at}
use Rattle.gu_codec.specs.Fields.{is_soh}

-- whether SOH stands at a place, as a bit
abbrev pub soh_bit : List ℕ → ℕ → ℕ
soh_bit bytes at = if is_soh (slice_index bytes at) then 1 else 0

-- a bit for each of the n bytes from a place on, from the lowest bit on: whether it is SOH
pub record AreMarks (bytes : List ℕ) (at n marks : ℕ) : Type 0 where
  pub inside : (i : ℕ) → i < n → bit_at marks i ≡ soh_bit bytes (at + i)
  pub outside : (i : ℕ) → n ≤ i → bit_at marks i ≡ 0

-- the same of the 64 bytes from base on, but for those before a place; and from that place to base
-- no SOH stands
pub record IsMarked (bytes : List ℕ) (at base marks : ℕ) : Type 0 where
  pub within : at ≤ length bytes
  pub begins : base ≤ length bytes
  pub near : at ≤ base + 64
  pub clear : (k : ℕ) → at ≤ k → k < base → is_soh (slice_index bytes k) ≡ false
  pub bits : (i : ℕ) → i < 64
      → bit_at marks i ≡ (if nat_le at (base + i) then soh_bit bytes (base + i) else 0)

-- how many bytes are looked at in a step
abbrev pub IsWindow : ℕ → Type 0
IsWindow n = (n ≡ 64) ⊎ (n ≡ 32)

-- a bit for each byte, from the lowest bit on: whether it passes a test
abbrev pub AreBits : (ℕ → Bool) → List ℕ → ℕ → Type 0
AreBits test bytes bits =
    (i : ℕ) → i < length bytes → bit_at bits i ≡ (if test (slice_index bytes i) then 1 else 0)
