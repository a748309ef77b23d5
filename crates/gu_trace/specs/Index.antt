-- The numbers of the entries that concern each firm, kept for all firms.
use Rattle.std.specs.Prelude.{◌≡◌, ◌≤◌, ◌<◌, ℕ, ◌==◌, Bool, false, if◌then◌else◌}
use Rattle.std.specs.Prelude.{List, [], ◌∷◌, ◌++◌, length, take, map, filter, bytes_eq}
use Rattle.std.specs.Prelude.{option_map, unwrap_or, IsSomeAnd, vec_len, vec_capacity}
use Rattle.std.specs.Map.{lookup}
use Rattle.gu_base.specs.History.{records}
use Rattle.gu_base.specs.declared.entry.Entry.{Entry}
use Rattle.gu_trace.specs.Concerns.{concerns}
use Rattle.gu_trace.specs.declared.firm_numbers.FirmNumbers.{FirmNumbers}
use Rattle.gu_trace.specs.declared.index.ConcernIndex.{ConcernIndex}

-- the numbers kept for a firm
abbrev pub numbers_of : FirmNumbers → List ℕ → List ℕ
numbers_of r f = unwrap_or (option_map (λ v. v.items) (lookup (bytes_eq f) r.firms.entries)) []

-- the numbers of those of the first n entries that concern the firm, in their order
abbrev pub numbers_for : List ℕ → List Entry → ℕ → List ℕ → List ℕ
numbers_for house h n f =
    map (λ r. r.number) (filter (λ r. concerns house h f r.firm r.command) (take n (records h)))

-- an index of this history: it has filed the first entries, and keeps for each firm the numbers of
-- those of them that concern it
pub record IsIndexOf (house : List ℕ) (h : List Entry) (i : ConcernIndex) : Type 0 where
  pub within : i.filed ≤ length h
  pub numbers : (f : List ℕ) → numbers_of i.by_firm f ≡ numbers_for house h i.filed f

-- these numbers rise, from above the one and up to the other
abbrev pub RiseWithin : ℕ → ℕ → List ℕ → Type 0
RiseWithin low high [] = Unit {0}
RiseWithin low high (n ∷ ns) = (low < n) × (n ≤ high) × RiseWithin n high ns

-- whether the last of these numbers is n
abbrev pub ends_with : ℕ → List ℕ → Bool
ends_with n [] = false
ends_with n (m ∷ []) = m == n
ends_with n (m ∷ k ∷ ms) = ends_with n (k ∷ ms)

-- these numbers with n at their end, once
abbrev pub with_last : ℕ → List ℕ → List ℕ
with_last n ms = if ends_with n ms then ms else ms ++ n ∷ []

-- the same, where n is to be kept
abbrev pub filed : ℕ → Bool → List ℕ → List ℕ
filed n b ms = if b then with_last n ms else ms

-- numbers are kept for the firm, with room for n unless that is the last
abbrev pub CanPut : FirmNumbers → ℕ → List ℕ → Type 0
CanPut r n f = IsSomeAnd (lookup (bytes_eq f) r.firms.entries)
    (λ v. ends_with n v.items ≡ false → vec_len v < vec_capacity v)
