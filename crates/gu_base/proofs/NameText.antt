-- The texts of names are ASCII, and short.
use Rattle.std.proofs.Common.{◌≡◌, ◌≤◌, ℕ, ◌<◌, List, [], ◌∷◌, zero, suc, length, Bool, true, arith, IsTrue}
use Rattle.std.specs.Prelude.{nat_le, slice_index}
use Rattle.std.specs.Str.{IsUtf8}
use Rattle.std.specs.List.{list_all}
use Rattle.std.proofs.lemmas.Str.{IsUtf8-from_ascii}
use Rattle.std.proofs.lemmas.Bool.{and_parts}
use Rattle.std.proofs.lemmas.Bool.Decides.{nat_tests}
use Rattle.gu_base.specs.Names.{is_firm_text, is_id_text, is_printed, is_text}

printed_ascii : (b : ℕ) → is_printed b ≡ true → b < 128
printed_ascii b h = grind (arith, nat_tests)

text_ascii : (b : ℕ) → is_text b ≡ true → b < 128
text_ascii b h = grind (arith, nat_tests)

all_ascii : (p : ℕ → Bool) → ((b : ℕ) → p b ≡ true → b < 128) → (s : List ℕ) → list_all p s ≡ true → (i : ℕ)
    → slice_index s i < 128
all_ascii p ascii [] h i = omega arith
all_ascii p ascii (b ∷ s) h zero = ascii b (and_parts _ _ h).0
all_ascii p ascii (b ∷ s) h (suc i) = all_ascii p ascii s (and_parts _ _ h).1 i

pub firm_utf8 : (s : List ℕ) → IsTrue (is_firm_text s) → IsUtf8 s
firm_utf8 s h = IsUtf8-from_ascii s (all_ascii is_printed printed_ascii s (and_parts _ _ h).1)

pub id_utf8 : (s : List ℕ) → IsTrue (is_id_text s) → IsUtf8 s
id_utf8 s h = IsUtf8-from_ascii s (all_ascii is_text text_ascii s (and_parts _ _ h).1)

le_told : (a b : ℕ) → nat_le a b ≡ true → a ≤ b
le_told a b h = grind (arith, nat_tests)

pub firm_len : (s : List ℕ) → IsTrue (is_firm_text s) → length s ≤ 16
firm_len s h = le_told (length s) 16 (and_parts _ _ (and_parts _ _ h).0).1

pub id_len : (s : List ℕ) → IsTrue (is_id_text s) → length s ≤ 32
id_len s h = le_told (length s) 32 (and_parts _ _ (and_parts _ _ h).0).1

pub ruleset name_text = (firm_utf8, id_utf8, firm_len, id_len)
