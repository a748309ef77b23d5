-- What is appended piece by piece are fields.
use Rattle.std.proofs.Common.{◌≡◌, ◌∙◌, ◌≤◌, ◌<◌, ◌+◌, ◌/◌, ◌%◌, ℕ, List, [], ◌∷◌, ◌++◌, length, ap, sym, refl, arith}
use Rattle.std.proofs.Common.{append_assoc, length-append}
use Rattle.std.specs.Prelude.{decimal}
use Rattle.std.proofs.lemmas.Fmt.{decimal_digit, decimal_step}

-- a value that is appended, and its SOH with what follows
closed : (o value rest : List ℕ) → (o ++ value) ++ 1 ∷ rest ≡ o ++ ((value ++ 1 ∷ []) ++ rest)
closed o value rest =
    append_assoc o value (1 ∷ rest) ∙ ap (λ (t : List ℕ). o ++ t) (sym (append_assoc value (1 ∷ []) rest))

-- a value, then a text, which begins behind a SOH
then_text : (o front value text rest : List ℕ)
    → (((o ++ front) ++ value) ++ 1 ∷ text) ++ rest ≡ o ++ (front ++ ((value ++ 1 ∷ []) ++ (text ++ rest)))
then_text o front value text rest =
    append_assoc ((o ++ front) ++ value) (1 ∷ text) rest ∙ closed (o ++ front) value (text ++ rest)
    ∙ append_assoc o front ((value ++ 1 ∷ []) ++ (text ++ rest))

-- ---- decimals and values

pub two_digits : (n : ℕ) → 10 ≤ n → n < 100 → decimal n ≡ (48 + n / 10) ∷ (48 + n % 10) ∷ []
two_digits n lo hi = rw (decimal_step n lo (omega arith), decimal_digit (n / 10) (omega arith)) refl

three_digits : (n : ℕ) → 100 ≤ n → n < 1000 → decimal n ≡ (48 + n / 10 / 10) ∷ (48 + n / 10 % 10) ∷ (48 + n % 10) ∷ []
three_digits n lo hi =
    rw (decimal_step n (omega arith) (omega arith), two_digits (n / 10) (omega arith) (omega arith)) refl

two_values : (o front id text number : List ℕ)
    → ((((o ++ front) ++ id) ++ 1 ∷ text) ++ number) ++ 1 ∷ []
    ≡ o ++ (front ++ ((id ++ 1 ∷ []) ++ (text ++ ((number ++ 1 ∷ []) ++ []))))
two_values o front id text number =
    closed (((o ++ front) ++ id) ++ 1 ∷ text) number [] ∙ then_text o front id text ((number ++ 1 ∷ []) ++ [])

three_values : (o front id text number more status : List ℕ)
    → ((((((o ++ front) ++ id) ++ 1 ∷ text) ++ number) ++ 1 ∷ more) ++ status) ++ 1 ∷ []
    ≡ o ++ (front ++ ((id ++ 1 ∷ []) ++ (text ++ ((number ++ 1 ∷ []) ++ (more ++ ((status ++ 1 ∷ []) ++ []))))))
three_values o front id text number more status =
    let seen = ((o ++ front) ++ id) ++ 1 ∷ text in
    let last = (status ++ 1 ∷ []) ++ [] in
    closed ((seen ++ number) ++ 1 ∷ more) status [] ∙ append_assoc (seen ++ number) (1 ∷ more) last
    ∙ closed seen number (more ++ last) ∙ then_text o front id text ((number ++ 1 ∷ []) ++ (more ++ last))

-- TradeReportID (571), TrdRptStatus (939) `0`, Text (58) `entry n`
pub trade_text : (o id number : List ℕ)
    → ((((o ++ 53 ∷ 55 ∷ 49 ∷ 61 ∷ []) ++ id) ++ 1 ∷ 57 ∷ 51 ∷ 57 ∷ 61 ∷ 48 ∷ 1 ∷ 53 ∷ 56 ∷ 61 ∷ 101 ∷ 110 ∷ 116 ∷ 114
    ∷ 121 ∷ 32 ∷ [])
    ++ number)
    ++ 1 ∷ [] ≡ o ++ ((decimal 571 ++ 61 ∷ (id ++ 1 ∷ []))
    ++ ((decimal 939 ++ 61 ∷ 48 ∷ 1 ∷ [])
    ++ ((decimal 58 ++ 61 ∷ 101 ∷ 110 ∷ 116 ∷ 114 ∷ 121 ∷ 32 ∷ (number ++ 1 ∷ [])) ++ [])))
trade_text o id number =
    rw (
      three_digits 571 (omega arith) (omega arith),
      three_digits 939 (omega arith) (omega arith),
      two_digits 58 (omega arith) (omega arith),
    )
    (two_values o _ id _ number)

-- AllocID (70), SecondaryAllocID (793), AllocStatus (87)
pub instruction_text : (o id number status : List ℕ)
    → ((((((o ++ 55 ∷ 48 ∷ 61 ∷ []) ++ id) ++ 1 ∷ 55 ∷ 57 ∷ 51 ∷ 61 ∷ []) ++ number) ++ 1 ∷ 56 ∷ 55 ∷ 61 ∷ [])
    ++ status)
    ++ 1 ∷ [] ≡ o ++ ((decimal 70 ++ 61 ∷ (id ++ 1 ∷ []))
    ++ ((decimal 793 ++ 61 ∷ (number ++ 1 ∷ [])) ++ ((decimal 87 ++ 61 ∷ (status ++ 1 ∷ [])) ++ [])))
instruction_text o id number status =
    rw (
      two_digits 70 (omega arith) (omega arith),
      three_digits 793 (omega arith) (omega arith),
      two_digits 87 (omega arith) (omega arith),
    )
    (three_values o _ id _ number _ status)

-- TradeReportID (571), TrdRptStatus (939) `1`, Text (58)
pub refused_trade_text : (o id text : List ℕ)
    → ((((o ++ 53 ∷ 55 ∷ 49 ∷ 61 ∷ []) ++ id) ++ 1 ∷ 57 ∷ 51 ∷ 57 ∷ 61 ∷ 49 ∷ 1 ∷ 53 ∷ 56 ∷ 61 ∷ []) ++ text) ++ 1 ∷ []
    ≡ o ++ ((decimal 571 ++ 61 ∷ (id ++ 1 ∷ []))
    ++ ((decimal 939 ++ 61 ∷ 49 ∷ 1 ∷ []) ++ ((decimal 58 ++ 61 ∷ (text ++ 1 ∷ [])) ++ [])))
refused_trade_text o id text =
    rw (
      three_digits 571 (omega arith) (omega arith),
      three_digits 939 (omega arith) (omega arith),
      two_digits 58 (omega arith) (omega arith),
    )
    (two_values o _ id _ text)

-- AllocID (70), AllocStatus (87) `1`, Text (58)
pub refused_instruction_text : (o id text : List ℕ)
    → ((((o ++ 55 ∷ 48 ∷ 61 ∷ []) ++ id) ++ 1 ∷ 56 ∷ 55 ∷ 61 ∷ 49 ∷ 1 ∷ 53 ∷ 56 ∷ 61 ∷ []) ++ text) ++ 1 ∷ []
    ≡ o ++ ((decimal 70 ++ 61 ∷ (id ++ 1 ∷ []))
    ++ ((decimal 87 ++ 61 ∷ 49 ∷ 1 ∷ []) ++ ((decimal 58 ++ 61 ∷ (text ++ 1 ∷ [])) ++ [])))
refused_instruction_text o id text =
    rw (
      two_digits 70 (omega arith) (omega arith),
      two_digits 87 (omega arith) (omega arith),
      two_digits 58 (omega arith) (omega arith),
    )
    (two_values o _ id _ text)

-- ---- how many bytes they have

-- of two values, and of three
two_len : (front id text value : List ℕ)
    → length front + length id + length text + length value + 2
    ≡ length ((((front ++ id) ++ 1 ∷ text) ++ value) ++ 1 ∷ [])
two_len front id text value =
    let to_id = front ++ id in
    let to_text = to_id ++ 1 ∷ text in
    let to_value = to_text ++ value in
    omega (
      arith,
      length-append front id,
      length-append to_id (1 ∷ text),
      length-append to_text value,
      length-append to_value (1 ∷ []),
    )

three_len : (front id text number more status : List ℕ)
    → length front + length id + length text + length number + length more + length status + 3
    ≡ length ((((((front ++ id) ++ 1 ∷ text) ++ number) ++ 1 ∷ more) ++ status) ++ 1 ∷ [])
three_len front id text number more status =
    let to_id = front ++ id in
    let to_text = to_id ++ 1 ∷ text in
    let to_number = to_text ++ number in
    let to_more = to_number ++ 1 ∷ more in
    let to_status = to_more ++ status in
    omega (
      arith,
      length-append front id,
      length-append to_id (1 ∷ text),
      length-append to_text number,
      length-append to_number (1 ∷ more),
      length-append to_more status,
      length-append to_status (1 ∷ []),
    )

-- of each body
pub trade_len : (id number : List ℕ)
    → length id + length number + 21
    ≡ length ((decimal 571 ++ 61 ∷ (id ++ 1 ∷ []))
    ++ ((decimal 939 ++ 61 ∷ 48 ∷ 1 ∷ [])
    ++ ((decimal 58 ++ 61 ∷ 101 ∷ 110 ∷ 116 ∷ 114 ∷ 121 ∷ 32 ∷ (number ++ 1 ∷ [])) ++ [])))
trade_len id number =
    omega (
      arith,
      two_len (53 ∷ 55 ∷ 49 ∷ 61 ∷ []) id
          (57 ∷ 51 ∷ 57 ∷ 61 ∷ 48 ∷ 1 ∷ 53 ∷ 56 ∷ 61 ∷ 101 ∷ 110 ∷ 116 ∷ 114 ∷ 121 ∷ 32 ∷ []) number,
      ap length (trade_text [] id number),
    )

pub refused_trade_len : (id text : List ℕ)
    → length id + length text + 15
    ≡ length ((decimal 571 ++ 61 ∷ (id ++ 1 ∷ []))
    ++ ((decimal 939 ++ 61 ∷ 49 ∷ 1 ∷ []) ++ ((decimal 58 ++ 61 ∷ (text ++ 1 ∷ [])) ++ [])))
refused_trade_len id text =
    omega (
      arith,
      two_len (53 ∷ 55 ∷ 49 ∷ 61 ∷ []) id (57 ∷ 51 ∷ 57 ∷ 61 ∷ 49 ∷ 1 ∷ 53 ∷ 56 ∷ 61 ∷ []) text,
      ap length (refused_trade_text [] id text),
    )

pub instruction_len : (id number status : List ℕ)
    → length id + length number + length status + 13
    ≡ length ((decimal 70 ++ 61 ∷ (id ++ 1 ∷ []))
    ++ ((decimal 793 ++ 61 ∷ (number ++ 1 ∷ [])) ++ ((decimal 87 ++ 61 ∷ (status ++ 1 ∷ [])) ++ [])))
instruction_len id number status =
    omega (
      arith,
      three_len (55 ∷ 48 ∷ 61 ∷ []) id (55 ∷ 57 ∷ 51 ∷ 61 ∷ []) number (56 ∷ 55 ∷ 61 ∷ []) status,
      ap length (instruction_text [] id number status),
    )

pub refused_instruction_len : (id text : List ℕ)
    → length id + length text + 13
    ≡ length ((decimal 70 ++ 61 ∷ (id ++ 1 ∷ []))
    ++ ((decimal 87 ++ 61 ∷ 49 ∷ 1 ∷ []) ++ ((decimal 58 ++ 61 ∷ (text ++ 1 ∷ [])) ++ [])))
refused_instruction_len id text =
    omega (
      arith,
      two_len (55 ∷ 48 ∷ 61 ∷ []) id (56 ∷ 55 ∷ 61 ∷ 49 ∷ 1 ∷ 53 ∷ 56 ∷ 61 ∷ []) text,
      ap length (refused_instruction_text [] id text),
    )
