-- What is appended piece by piece, each text between two values as one, are a header's fields.
use Rattle.std.proofs.Common.{◌≡◌, ◌∙◌, ◌≤◌, ◌<◌, ◌+◌, ◌/◌, ℕ, List, [], ◌∷◌, ◌++◌, length, ap, sym, arith}
use Rattle.std.proofs.Common.{append_assoc, length-append}
use Rattle.std.specs.Prelude.{decimal, Option, Some, None}
use Rattle.std.proofs.lemmas.Fmt.{decimal_digit}
use Rattle.itoa.proofs.Decimal.{decimal_two, decimal_pair, length_one, length_pair}
use Rattle.gu_codec.specs.Writing.{HeaderText, field, fields_text, resend_pairs, resend_len, header_pairs, values_len}
use Rattle.gu_codec.proofs.TagTexts.{two_len}

-- a text that begins with SOH, a value, and the SOH that ends it with what follows
then_value : (o text value rest : List ℕ)
    → ((o ++ 1 ∷ text) ++ value) ++ 1 ∷ rest ≡ o ++ 1 ∷ (text ++ ((value ++ 1 ∷ []) ++ rest))
then_value o text value rest =
    append_assoc (o ++ 1 ∷ text) value (1 ∷ rest)
    ∙ ap (λ (t : List ℕ). (o ++ 1 ∷ text) ++ t) (sym (append_assoc value (1 ∷ []) rest))
    ∙ append_assoc o (1 ∷ text) ((value ++ 1 ∷ []) ++ rest)

four_values : (o a k b s c t d n rest : List ℕ)
    → ((((((((o ++ 1 ∷ a) ++ k) ++ 1 ∷ b) ++ s) ++ 1 ∷ c) ++ t) ++ 1 ∷ d) ++ n) ++ 1 ∷ rest
    ≡ o ++ 1
    ∷ (a ++ ((k ++ 1 ∷ []) ++ (b ++ ((s ++ 1 ∷ []) ++ (c ++ ((t ++ 1 ∷ []) ++ (d ++ ((n ++ 1 ∷ []) ++ rest))))))))
four_values o a k b s c t d n rest =
    let o1 = (o ++ 1 ∷ a) ++ k in
    let o2 = (o1 ++ 1 ∷ b) ++ s in
    let o3 = (o2 ++ 1 ∷ c) ++ t in
    let r3 = d ++ ((n ++ 1 ∷ []) ++ rest) in
    let r2 = c ++ ((t ++ 1 ∷ []) ++ r3) in
    let r1 = b ++ ((s ++ 1 ∷ []) ++ r2) in
    then_value o3 d n rest ∙ then_value o2 c t r3 ∙ then_value o1 b s r2 ∙ then_value o a k r1

-- MsgType (35) to MsgSeqNum (34), and what follows
pub header_text : (o kind sender target number rest : List ℕ)
    → ((((((((o ++ 1 ∷ 51 ∷ 53 ∷ 61 ∷ []) ++ kind) ++ 1 ∷ 52 ∷ 57 ∷ 61 ∷ []) ++ sender) ++ 1 ∷ 53 ∷ 54 ∷ 61 ∷ [])
    ++ target)
    ++ 1 ∷ 51 ∷ 52 ∷ 61 ∷ [])
    ++ number)
    ++ 1 ∷ rest ≡ o ++ 1
    ∷ ((decimal 35 ++ 61 ∷ (kind ++ 1 ∷ []))
    ++ ((decimal 49 ++ 61 ∷ (sender ++ 1 ∷ []))
    ++ ((decimal 56 ++ 61 ∷ (target ++ 1 ∷ [])) ++ ((decimal 34 ++ 61 ∷ (number ++ 1 ∷ [])) ++ rest))))
header_text o kind sender target number rest =
    rw (
      decimal_two 35 (omega arith) (omega arith),
      decimal_two 49 (omega arith) (omega arith),
      decimal_two 56 (omega arith) (omega arith),
      decimal_two 34 (omega arith) (omega arith),
    )
    (four_values o (51 ∷ 53 ∷ 61 ∷ []) kind (52 ∷ 57 ∷ 61 ∷ []) sender (53 ∷ 54 ∷ 61 ∷ []) target (51 ∷ 52 ∷ 61 ∷ [])
    number rest)

-- SendingTime (52)
pub sent_text : (o sent : List ℕ)
    → ((o ++ 1 ∷ 53 ∷ 50 ∷ 61 ∷ []) ++ sent) ++ 1 ∷ [] ≡ o ++ 1 ∷ ((decimal 52 ++ 61 ∷ (sent ++ 1 ∷ [])) ++ [])
sent_text o sent = rw (decimal_two 52 (omega arith) (omega arith)) (then_value o (53 ∷ 50 ∷ 61 ∷ []) sent [])

-- PossDupFlag (43), SendingTime, OrigSendingTime (122)
pub resent_text : (o sent first : List ℕ)
    → ((((o ++ 1 ∷ 52 ∷ 51 ∷ 61 ∷ 89 ∷ 1 ∷ 53 ∷ 50 ∷ 61 ∷ []) ++ sent) ++ 1 ∷ 49 ∷ 50 ∷ 50 ∷ 61 ∷ []) ++ first) ++ 1
    ∷ [] ≡ o ++ 1
    ∷ ((decimal 43 ++ 61 ∷ 89 ∷ 1 ∷ [])
    ++ ((decimal 52 ++ 61 ∷ (sent ++ 1 ∷ [])) ++ ((decimal 122 ++ 61 ∷ (first ++ 1 ∷ [])) ++ [])))
resent_text o sent first =
    let again : List ℕ = 52 ∷ 51 ∷ 61 ∷ 89 ∷ 1 ∷ 53 ∷ 50 ∷ 61 ∷ [] in
    let orig : List ℕ = 49 ∷ 50 ∷ 50 ∷ 61 ∷ [] in
    rw (
      decimal_two 43 (omega arith) (omega arith),
      decimal_two 52 (omega arith) (omega arith),
      decimal_pair 122 (omega arith) (omega arith),
      decimal_digit 1 (omega arith),
    )
    (then_value ((o ++ 1 ∷ again) ++ sent) orig first [] ∙ then_value o again sent (orig ++ ((first ++ 1 ∷ []) ++ [])))

three_len : (n : ℕ) (v : List ℕ) → 100 ≤ n → n < 1000 → length v + 5 ≡ length (field n v)
three_len n v lo hi =
    omega (
      arith,
      length_pair n lo (omega arith),
      length_one (n / 100) (omega arith),
      length-append (decimal n) (61 ∷ (v ++ 1 ∷ [])),
      length-append v (1 ∷ []),
    )

resend_fields : (o : Option (List ℕ)) (sent : List ℕ)
    → length sent + resend_len o + 4 ≡ length (fields_text (resend_pairs o sent))
resend_fields None sent = omega (arith, two_len 52 sent (omega arith) (omega arith), length-append (field 52 sent) [])
resend_fields (Some t) sent =
    let first = field 122 t ++ [] in
    omega (
      arith,
      two_len 43 (89 ∷ []) (omega arith) (omega arith),
      two_len 52 sent (omega arith) (omega arith),
      three_len 122 t (omega arith) (omega arith),
      length-append (field 122 t) [],
      length-append (field 52 sent) first,
      length-append (field 43 (89 ∷ [])) (field 52 sent ++ first),
    )

-- how many bytes a header's fields have
pub header_len : (h : HeaderText) → values_len h + 20 ≡ length (fields_text (header_pairs h))
header_len h =
    let r4 = fields_text (resend_pairs h.resent h.sent) in
    let r3 = field 34 (decimal h.number) ++ r4 in
    let r2 = field 56 h.target ++ r3 in
    let r1 = field 49 h.sender ++ r2 in
    omega (
      arith,
      resend_fields h.resent h.sent,
      two_len 35 h.kind (omega arith) (omega arith),
      two_len 49 h.sender (omega arith) (omega arith),
      two_len 56 h.target (omega arith) (omega arith),
      two_len 34 (decimal h.number) (omega arith) (omega arith),
      length-append (field 34 (decimal h.number)) r4,
      length-append (field 56 h.target) r3,
      length-append (field 49 h.sender) r2,
      length-append (field 35 h.kind) r1,
    )
