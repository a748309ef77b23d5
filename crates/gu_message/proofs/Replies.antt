-- Replies are lawful: each of their fields, how long they are, and to whom they go.
use Rattle.std.proofs.Common.{◌≡◌, ◌≢◌, ℕ, suc, zero, ◌+◌, ◌*◌, ◌<◌, ◌≤◌, ◌/◌, ◌%◌, Bool, true, false, cond, ◌&&◌, List}
use Rattle.std.proofs.Common.{[], ◌∷◌, ◌++◌, length, take, refl, ◌∙◌, arith, length-append, length-take, inl, inr}
use Rattle.std.proofs.Common.{IsTrue}
use Rattle.std.specs.Prelude.{Option, Some, None, nat_le, nat_lt, ◌==◌, codes, decimal, option_and_then}
use Rattle.std.specs.Option.{unwrap_or}
use Rattle.std.specs.List.{AllByRecursion, list_all}
use Rattle.std.specs.Fmt.{digits, digits_onto, digit_glyph}
use Rattle.std.proofs.lemmas.List.Folds.{list_all-append}
use Rattle.std.proofs.lemmas.Bool.{cases_Bool, and_parts, and_from, le-leb, leb-true, lt-ltb, eq-eqb}
use Rattle.gu_base.specs.Names.{is_printed, is_firm_text, is_text, is_id_text}
use Rattle.gu_base.specs.Texts.{number_of, head_of, tail_of, refusal_text}
use Rattle.gu_base.specs.declared.refusal.Refusal.{Refusal}
use Rattle.gu_base.specs.declared.refusal.Refusal.TheVariants.{UnknownFirm, AlreadySplit, AlreadyReversed, NeedsConsent}
use Rattle.gu_base.specs.declared.refusal.Refusal.TheVariants.{StandsOn, DuplicateId}
use Rattle.gu_base.specs.declared.entry.Answer.{Answer}
use Rattle.gu_base.specs.declared.entry.Answer.TheVariants.{Accepted, Repeated, Refused}
use Rattle.gu_life.specs.Status.{code_of}
use Rattle.gu_codec.specs.Fields.{IsValue, IsBody}
use Rattle.gu_codec.specs.Messages.{Message}
use Rattle.gu_codec.specs.Writing.{IsLawfulField, IsWritable}
use Rattle.gu_codec.proofs.ReadBack.{no_soh, lawful, most_of, fields_short, firm_text, message_writable}
use Rattle.gu_message.specs.declared.fault.Reject.{Reject}
use Rattle.gu_message.specs.Bodies.{IsLawfulRefusal, IsLawfulAnswer}
use Rattle.gu_message.specs.Checks.{name_of}
use Rattle.gu_message.specs.Finding.{value_of}
use Rattle.gu_message.specs.AllocationAck.{ack_fields}
use Rattle.gu_message.specs.TradeReportAck.{trade_ack_fields}
use Rattle.gu_message.specs.SessionReject.{number_that_came, type_that_came, reject_fields, target_of}
use Rattle.gu_message.specs.Reply.{Reply, answer_reply, reject_reply, Stamp, header_of, message_of, IsLawfulReply}
use Rattle.gu_message.specs.Reply.{IsLawfulStamp}

-- ---- texts

-- so many bytes, each printed or a space
pub record IsShown (least most : ℕ) (s : List ℕ) : Type 0 where
  pub clear : list_all is_text s ≡ true
  pub some : least ≤ length s
  pub few : length s ≤ most

pub joined : (k l m n : ℕ) (a b : List ℕ) → IsShown k l a → IsShown m n b → IsShown (k + m) (l + n) (a ++ b)
joined k l m n a b h j = record {
  clear = list_all-append is_text a b ∙ and_from _ _ h.clear j.clear;
  some = omega (arith, h.some, j.some, length-append a b);
  few = omega (arith, h.few, j.few, length-append a b);
}

-- a value of a field of a reply
pub record IsShort (s : List ℕ) : Type 0 where
  pub value : IsValue s
  pub few : length s ≤ 400

text_high : (b : ℕ) → is_text b ≡ true → b ≢ 1
text_high b e =
    let low : 32 ≤ b = leb-true 32 b (and_parts (nat_le 32 b) (nat_le b 126) e).0 in λ w. absurd (omega arith)

pub short : (least most : ℕ) (s : List ℕ) → 0 < least → most ≤ 400 → IsShown least most s → IsShort s
short least most s some few h = record {
  value = record { some = omega (arith, h.some); no_soh = no_soh is_text s text_high h.clear };
  few = omega (arith, h.few);
}

-- ---- numbers

digit_clear : (n : ℕ) → is_text (digit_glyph false (n % 10)) ≡ true
digit_clear n =
    rw (lt-ltb (n % 10) 10 (omega arith))
    (and_from _ _ (le-leb 32 (48 + n % 10) (omega arith)) (le-leb (48 + n % 10) 126 (omega arith)))

onto_shown : (k n least most : ℕ) (acc : List ℕ) → 0 < k + least → IsShown least most acc
    → IsShown 1 (k + most) (digits_onto k 10 false n acc)
onto_shown zero n least most acc some h =
    record { clear = h.clear; some = omega (arith, h.some); few = omega (arith, h.few) }
onto_shown (suc k) n least most acc some h =
    let more : IsShown (suc least) (suc most) (digit_glyph false (n % 10) ∷ acc) =
    record { clear = and_from _ _ (digit_clear n) h.clear; some = omega (arith, h.some); few = omega (arith, h.few) } in
    elim (cases_Bool (n / 10 == 0)) [
      | inl e ↦ rw e (record { clear = more.clear; some = omega (arith, more.some); few = omega (arith, more.few) })
      | inr e ↦
          let rest =
          onto_shown k (n / 10) (suc least) (suc most) (digit_glyph false (n % 10) ∷ acc) (omega arith) more in
          rw e (record { clear = rest.clear; some = omega (arith, rest.some); few = omega (arith, rest.few) })
    ]

pub decimal_shown : (n : ℕ) → IsShown 1 64 (decimal n)
unfolding digits
decimal_shown n = onto_shown 64 n 0 0 [] (omega arith) (record { clear = refl; some = omega arith; few = omega arith })

pub decimal_short : (n : ℕ) → IsShort (decimal n)
decimal_short n = short 1 64 (decimal n) (omega arith) (omega arith) (decimal_shown n)

-- ---- names

id_short : (s : List ℕ) → IsTrue (is_id_text s) → IsShort s
id_short s t =
    let p = and_parts (nat_le 1 (length s) && nat_le (length s) 32) (list_all is_text s) t in
    let q = and_parts (nat_le 1 (length s)) (nat_le (length s) 32) p.0 in
    short 1 32 s (omega arith) (omega arith)
    (record { clear = p.1; some = leb-true 1 (length s) q.0; few = leb-true (length s) 32 q.1 })

printed_clear : (s : List ℕ) → list_all is_printed s ≡ true → list_all is_text s ≡ true
printed_clear [] h = refl
printed_clear (b ∷ s) h =
    let p = and_parts (is_printed b) (list_all is_printed s) h in
    let q = and_parts (nat_le 33 b) (nat_le b 126) p.0 in
    let low : 33 ≤ b = leb-true 33 b q.0 in
    and_from _ _ (and_from _ _ (le-leb 32 b (omega arith)) q.1) (printed_clear s p.1)

firm_shown : (s : List ℕ) → IsTrue (is_firm_text s) → IsShown 0 100 s
firm_shown s t =
    let p = and_parts (nat_le 1 (length s) && nat_le (length s) 16) (list_all is_printed s) t in
    let few : length s ≤ 16 = leb-true (length s) 16 (and_parts (nat_le 1 (length s)) (nat_le (length s) 16) p.0).1 in
    record { clear = printed_clear s p.1; some = omega arith; few = omega arith }

-- ---- refusals

head_shown : (r : Refusal) → IsShown 0 64 (head_of r)
head_shown UnknownFirm = record { clear = refl; some = omega arith; few = omega arith }
head_shown _ = record { clear = refl; some = omega arith; few = omega arith }

number_shown : (n : ℕ) → IsShown 0 100 (decimal n)
number_shown n = let d = decimal_shown n in record { clear = d.clear; some = omega arith; few = omega (arith, d.few) }

tail_shown : (r : Refusal) → IsLawfulRefusal r → IsShown 0 100 (tail_of r)
tail_shown (AlreadySplit n) h = number_shown n
tail_shown (AlreadyReversed n) h = number_shown n
tail_shown (NeedsConsent f) h = firm_shown f h
tail_shown (StandsOn n) h =
    let all = joined 1 64 0 36 (decimal n) (codes " stands on it") (decimal_shown n)
    (record { clear = refl; some = omega arith; few = omega arith }) in
    record { clear = all.clear; some = omega arith; few = all.few }
tail_shown (DuplicateId n) h = number_shown n
tail_shown _ h = record { clear = refl; some = omega arith; few = omega arith }

refusal_short : (r : Refusal) → IsLawfulRefusal r → IsShort (refusal_text r)
refusal_short r h =
    let front = joined 1 64 0 64 (decimal (number_of r)) (head_of r) (decimal_shown (number_of r)) (head_shown r) in
    short 1 228 (refusal_text r) (omega arith) (omega arith)
    (joined 1 128 0 100 (decimal (number_of r) ++ head_of r) (tail_of r) front (tail_shown r h))

-- ---- replies

-- a field of a reply
pub record IsShortField (f : ℕ × List ℕ) : Type 0 where
  pub tag : (nat_lt 0 f.0 && nat_lt f.0 1000000000) ≡ true
  pub value : IsShort f.1

fields_lawful : (fs : Message) → AllByRecursion IsShortField fs → AllByRecursion IsLawfulField fs
fields_lawful [] h = tt
fields_lawful (f ∷ fs) h = (lawful f.0 f.1 h.0.tag h.0.value.value, fields_lawful fs h.1)

fields_most : (fs : Message) → AllByRecursion IsShortField fs → most_of fs ≤ length fs * 411
fields_most [] h = omega arith
fields_most (f ∷ fs) h = omega (arith, h.0.value.few, fields_most fs h.1)

-- the types of replies are lawful as names of firms are
pub reply_lawful : (target kind : List ℕ) (fs : Message) → IsTrue (is_firm_text target) → IsTrue (is_firm_text kind)
    → length fs ≤ 4 → AllByRecursion IsShortField fs
    → IsLawfulReply (record { target = target; kind = kind; fields = fs })
reply_lawful target kind fs t k few h =
    let all = fields_lawful fs h in
    record {
      target = t;
      kind = firm_text kind k;
      fields = all;
      short = omega (arith, fields_short fs all, fields_most fs h, few);
    }

pub given : (tag : ℕ) (v : List ℕ) → (nat_lt 0 tag && nat_lt tag 1000000000) ≡ true → IsShort v → IsShortField (tag, v)
given tag v t h = record { tag = t; value = h }

three : (target kind : List ℕ) (t u w : ℕ) (a b c : List ℕ) → IsTrue (is_firm_text target) → IsTrue (is_firm_text kind)
    → IsShortField (t, a) → IsShortField (u, b) → IsShortField (w, c)
    → IsLawfulReply (record { target = target; kind = kind; fields = (t, a) ∷ (u, b) ∷ (w, c) ∷ [] })
three target kind t u w a b c to k ha hb hc =
    reply_lawful target kind ((t, a) ∷ (u, b) ∷ (w, c) ∷ []) to k (omega arith) (ha, (hb, (hc, tt)))

-- one byte
pub byte_short : (b : ℕ) → is_text b ≡ true → IsShort (b ∷ [])
byte_short b h =
    short 1 1 (b ∷ []) (omega arith) (omega arith)
    (record { clear = and_from _ _ h refl; some = omega arith; few = omega arith })

ack_lawful : (firm id : List ℕ) (a : Answer) → IsTrue (is_firm_text firm) → IsTrue (is_id_text id)
    → IsLawfulAnswer a → IsLawfulReply (record { target = firm; kind = codes "P"; fields = ack_fields id a })
ack_lawful firm id (Accepted number status) t k h =
    three firm (codes "P") 70 793 87 id (decimal number) (decimal (code_of status)) t refl
    (given 70 id refl (id_short id k)) (given 793 _ refl (decimal_short number))
    (given 87 _ refl (decimal_short (code_of status)))
ack_lawful firm id (Repeated number status) t k h =
    three firm (codes "P") 70 793 87 id (decimal number) (decimal (code_of status)) t refl
    (given 70 id refl (id_short id k)) (given 793 _ refl (decimal_short number))
    (given 87 _ refl (decimal_short (code_of status)))
ack_lawful firm id (Refused r) t k h =
    three firm (codes "P") 70 87 58 id (codes "1") (refusal_text r) t refl (given 70 id refl (id_short id k))
    (given 87 _ refl (byte_short 49 refl)) (given 58 _ refl (refusal_short r h))

entry_short : (number : ℕ) → IsShort (codes "entry " ++ decimal number)
entry_short number =
    short 1 70 _ (omega arith) (omega arith)
    (joined 0 6 1 64 (codes "entry ") (decimal number) (record { clear = refl; some = omega arith; few = omega arith })
    (decimal_shown number))

trade_ack_lawful : (firm id : List ℕ) (a : Answer) → IsTrue (is_firm_text firm) → IsTrue (is_id_text id)
    → IsLawfulAnswer a → IsLawfulReply (record { target = firm; kind = codes "AR"; fields = trade_ack_fields id a })
trade_ack_lawful firm id (Accepted number status) t k h =
    three firm (codes "AR") 571 939 58 id (codes "0") (codes "entry " ++ decimal number) t refl
    (given 571 id refl (id_short id k)) (given 939 _ refl (byte_short 48 refl)) (given 58 _ refl (entry_short number))
trade_ack_lawful firm id (Repeated number status) t k h =
    three firm (codes "AR") 571 939 58 id (codes "0") (codes "entry " ++ decimal number) t refl
    (given 571 id refl (id_short id k)) (given 939 _ refl (byte_short 48 refl)) (given 58 _ refl (entry_short number))
trade_ack_lawful firm id (Refused r) t k h =
    three firm (codes "AR") 571 939 58 id (codes "1") (refusal_text r) t refl (given 571 id refl (id_short id k))
    (given 939 _ refl (byte_short 49 refl)) (given 58 _ refl (refusal_short r h))

pub answer_lawful : (firm : List ℕ) (trade : Bool) (id : List ℕ) (a : Answer) → IsTrue (is_firm_text firm)
    → IsTrue (is_id_text id) → IsLawfulAnswer a → IsLawfulReply (answer_reply firm trade id a)
answer_lawful firm true id a t k h = trade_ack_lawful firm id a t k h
answer_lawful firm false id a t k h = ack_lawful firm id a t k h

-- ---- a Reject

target_lawful : (fs : Message) → IsTrue (is_firm_text (target_of fs))
target_lawful fs = by_value (value_of 49 fs)
  where
    by_test : (t : List ℕ) (b : Bool) → is_firm_text t ≡ b
        → IsTrue (is_firm_text (unwrap_or (cond b (Some t) None) (codes "UNKNOWN")))
    by_test t true h = h
    by_test t false h = refl

    by_value : (o : Option (List ℕ)) → IsTrue (is_firm_text (unwrap_or (option_and_then name_of o) (codes "UNKNOWN")))
    by_value None = refl
    by_value (Some t) = by_test t (is_firm_text t) refl

no_soh_in_front : (n : ℕ) (s : List ℕ) → AllByRecursion (λ b. b ≢ 1) s → AllByRecursion (λ b. b ≢ 1) (take n s)
no_soh_in_front zero s h = tt
no_soh_in_front (suc n) [] h = tt
no_soh_in_front (suc n) (b ∷ s) h = (h.0, no_soh_in_front n s h.1)

-- a body begins with its type, so that isn't empty
type_short : (bytes : List ℕ) (fs : Message) → IsBody bytes fs → IsShort (take 8 (type_that_came fs))
type_short bytes [] h = absurd h.1
type_short bytes (f ∷ fs) h =
    let kind = h.0.3 in
    let few : IsShort (take 8 f.1) =
    record {
      value =
          record { some = omega (arith, kind.some, length-take 8 f.1); no_soh = no_soh_in_front 8 f.1 kind.no_soh };
      few = omega (arith, length-take 8 f.1);
    } in
    rw (eq-eqb f.0 35 h.1) few

pub reject_lawful : (bytes : List ℕ) (message : Message) (fault : Reject) → IsBody bytes message
    → IsLawfulReply (reject_reply message fault)
reject_lawful bytes message fault h =
    reply_lawful (target_of message) (codes "3") (reject_fields message fault) (target_lawful message) refl
    (omega arith) (
      given 45 _ refl (decimal_short (number_that_came message)),
      (
        given 371 _ refl (decimal_short fault.tag),
        (given 372 _ refl (type_short bytes message h), (given 373 _ refl (decimal_short fault.reason), tt)),
      ),
    )

-- ---- sending

pub sent_writable : (s : Stamp) (r : Reply) → IsLawfulStamp s → IsLawfulReply r → IsWritable (message_of s r)
sent_writable s r h k =
    message_writable (header_of s r) r.fields
    (record {
      texts = record { kind = k.kind; sent = h.sent; resent = h.resent };
      sender = h.sender;
      target = k.target;
      number = h.number;
    })
    k.fields k.short
