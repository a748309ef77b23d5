-- Lines that grow, token by token, and their texts.
use Rattle.std.proofs.Common.{◌≡◌, ℕ, List, [], ◌∷◌, ◌++◌, ◌∙◌, ap, refl, sym, map, subst, append_assoc}
use Rattle.std.specs.Prelude.{Result, Ok, Err, OnOk, decimal, length, ◌==◌, true, false, Some}
use Rattle.std.specs.Str.{IsUtf8}
use Rattle.std.specs.Str.Lossy.{utf8_valid_len}
use Rattle.std.proofs.lemmas.Bool.{eq-eqb}
use Rattle.std.proofs.lemmas.Str.{utf8_valid_len-IsUtf8}
use Rattle.json.specs.Print.{print}
use Rattle.json.specs.Token.{Token, key, string, number, begin_object, end_object, begin_array, end_array}
use Rattle.json.specs.Tree.{json_tokens, items_tokens}
use Rattle.json.specs.Written.{Written, Writes}
use Rattle.serde_json.specs.Data.{Data, object, Members, no_members, no_items}
use Rattle.serde_json.specs.Written.{outline, items_outline, compact_text}
use Rattle.gu_statement.specs.LineTexts.{texts_said, says_all, time_in}
use Rattle.serde_json.proofs.Texts.{print-outline}
use Rattle.gu_statement.specs.Going.{GoesOn, Says, tokens_of, tokens_from}
use Rattle.gu_statement.specs.Text.{line_with, says, counts}

-- one behind the other
pub on : {a b c : Written} {s t : List Token} → GoesOn a b s → GoesOn b c t → GoesOn a c (s ++ t)
on {a = a} {s = s} {t = t} p q = record {
  before = q.before ∙ p.before;
  tokens = q.tokens ∙ (ap (λ x. x ++ t) p.tokens ∙ append_assoc a.tokens s t);
}

-- a token that was written
pub wrote : {E : Type 0} {a b : Written} {t : Token} (r : Result (Unit {0}) E) → Writes r a b t
    → OnOk r (GoesOn a b (t ∷ []))
wrote (Ok x) w = record { before = w.room.0; tokens = w.ok }
wrote (Err e) w = tt

pub on_ok : {A E : Type 0} {P Q : Type 0} (r : Result A E) → (P → Q) → OnOk r P → OnOk r Q
on_ok (Ok x) f h = f h
on_ok (Err e) f h = tt

-- a line from its beginning to its end
pub told : {a b : Written} {before out : List ℕ} (ms : Members) → a.before ≡ before → a.tokens ≡ []
    → GoesOn a b (tokens_of ms) → out ≡ (b.before ++ print b.tokens) ++ 10 ∷ [] → out ≡ before ++ line_with ms
told {b = b} {before = before} ms here none goes made =
    made
    ∙ (ap (λ x. (x ++ print b.tokens) ++ 10 ∷ []) (goes.before ∙ here)
    ∙ (ap (λ x. (before ++ x) ++ 10 ∷ [])
    (ap print (goes.tokens ∙ ap (λ x. x ++ tokens_of ms) none) ∙ print-outline (object ms))
    ∙ append_assoc before (compact_text (object ms)) (10 ∷ [])))

-- a member whose text is known under another name
pub as_text : {a b : Written} {name x y : List ℕ} → x ≡ y → GoesOn a b (key name ∷ string x ∷ [])
    → GoesOn a b (key name ∷ string y ∷ [])
as_text {a = a} {b = b} {name = name} same goes = subst (λ z. GoesOn a b (key name ∷ string z ∷ [])) same goes

pub as_count : {a b : Written} {name : List ℕ} {x y : ℕ} → x ≡ y → GoesOn a b (key name ∷ number (decimal x) ∷ [])
    → GoesOn a b (key name ∷ number (decimal y) ∷ [])
as_count {a = a} {b = b} {name = name} same goes =
    subst (λ z. GoesOn a b (key name ∷ number (decimal z) ∷ [])) same goes

-- what holds where a call went well
pub given : {A E : Type 0} {P : Type 0} {r : Result A E} {x : A} → r ≡ Ok x → OnOk r P → P
given {P = P} well h = subst (λ q. OnOk q P) well h

-- ---- members, one after the other

-- no member
pub says_none : (a : Written) → Says a a (λ rest. rest)
says_none a = record { before = refl; tokens = λ rest. refl }

-- one after the other
pub after : {a b c : Written} {f g : Members → Members} → Says a b f → Says b c g → Says a c (λ rest. f (g rest))
after {g = g} p q = record {
  before = q.before ∙ p.before;
  tokens = λ rest. q.tokens rest ∙ p.tokens (g rest);
}

-- a member that is a text
pub said : {a b : Written} (name text : List ℕ) → GoesOn a b (key name ∷ string text ∷ []) → Says a b (says name text)
said {a = a} name text goes = record {
  before = goes.before;
  tokens = λ rest.
      ap (λ x. x ++ tokens_from rest) goes.tokens
      ∙ append_assoc a.tokens (key name ∷ string text ∷ []) (tokens_from rest);
}

pub counted : {a b : Written} (name : List ℕ) (n : ℕ) → GoesOn a b (key name ∷ number (decimal n) ∷ [])
    → Says a b (counts name n)
counted {a = a} name n goes = record {
  before = goes.before;
  tokens = λ rest.
      ap (λ x. x ++ tokens_from rest) goes.tokens
      ∙ append_assoc a.tokens (key name ∷ number (decimal n) ∷ []) (tokens_from rest);
}

-- a line from its beginning to its end
pub whole : {a b c d : Written} {before out : List ℕ} (f : Members → Members) → a.before ≡ before → a.tokens ≡ []
    → GoesOn a b (begin_object ∷ []) → Says b c f → GoesOn c d (end_object ∷ [])
    → out ≡ (d.before ++ print d.tokens) ++ 10 ∷ [] → out ≡ before ++ line_with (f no_members)
whole {a = a} {b = b} {c = c} {d = d} {before = before} f here none opens says closes made =
    made
    ∙ (ap (λ x. (x ++ print d.tokens) ++ 10 ∷ []) (closes.before ∙ (says.before ∙ (opens.before ∙ here)))
    ∙ (ap (λ x. (before ++ print x) ++ 10 ∷ []) tokens
    ∙ (ap (λ x. (before ++ x) ++ 10 ∷ []) (print-outline (object (f no_members)))
    ∙ append_assoc before (compact_text (object (f no_members))) (10 ∷ []))))
  where
    begun : b.tokens ≡ begin_object ∷ []
    begun = opens.tokens ∙ ap (λ x. x ++ begin_object ∷ []) none

    tokens : d.tokens ≡ tokens_of (f no_members)
    tokens = closes.tokens ∙ (says.tokens no_members ∙ ap (λ x. x ++ tokens_from (f no_members)) begun)

-- the tokens of a list of texts
text_items : (ts : List (List ℕ)) → items_tokens (items_outline (texts_said ts no_items)) ≡ map string
    ts ++ end_array ∷ []
text_items [] = refl
text_items (t ∷ ts) = ap (λ x. string t ∷ x) (text_items ts)

-- a member that is a list of texts
pub listed : {a b c d : Written} (name : List ℕ) (ts : List (List ℕ)) → GoesOn a b (key name ∷ begin_array ∷ [])
    → GoesOn b c (map string ts) → GoesOn c d (end_array ∷ []) → Says a d (says_all name ts)
listed {a = a} {d = d} name ts opens goes closes =
    let all = on (on opens goes) closes in
    let inner : ((key name ∷ begin_array ∷ []) ++ map string ts) ++ (end_array ∷ [])
    ≡ key name ∷ begin_array ∷ items_tokens (items_outline (texts_said ts no_items)) =
    ap (λ x. key name ∷ begin_array ∷ x) (sym (text_items ts)) in
    record {
      before = all.before;
      tokens = λ rest.
          ap (λ x. x ++ tokens_from rest) (all.tokens ∙ ap (λ x. a.tokens ++ x) inner)
          ∙ append_assoc a.tokens (key name ∷ begin_array ∷ items_tokens (items_outline (texts_said ts no_items)))
          (tokens_from rest);
    }

-- a text that has a byte
pub time_told : (bytes : List ℕ) → IsUtf8 bytes → (length bytes == 0) ≡ false → Some bytes ≡ time_in bytes
time_told bytes is some =
    let same : (utf8_valid_len bytes == length bytes) ≡ true = eq-eqb _ _ (utf8_valid_len-IsUtf8 bytes is) in
    rw (same, some) refl
