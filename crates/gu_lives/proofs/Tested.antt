-- A table that passes the test extends the other.
use Rattle.std.proofs.Common.{◌≡◌, ℕ, Bool, true, false, not, ◌&&◌, ◌||◌, List, [], ◌∷◌, refl, sym, ◌∙◌, ap, cond}
use Rattle.std.proofs.Common.{Option, inl, inr}
use Rattle.std.specs.Prelude.{Some, None, bytes_eq, ◌==◌}
use Rattle.std.specs.List.{list_all, list_any}
use Rattle.std.specs.Map.{lookup}
use Rattle.std.specs.Bool.{Decides}
use Rattle.std.specs.Cmp.Lexicographic.{pointwise}
use Rattle.std.proofs.lemmas.Bool.{and_parts, or_cases}
use Rattle.std.proofs.lemmas.Bool.Decides.{Decides-eqb}
use Rattle.std.proofs.lemmas.Slice.Eq.{bytes_eq-Decides, slice_eq-Decides}
use Rattle.gu_base.specs.House.{House, knows_firm, knows_account, knows_instrument, agreement, same_pair}
use Rattle.gu_base.specs.SamePartsLaws.{bytes_same, number_same, decides_from}
use Rattle.gu_base.specs.declared.house.Account.{Account}
use Rattle.gu_base.specs.declared.house.Pair.{Pair}
use Rattle.gu_base.specs.declared.house.Agreement.{Agreement}
use Rattle.gu_lives.specs.Extends.{Extends, HasMore, extends, keeps_terms, same_terms, same_made}

any_all : {A : Type 0} (p q : A → Bool) (P : Type 0) (xs : List A)
    → ((x : A) → p x ≡ true → q x ≡ true → P) → list_any p xs ≡ true → list_all q xs ≡ true → P
any_all p q P [] each any all = absurd (cc)
any_all p q P (x ∷ xs) each any all =
    let a = and_parts (q x) (list_all q xs) all in
    elim (or_cases (p x) (list_any p xs) any) [
      | inl here ↦ each x here a.0
      | inr later ↦ any_all p q P xs each later a.1
    ]

found_or : {V : Type 0} (b : Bool) (v w : V) (rest : Option V) (P : Type 0) → (b ≡ true → P) → (rest ≡ Some w → P)
    → cond b (Some v) rest ≡ Some w → P
found_or true v w rest P here later h = here refl
found_or false v w rest P here later h = later h

-- what all entries pass, one with the key passes where the look-up finds something
looked_all : {K V : Type 0} (p : K → Bool) (q : K × V → Bool) (P : Type 0) (xs : List (K × V)) (v : V)
    → ((e : K × V) → p e.0 ≡ true → q e ≡ true → P) → lookup p xs ≡ Some v → list_all q xs ≡ true → P
looked_all p q P [] v each found all = absurd (cc)
looked_all p q P (e ∷ xs) v each found all =
    let a = and_parts (q e) (list_all q xs) all in
    found_or (p e.0) e.1 v (lookup p xs) P (λ here. each e here a.0)
    (λ later. looked_all p q P xs v each later a.1) found

same_terms_told : (a b : Option Agreement) → same_terms a b ≡ true → a ≡ b
same_terms_told None None h = refl
same_terms_told (Some a) (Some b) h =
    let p = and_parts (a.rate == b.rate) (a.limit == b.limit) h in
    let r : a.rate ≡ b.rate = (Decides-eqb a.rate b.rate).0 p.0 in
    let l : a.limit ≡ b.limit = (Decides-eqb a.limit b.limit).0 p.1 in
    λ i. Some (record { rate = r i; limit = l i })
same_terms_told None (Some b) h = absurd (cc)
same_terms_told (Some a) None h = absurd (cc)

same_terms_refl : (a : Option Agreement) → same_terms a a ≡ true
same_terms_refl None = refl
same_terms_refl (Some a) = rw (number_same a.rate, number_same a.limit) refl

pair_told : (p q : Pair) → same_pair p q ≡ true → p ≡ q
pair_told p q h =
    let s = and_parts (bytes_eq p.giver q.giver) (bytes_eq p.taker q.taker) h in
    let g : p.giver ≡ q.giver = (bytes_eq-Decides p.giver q.giver).0 s.0 in
    let k : p.taker ≡ q.taker = (bytes_eq-Decides p.taker q.taker).0 s.1 in
    λ i. record { giver = g i; taker = k i }

made_told : (a b : Pair × Agreement) → same_made a b ≡ true → a ≡ b
made_told (p, a) (q, b) h =
    let s = and_parts (same_pair p q) (same_terms (Some a) (Some b)) h in
    let e : p ≡ q = pair_told p q s.0 in
    let t = and_parts (a.rate == b.rate) (a.limit == b.limit) s.1 in
    let r : a.rate ≡ b.rate = (Decides-eqb a.rate b.rate).0 t.0 in
    let l : a.limit ≡ b.limit = (Decides-eqb a.limit b.limit).0 t.1 in
    λ i. (e i, record { rate = r i; limit = l i })

same_made-Decides : (a b : Pair × Agreement) → Decides (same_made a b) (a ≡ b)
same_made-Decides a b =
    decides_from same_made a b (made_told a b)
    (rw (bytes_same a.0.giver, bytes_same a.0.taker, number_same a.1.rate, number_same a.1.limit) refl)

not_or : (a b : Bool) → a ≡ true → (not a || b) ≡ true → b ≡ true
not_or true b e h = h
not_or false b e h = absurd (cc)

-- the terms of a line whose firms the first table has
line_told : (t u : House) (g k : List ℕ) → knows_firm t g ≡ true → knows_firm t k ≡ true → (e : Pair × Agreement)
    → (bytes_eq g e.0.giver && bytes_eq k e.0.taker) ≡ true → keeps_terms t u e ≡ true
    → agreement u g k ≡ agreement t g k
line_told t u g k a b e is keeps =
    let s = and_parts (bytes_eq g e.0.giver) (bytes_eq k e.0.taker) is in
    let x : g ≡ e.0.giver = (bytes_eq-Decides g e.0.giver).0 s.0 in
    let y : k ≡ e.0.taker = (bytes_eq-Decides k e.0.taker).0 s.1 in
    let both : (knows_firm t e.0.giver && knows_firm t e.0.taker) ≡ true =
    ap (λ z. knows_firm t z && knows_firm t e.0.taker) (sym x) ∙ (ap (λ z. knows_firm t g && knows_firm t z) (sym y)
    ∙ (ap (λ c. c && knows_firm t k) a ∙ b)) in
    let same = same_terms_told (agreement u e.0.giver e.0.taker) (agreement t e.0.giver e.0.taker)
    (not_or (knows_firm t e.0.giver && knows_firm t e.0.taker) _ both keeps) in
    ap (λ z. agreement u z k) x ∙ (ap (λ z. agreement u e.0.giver z) y
    ∙ (same ∙ (ap (λ z. agreement t z e.0.taker) (sym x) ∙ ap (λ z. agreement t g z) (sym y))))

module _ (t u : House) where
  terms_by : (g k : List ℕ) → knows_firm t g ≡ true → knows_firm t k ≡ true
      → list_all (keeps_terms t u) t.agreements ≡ true → list_all (keeps_terms t u) u.agreements ≡ true
      → (o p : Option Agreement) → agreement t g k ≡ o → agreement u g k ≡ p → agreement u g k ≡ agreement t g k
  terms_by g k a b old new None None e f = f ∙ sym e
  terms_by g k a b old new (Some x) p e f =
      looked_all (λ (p : Pair). bytes_eq g p.giver && bytes_eq k p.taker) (keeps_terms t u)
      (agreement u g k ≡ agreement t g k) t.agreements x (line_told t u g k a b) e old
  terms_by g k a b old new None (Some x) e f =
      looked_all (λ (p : Pair). bytes_eq g p.giver && bytes_eq k p.taker) (keeps_terms t u)
      (agreement u g k ≡ agreement t g k) u.agreements x (line_told t u g k a b) f new

  pub test_is_right : extends t u ≡ true → Extends t u
  test_is_right h =
      let house = bytes_eq u.house t.house in
      let opening = pointwise same_made u.opening t.opening in
      let firms = list_all (knows_firm u) t.firms in
      let accounts = list_all (λ (a : Account). knows_account u a.firm a.name) t.accounts in
      let instruments = list_all (knows_instrument u) t.instruments in
      let old = list_all (keeps_terms t u) t.agreements in
      let new = list_all (keeps_terms t u) u.agreements in
      let a = and_parts (house && opening && firms && accounts && instruments && old) new h in
      let b = and_parts (house && opening && firms && accounts && instruments) old a.0 in
      let c = and_parts (house && opening && firms && accounts) instruments b.0 in
      let d = and_parts (house && opening && firms) accounts c.0 in
      let e = and_parts (house && opening) firms d.0 in
      let f = and_parts house opening e.0 in
      let one : u.house ≡ t.house = (bytes_eq-Decides u.house t.house).0 f.0 in
      let opened : u.opening ≡ t.opening =
      (slice_eq-Decides same_made-Decides u.opening t.opening opening refl).0 f.1 in
      let more : HasMore t u = record {
        house = one;
        firms = λ firm known. elim (or_cases (bytes_eq t.house firm) (list_any (bytes_eq firm) t.firms) known) [
          | inl is ↦
              ap (λ z. bytes_eq z firm || list_any (bytes_eq firm) u.firms) one
              ∙ ap (λ z. z || list_any (bytes_eq firm) u.firms) is
          | inr is ↦
              any_all (bytes_eq firm) (knows_firm u) (knows_firm u firm ≡ true) t.firms
              (λ x same there. ap (knows_firm u) ((bytes_eq-Decides firm x).0 same) ∙ there) is e.1
        ];
        accounts = λ firm account known.
            any_all (λ (x : Account). bytes_eq firm x.firm && bytes_eq account x.name)
            (λ (x : Account). knows_account u x.firm x.name) (knows_account u firm account ≡ true) t.accounts
            (λ x same there.
            let s = and_parts (bytes_eq firm x.firm) (bytes_eq account x.name) same in
            ap (λ z. knows_account u z account) ((bytes_eq-Decides firm x.firm).0 s.0)
            ∙ (ap (knows_account u x.firm) ((bytes_eq-Decides account x.name).0 s.1) ∙ there)) known d.1;
        instruments = λ instrument known.
            any_all (bytes_eq instrument) (knows_instrument u) (knows_instrument u instrument ≡ true) t.instruments
            (λ x same there. ap (knows_instrument u) ((bytes_eq-Decides instrument x).0 same) ∙ there) known c.1;
        terms = λ g k x y. terms_by g k x y b.1 a.1 (agreement t g k) (agreement u g k) refl refl;
      } in
      record { more = more; opening = opened }
