-- Rows of which one has changed.
use Rattle.std.proofs.Common.{◌≡◌, ℕ, ◌+◌, ◌<◌, ◌≤◌, ◌^◌, Bool, true, false, ◌&&◌, List, refl, sym, ◌∙◌, ap, subst}
use Rattle.std.proofs.Common.{arith, cond, leb, leb-true, le-leb, Option}
use Rattle.std.specs.Prelude.{Some, None, is_some, unwrap_or, bytes_eq, IsTrue}
use Rattle.std.specs.Map.{lookup}
use Rattle.std.proofs.lemmas.Bool.{and_parts}
use Rattle.std.proofs.lemmas.Slice.Eq.{bytes_eq-Decides}
use Rattle.gu_base.specs.Positions.{same_side}
use Rattle.gu_base.specs.declared.command.Side.{Side}
use Rattle.gu_base.specs.declared.command.Side.TheVariants.{Buy, Sell}
use Rattle.gu_positions.specs.declared.positions.Key.{Key}
use Rattle.gu_positions.specs.declared.positions.Row.{Row}
use Rattle.gu_positions.specs.Rows.{PositionRows, lots_on, lots_in, is_key, IsReady, CanAdd}

-- the row, if the account has one
abbrev pub found : PositionRows → Key → Option Row
found r key = lookup (is_key key) r

-- the lots of a row, if there is one
abbrev lots_of : Option Row → Side → ℕ
lots_of o s = lots_on s (unwrap_or o (record { long = 0; short = 0 }))

-- the rows are those of old, with this one at the key
abbrev pub IsPut : PositionRows → PositionRows → Key → Row → Type 0
IsPut old new key row = (q : Key) → found new q ≡ cond (is_key key q) (Some row) (found old q)

-- keys that pass the test are one
key_same : (a b : Key) → is_key a b ≡ true → a ≡ b
key_same a b h =
    let p = and_parts (bytes_eq a.firm b.firm) (bytes_eq a.account b.account && bytes_eq a.instrument b.instrument) h in
    let q = and_parts (bytes_eq a.account b.account) (bytes_eq a.instrument b.instrument) p.1 in
    let firm : a.firm ≡ b.firm = (bytes_eq-Decides a.firm b.firm).0 p.0 in
    let account : a.account ≡ b.account = (bytes_eq-Decides a.account b.account).0 q.0 in
    let instrument : a.instrument ≡ b.instrument = (bytes_eq-Decides a.instrument b.instrument).0 q.1 in
    ap (λ (f : List ℕ). let k : Key = record { firm = f; account = a.account; instrument = a.instrument } in k) firm
    ∙ (ap (λ (x : List ℕ). let k : Key = record { firm = b.firm; account = x; instrument = a.instrument } in k) account
    ∙ ap (λ (i : List ℕ). let k : Key = record { firm = b.firm; account = b.account; instrument = i } in k) instrument)

-- what is found at a key, by whether the row was put there
by_key : (b : Bool) (old new : PositionRows) (key at : Key) (row : Row) → IsPut old new key row → is_key key at ≡ b
    → (b ≡ true → (found new at ≡ Some row) × (found old at ≡ found old key))
    × (b ≡ false → found new at ≡ found old at)
by_key b old new key at row put is = (
  λ h.
      let here : is_key key at ≡ true = is ∙ h in
      (put at ∙ ap (λ t. cond t (Some row) (found old at)) here, ap (found old) (sym (key_same key at here))),
  λ h. put at ∙ ap (λ t. cond t (Some row) (found old at)) (is ∙ h),
)

-- ---- one row has changed

lots_found : (o p : Option Row) (s : Side) → o ≡ p → lots_of o s ≡ lots_of p s
lots_found o p s e = ap (λ (o : Option Row). lots_of o s) e

-- by so many lots more, or less
more_by : (b : Bool) (o new : Option Row) (was now : Row) (side : Side) (lots : ℕ) (s : Side)
    → lots_on s now ≡ lots_on s was + cond (same_side side s) lots 0
    → (b ≡ true → (new ≡ Some now) × (o ≡ Some was)) × (b ≡ false → new ≡ o)
    → lots_of new s ≡ lots_of o s + cond (b && same_side side s) lots 0
more_by true o new was now side lots s more ways =
    let a : lots_of new s ≡ lots_on s now = lots_found new (Some now) s ((ways.0 refl).0) in
    let b : lots_of o s ≡ lots_on s was = lots_found o (Some was) s ((ways.0 refl).1) in
    omega (arith, a, b, more)
more_by false o new was now side lots s more ways =
    let a : lots_of new s ≡ lots_of o s = lots_found new o s (ways.1 refl) in omega (arith, a)

less_by : (b : Bool) (o new : Option Row) (was now : Row) (side : Side) (lots : ℕ) (s : Side)
    → lots_on s now + cond (same_side side s) lots 0 ≡ lots_on s was
    → (b ≡ true → (new ≡ Some now) × (o ≡ Some was)) × (b ≡ false → new ≡ o)
    → lots_of new s + cond (b && same_side side s) lots 0 ≡ lots_of o s
less_by true o new was now side lots s less ways =
    let a : lots_of new s ≡ lots_on s now = lots_found new (Some now) s ((ways.0 refl).0) in
    let b : lots_of o s ≡ lots_on s was = lots_found o (Some was) s ((ways.0 refl).1) in
    omega (arith, a, b, less)
less_by false o new was now side lots s less ways =
    let a : lots_of new s ≡ lots_of o s = lots_found new o s (ways.1 refl) in omega (arith, a)

ways_at : (old new : PositionRows) (key at : Key) (was now : Row) → Some was ≡ found old key → IsPut old new key now
    → (is_key key at ≡ true → (found new at ≡ Some now) × (found old at ≡ Some was))
    × (is_key key at ≡ false → found new at ≡ found old at)
ways_at old new key at was now there put =
    let w = by_key (is_key key at) old new key at now put refl in
    (λ h. ((w.0 h).0, (w.0 h).1 ∙ sym there), λ h. w.1 h)

-- so the lots of each key, with more and with less
pub more_at : (old new : PositionRows) (key : Key) (was now : Row) (side : Side) (lots : ℕ) → Some was ≡ found old key
    → IsPut old new key now → ((s : Side) → lots_on s now ≡ lots_on s was + cond (same_side side s) lots 0) → (at : Key)
    (s : Side) → lots_in new at s ≡ lots_in old at s + cond (is_key key at && same_side side s) lots 0
more_at old new key was now side lots there put more at s =
    more_by (is_key key at) (found old at) (found new at) was now side lots s (more s)
    (ways_at old new key at was now there put)

pub less_at : (old new : PositionRows) (key : Key) (was now : Row) (side : Side) (lots : ℕ) → Some was ≡ found old key
    → IsPut old new key now → ((s : Side) → lots_on s now + cond (same_side side s) lots 0 ≡ lots_on s was) → (at : Key)
    (s : Side) → lots_in new at s + cond (is_key key at && same_side side s) lots 0 ≡ lots_in old at s
less_at old new key was now side lots there put less at s =
    less_by (is_key key at) (found old at) (found new at) was now side lots s (less s)
    (ways_at old new key at was now there put)

same_by : (b : Bool) (o new : Option Row) (s : Side)
    → (b ≡ true → (new ≡ Some (record { long = 0; short = 0 })) × (o ≡ None)) × (b ≡ false → new ≡ o)
    → lots_of new s ≡ lots_of o s
same_by true o new s ways =
    lots_found new (Some (record { long = 0; short = 0 })) s ((ways.0 refl).0)
    ∙ sym (lots_found o None s ((ways.0 refl).1))
same_by false o new s ways = lots_found new o s (ways.1 refl)

-- no row, so it is none
no_row : (o : Option Row) → is_some o ≡ false → o ≡ None
no_row None h = refl
no_row (Some row) h = absurd (cc)

-- a row of zero, put where there was none
pub same_at : (old new : PositionRows) (key : Key) → is_some (found old key) ≡ false
    → IsPut old new key (record { long = 0; short = 0 }) → (at : Key) (s : Side) → lots_in new at s ≡ lots_in old at s
same_at old new key none put at s =
    let w = by_key (is_key key at) old new key at (record { long = 0; short = 0 }) put refl in
    same_by (is_key key at) (found old at) (found new at) s
    (λ h. ((w.0 h).0, (w.0 h).1 ∙ no_row (found old key) none), λ h. w.1 h)

-- a row that is there stays
there_still : (b : Bool) (row : Row) (o : Option Row) → IsTrue (is_some o) → IsTrue (is_some (cond b (Some row) o))
there_still true row o is = refl
there_still false row o is = is

pub ready_still : (old new : PositionRows) (key : Key) (row : Row) → IsPut old new key row → (at : Key) → IsReady old at
    → IsReady new at
ready_still old new key row put at is =
    subst (λ (o : Option Row). IsTrue (is_some o)) (sym (put at)) (there_still (is_key key at) row (found old at) is)

-- the lots of the row that was found
pub lots_there : (rows : PositionRows) (key : Key) (row : Row) (side : Side) → Some row ≡ found rows key
    → lots_in rows key side ≡ lots_on side row
lots_there rows key row side there = lots_found (found rows key) (Some row) side (sym there)

pub lots_absent : (rows : PositionRows) (key : Key) (side : Side) → None ≡ found rows key → lots_in rows key side ≡ 0
lots_absent rows key side none = lots_found (found rows key) None side (sym none) ∙ zero side
  where
    zero : (s : Side) → lots_of None s ≡ 0
    zero Buy = refl
    zero Sell = refl

-- ---- what may be added or taken

pub room_there : (rows : PositionRows) (key : Key) (row : Row) (side : Side) (lots : ℕ) → Some row ≡ found rows key
    → lots_in rows key side + lots < 2 ^ 64 → lots_on side row + lots < 2 ^ 64
room_there rows key row side lots there fits =
    let same : lots_in rows key side ≡ lots_on side row = lots_there rows key row side there in
    omega (arith, fits, same)

pub lots_few : (rows : PositionRows) (key : Key) (row : Row) (side : Side) (lots : ℕ) → Some row ≡ found rows key
    → lots ≤ lots_in rows key side → lots ≤ lots_on side row
lots_few rows key row side lots there few =
    let same : lots_in rows key side ≡ lots_on side row = lots_there rows key row side there in omega (arith, few, same)

pub can_add_there : (rows : PositionRows) (key : Key) (row : Row) (side : Side) (lots : ℕ) (b : Bool)
    → Some row ≡ found rows key
    → (IsTrue b → lots_on side row + lots < 2 ^ 64) × (lots_on side row + lots < 2 ^ 64 → IsTrue b)
    → (IsTrue b → CanAdd rows key side lots) × (CanAdd rows key side lots → IsTrue b)
can_add_there rows key row side lots b there room =
    let same : lots_in rows key side ≡ lots_on side row = lots_there rows key row side there in (
      λ h. record {
        ready = subst (λ (o : Option Row). IsTrue (is_some o)) there refl;
        fits = let small = room.0 h in omega (arith, small, same);
      },
      λ can. room.1 (room_there rows key row side lots there can.fits),
    )

-- a key without a row is not ready
pub not_ready : (rows : PositionRows) (key : Key) → None ≡ found rows key → IsReady rows key → ⊥
not_ready rows key none is = absent (found rows key) none is
  where
    absent : (o : Option Row) → None ≡ o → IsTrue (is_some o) → ⊥
    absent None e h = cc
    absent (Some row) e h = cc

-- no more is taken than is there
pub at_most : (lots there number : ℕ) → there ≡ number
    → (IsTrue (leb lots there) → lots ≤ number) × (lots ≤ number → IsTrue (leb lots there))
at_most lots there number same =
    (λ h. let few = leb-true lots there h in omega (arith, few, same), λ h. le-leb lots there (omega (arith, h, same)))

-- where there is no row, nothing is taken
pub none_taken : (rows new : PositionRows) (key : Key) (side : Side) (lots : ℕ) → None ≡ found rows key → new ≡ rows
    → lots ≤ lots_in rows key side → (at : Key) (s : Side)
    → lots_in new at s + cond (is_key key at && same_side side s) lots 0 ≡ lots_in rows at s
none_taken rows new key side lots none same few at s =
    let absent : lots_in rows key side ≡ 0 = lots_absent rows key side none in
    let same_lots : lots_in new at s ≡ lots_in rows at s = ap (λ (r : PositionRows). lots_in r at s) same in
    let nothing : cond (is_key key at && same_side side s) lots 0 ≡ 0 =
    zero (is_key key at && same_side side s) lots (omega (arith, few, absent)) in
    omega (arith, same_lots, nothing)
  where
    zero : (b : Bool) (n : ℕ) → n ≤ 0 → cond b n 0 ≡ 0
    zero true n h = omega (arith, h)
    zero false n h = refl
