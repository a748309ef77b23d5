-- Commands that pass the test are equal.
use Rattle.std.proofs.Common.{◌≡◌, true, refl, ap}
use Rattle.std.specs.Bool.{Decides}
use Rattle.std.specs.Cmp.{IsEquivalence}
use Rattle.std.proofs.lemmas.Bool.{and_parts}
use Rattle.std.proofs.lemmas.Bool.Decides.{Decides-eqb}
use Rattle.std.proofs.lemmas.Slice.Eq.{bytes_eq-Decides}
use Rattle.gu_base.specs.Numbers.{EntryPart}
use Rattle.gu_base.specs.Nodes.{same_name}
use Rattle.gu_base.specs.Positions.{same_side}
use Rattle.gu_base.specs.SamePartsLaws.{bytes_same, number_same, decides_from, equivalence_from}
use Rattle.gu_base.specs.SamePartsLaws.{same_parts-Decides}
use Rattle.gu_base.specs.Same.{same_command}
use Rattle.gu_base.specs.declared.command.Side.{Side}
use Rattle.gu_base.specs.declared.command.Side.TheVariants.{Buy, Sell}
use Rattle.gu_base.specs.declared.command.Command.{Command}
use Rattle.gu_base.specs.declared.command.Command.TheVariants.{Trade, Split, Claim, Refuse, Cancel}
use Rattle.gu_base.specs.declared.command.Command.TheVariants.{Agree, Raise, Initiate, Decline}
use Rattle.gu_base.specs.declared.command.Command.TheVariants.{Reverse}

-- the tests of names and of sides say whether they are equal
pub same_name-Decides : (a b : EntryPart) → Decides (same_name a b) (a ≡ b)
same_name-Decides a b =
    decides_from same_name a b
    (λ h.
    let p = and_parts _ _ h in
    let e : a.entry ≡ b.entry = (Decides-eqb _ _).0 p.0 in
    let f : a.part ≡ b.part = (Decides-eqb _ _).0 p.1 in
    λ i. record { entry = e i; part = f i })
    (rw (number_same a.entry, number_same a.part) refl)

pub same_side-Decides : (a b : Side) → Decides (same_side a b) (a ≡ b)
same_side-Decides Buy Buy = (λ _. refl, λ _. refl)
same_side-Decides Sell Sell = (λ _. refl, λ _. refl)
same_side-Decides Buy Sell = (λ h. cc, λ h. cc)
same_side-Decides Sell Buy = (λ h. cc, λ h. cc)

-- a command is the same as itself
pub same_command_refl : (a : Command) → same_command a a ≡ true
same_command_refl (Trade f a i s l) =
    rw (bytes_same f, bytes_same a, bytes_same i, (same_side-Decides s s).1 refl, number_same l)
    refl
same_command_refl (Split n ps) =
    rw ((same_name-Decides n n).1 refl, (same_parts-Decides ps ps).1 refl) refl
same_command_refl (Claim n a) = rw ((same_name-Decides n n).1 refl, bytes_same a) refl
same_command_refl (Refuse n) = (same_name-Decides n n).1 refl
same_command_refl (Cancel n) = (same_name-Decides n n).1 refl
same_command_refl (Agree g k r l) =
    rw (bytes_same g, bytes_same k, number_same r, number_same l) refl
same_command_refl (Raise g l) = rw (bytes_same g, number_same l) refl
same_command_refl (Initiate e) = number_same e
same_command_refl (Decline e) = number_same e
same_command_refl (Reverse e) = number_same e

-- commands that are the same are equal
pub same_command_told : (a b : Command) → same_command a b ≡ true → a ≡ b
same_command_told (Trade f a i s l) (Trade f' a' i' s' l') h =
    let p = and_parts _ _ h in
    let q = and_parts _ _ p.0 in
    let r = and_parts _ _ q.0 in
    let t = and_parts _ _ r.0 in
    let ef : f ≡ f' = (bytes_eq-Decides _ _).0 t.0 in
    let ea : a ≡ a' = (bytes_eq-Decides _ _).0 t.1 in
    let ei : i ≡ i' = (bytes_eq-Decides _ _).0 r.1 in
    let es : s ≡ s' = (same_side-Decides _ _).0 q.1 in let el : l ≡ l' = (Decides-eqb _ _).0 p.1 in
    cc
same_command_told (Split n ps) (Split n' ps') h =
    let p = and_parts _ _ h in
    let en : n ≡ n' = (same_name-Decides _ _).0 p.0 in
    let ep : ps ≡ ps' = (same_parts-Decides _ _).0 p.1 in
    cc
same_command_told (Claim n a) (Claim n' a') h =
    let p = and_parts _ _ h in
    let en : n ≡ n' = (same_name-Decides _ _).0 p.0 in
    let ea : a ≡ a' = (bytes_eq-Decides _ _).0 p.1 in
    cc
same_command_told (Refuse n) (Refuse n') h = ap (λ x. Refuse x) ((same_name-Decides _ _).0 h)
same_command_told (Cancel n) (Cancel n') h = ap (λ x. Cancel x) ((same_name-Decides _ _).0 h)
same_command_told (Agree g k r l) (Agree g' k' r' l') h =
    let p = and_parts _ _ h in let q = and_parts _ _ p.0 in let s = and_parts _ _ q.0 in
    let eg : g ≡ g' = (bytes_eq-Decides _ _).0 s.0 in
    let ek : k ≡ k' = (bytes_eq-Decides _ _).0 s.1 in
    let er : r ≡ r' = (Decides-eqb _ _).0 q.1 in let el : l ≡ l' = (Decides-eqb _ _).0 p.1 in
    cc
same_command_told (Raise g l) (Raise g' l') h =
    let p = and_parts _ _ h in
    let eg : g ≡ g' = (bytes_eq-Decides _ _).0 p.0 in
    let el : l ≡ l' = (Decides-eqb _ _).0 p.1 in
    cc
same_command_told (Initiate e) (Initiate e') h = ap (λ x. Initiate x) ((Decides-eqb _ _).0 h)
same_command_told (Decline e) (Decline e') h = ap (λ x. Decline x) ((Decides-eqb _ _).0 h)
same_command_told (Reverse e) (Reverse e') h = ap (λ x. Reverse x) ((Decides-eqb _ _).0 h)
same_command_told _ _ h = cc

-- so the test of commands says whether they are equal
pub same_command-Decides : (a b : Command) → Decides (same_command a b) (a ≡ b)
same_command-Decides a b =
    decides_from same_command a b (same_command_told a b) (same_command_refl a)

pub same_command-equivalence : IsEquivalence same_command
same_command-equivalence = equivalence_from same_command same_command-Decides
