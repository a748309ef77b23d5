-- Texts that are appended one after the other.
use Rattle.std.proofs.Common.{◌≡◌, ◌∙◌, ℕ, List, ◌++◌, Result, Ok, Err, OnOk, ap, append_assoc}

-- what follows from what holds at Ok holds at Ok
pub on_ok : {A E P Q : Type 0} (r : Result A E) → (P → Q) → OnOk r P → OnOk r Q
on_ok (Ok x) f h = f h
on_ok (Err e) f h = h

pub two : (old a b first new : List ℕ) → first ≡ old ++ a → new ≡ first ++ b → new ≡ old ++ (a ++ b)
two old a b first new one last = last ∙ ap (λ t. t ++ b) one ∙ append_assoc old a b

pub three : (old a b c first second new : List ℕ) → first ≡ old ++ a → second ≡ first ++ b → new ≡ second ++ c
    → new ≡ old ++ (a ++ b ++ c)
three old a b c first second new one next last = two old (a ++ b) c second new (two old a b first second one next) last

pub four : (old a b c d first second third new : List ℕ) → first ≡ old ++ a → second ≡ first ++ b
    → third ≡ second ++ c → new ≡ third ++ d → new ≡ old ++ (a ++ b ++ c ++ d)
four old a b c d first second third new one next then last =
    two old (a ++ b ++ c) d third new (three old a b c first second third one next then) last
