-- A run goes on.
use Rattle.std.proofs.Common.{◌≡◌, ◌+◌, ◌≤◌, List, [], ◌∷◌, ◌++◌, length, IfOk, OnOk, OnErr, refl, sym, ap, ◌∙◌, subst}
use Rattle.std.proofs.Common.{arith, length-append, append-nil, append_assoc}
use Rattle.std.specs.Prelude.{Result, Ok, Err}
use Rattle.gu_base.specs.House.{House}
use Rattle.gu_base.specs.Answers.{Call, answer_to, after, after_by}
use Rattle.gu_base.specs.Runs.{IsRunFrom, call_of}
use Rattle.gu_base.specs.declared.entry.Entry.{Entry}
use Rattle.gu_base.specs.declared.entry.Answer.{Answer}
use Rattle.gu_base.specs.declared.entry.Answer.TheVariants.{Accepted, Repeated, Refused}
use Rattle.gu_base.proofs.Accepted.{allowed}
use Rattle.gu_book.specs.Seen.{HouseAndHistory}
use Rattle.gu_desk.specs.Runs.{IsRunOf}
use Rattle.gu_desk.specs.Begins.{BeginsWith}
use Rattle.gu_desk.specs.Shares.{gained, Gains}
use Rattle.gu_desk.proofs.Moves.{begins_itself}

-- the opening history is one
pub run_starts : (t : House) (o : List Entry) → IsRunFrom t o o
run_starts t o = record {
  begins = ([], sym (append-nil o));
  accepted = λ before rest e same long.
      let n = ap (λ (l : List Entry). length l) same in
      let m = length-append before (e ∷ rest) in
      absurd (omega (arith, n, m, long));
}

-- where a list that grew by e at its end is cut before x: at its end, or within what it was
data Cut (h : List Entry) (e : Entry) (before : List Entry) (x : Entry) : Type 0 where
  at_end : h ≡ before → e ≡ x → Cut h e before x
  within : (rest : List Entry) → h ≡ before ++ x ∷ rest → Cut h e before x

cut_behind : (y : Entry) (h : List Entry) (e : Entry) (before : List Entry) (x : Entry) → Cut h e before x
    → Cut (y ∷ h) e (y ∷ before) x
cut_behind y h e before x (at_end a b) = at_end (ap (λ (l : List Entry). y ∷ l) a) b
cut_behind y h e before x (within rest a) = within rest (ap (λ (l : List Entry). y ∷ l) a)

cut : (h : List Entry) (e : Entry) (before rest : List Entry) (x : Entry) → h ++ e ∷ [] ≡ before ++ x ∷ rest
    → Cut h e before x
cut [] e [] rest x same = at_end refl (cc)
cut [] e (b ∷ bs) rest x same =
    let n = ap (λ (l : List Entry). length l) same in
    let m = length-append bs (x ∷ rest) in absurd (omega (arith, n, m))
cut (y ∷ h) e [] rest x same = within h (ap (λ (z : Entry). z ∷ h) (cc))
cut (y ∷ h) e (b ∷ bs) rest x same =
    let first : y ≡ b = cc in
    let others : h ++ e ∷ [] ≡ bs ++ x ∷ rest = cc in
    subst (λ (z : Entry). Cut (y ∷ h) e (z ∷ bs) x) first (cut_behind y h e bs x (cut h e bs rest x others))

-- a record that is accepted at its end
run_push : (t : House) (o h : List Entry) (e : Entry) → IsRunFrom t o h
    → answer_to t h (call_of e) ≡ Accepted (length h + 1) e.status → IsRunFrom t o (h ++ e ∷ [])
run_push t o h e run ok = record {
  begins = (
    run.begins.0 ++ e ∷ [],
    ap (λ (l : List Entry). l ++ e ∷ []) run.begins.1 ∙ append_assoc o run.begins.0 (e ∷ []),
  );
  accepted = λ before rest x same long. pushed t o h e run ok before x long (cut h e before rest x same);
} where
  pushed : (t : House) (o h : List Entry) (e : Entry) → IsRunFrom t o h
      → answer_to t h (call_of e) ≡ Accepted (length h + 1) e.status → (before : List Entry) (x : Entry)
      → length o ≤ length before → Cut h e before x
      → answer_to t before (call_of x) ≡ Accepted (length before + 1) x.status
  pushed t o h e run ok before x long (at_end a b) =
      subst (λ (l : List Entry). answer_to t l (call_of x) ≡ Accepted (length l + 1) x.status) a
      (subst (λ (z : Entry). answer_to t h (call_of z) ≡ Accepted (length h + 1) z.status) b ok)
  pushed t o h e run ok before x long (within rest a) = run.accepted before rest x a long

run_by : (t : House) (o h : List Entry) (c : Call) (a : Answer) → answer_to t h c ≡ a → IsRunFrom t o h
    → IsRunFrom t o (after_by h c a)
run_by t o h c (Accepted n s) ok run =
    let e : Entry = record { firm = c.firm; id = c.id; command = c.command; status = s } in
    let number : n ≡ length h + 1 = (allowed t h e n ok).number in
    run_push t o h e run (ok ∙ ap (λ m. Accepted m s) number)
run_by t o h c (Repeated n s) ok run = run
run_by t o h c (Refused r) ok run = run

-- the history after a call
pub run_after : (t : House) (o h : List Entry) (c : Call) → IsRunFrom t o h → IsRunFrom t o (after t h c)
run_after t o h c run = run_by t o h c (answer_to t h c) refl run

longer_by : (E : Type 0) (h : List Entry) (c : Call) (a : Answer)
    → length (after_by h c a) ≡ length h + gained {E = E} (Ok a)
longer_by E h c (Accepted n s) = length-append h _
longer_by E h c (Repeated n s) = omega arith
longer_by E h c (Refused r) = omega arith

-- the book after a call: a run from the opening one still, and longer by what the answer adds to a share
pub grown : {E : Type 0} (opening old new : HouseAndHistory) (c : Call) (r : Result Answer E) → IsRunOf opening old
    → IfOk r (λ a. a ≡ answer_to old.house old.history c)
    → OnOk r (new ≡ record { house = old.house; history = after old.house old.history c }) → OnErr r (new ≡ old)
    → IsRunOf opening new × (length new.history ≡ length old.history + gained r)
grown {E = E} opening old new c (Ok a) run answered kept unchanged =
    let house : new.house ≡ old.house = ap (λ (b : HouseAndHistory). b.house) kept in
    let history : new.history ≡ after old.house old.history c = ap (λ (b : HouseAndHistory). b.history) kept in
    let told : IsRunFrom old.house opening.history old.history =
    subst (λ (t : House). IsRunFrom t opening.history old.history) (sym run.0) run.1 in
    let next : IsRunFrom old.house opening.history (after old.house old.history c) =
    run_after old.house opening.history old.history c told in (
      (
        house ∙ run.0,
        subst (λ (h : List Entry). IsRunFrom opening.house opening.history h) (sym history)
            (subst (λ (t : House). IsRunFrom t opening.history (after old.house old.history c)) run.0 next),
      ),
      ap (λ (h : List Entry). length h) history ∙ ap (λ (x : Answer). length (after_by old.history c x)) (sym answered)
          ∙ longer_by E old.history c a,
    )
grown {E = E} opening old new c (Err e) run answered kept unchanged = (
  subst (λ (b : HouseAndHistory). IsRunOf opening b) (sym unchanged) run,
  ap (λ (b : HouseAndHistory). length b.history) unchanged ∙ omega arith,
)

-- what the history gains by a call, of which `apply` says this
pub gains : {E : Type 0} (old new : HouseAndHistory) (c : Call) (r : Result Answer E)
    → IfOk r (λ a. a ≡ answer_to old.house old.history c)
    → OnOk r (new ≡ record { house = old.house; history = after old.house old.history c }) → OnErr r (new ≡ old)
    → Gains r old.history new.history
gains old new c (Ok (Accepted n s)) answered kept unchanged = (
  record { firm = c.firm; id = c.id; command = c.command; status = s },
  ap (λ (b : HouseAndHistory). b.history) kept ∙ ap (λ (x : Answer). after_by old.history c x) (sym answered),
)
gains old new c (Ok (Repeated n s)) answered kept unchanged =
    ap (λ (b : HouseAndHistory). b.history) kept ∙ ap (λ (x : Answer). after_by old.history c x) (sym answered)
gains old new c (Ok (Refused r)) answered kept unchanged =
    ap (λ (b : HouseAndHistory). b.history) kept ∙ ap (λ (x : Answer). after_by old.history c x) (sym answered)
gains old new c (Err e) answered kept unchanged = ap (λ (b : HouseAndHistory). b.history) unchanged

-- what gained a record at most begins with what it was
pub grows : {E : Type 0} (r : Result Answer E) (old new : List Entry) → Gains r old new → BeginsWith new old
grows (Ok (Accepted n s)) old new more = record { rest = more.0 ∷ []; is = more.1 }
grows (Ok (Repeated n s)) old new same = subst (λ (l : List Entry). BeginsWith l old) (sym same) (begins_itself old)
grows (Ok (Refused r)) old new same = subst (λ (l : List Entry). BeginsWith l old) (sym same) (begins_itself old)
grows (Err e) old new same = subst (λ (l : List Entry). BeginsWith l old) (sym same) (begins_itself old)
