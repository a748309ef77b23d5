use Rattle.gu_journal.proofs.window.Window.fill_counted.Goals as goal
use Rattle.gu_journal.proofs.{Reading.{gains_all, gains_cut, piece_cut, piece_seen}, Vocabulary.{ap, arith, counted}}
use Rattle.gu_journal.proofs.Vocabulary.{drop, Held, length, length-append, length-drop, List, refl, rules, take, ℕ}
use Rattle.gu_journal.proofs.Vocabulary.{◌++◌, ◌+◌, ◌<◌, ◌∙◌, ◌≡◌, ◌≤◌}

-- what is held, behind as many bytes of the buffer as were passed
pub overflow_add-self-inside : goal.overflow_add-self-inside
overflow_add-self-inside g c =
    let held = ap (λ (w : Held). length w.bytes) (c.self.view_is ∙ c.in_ok-fill.ensures.adds.added) in
    let deref = ap length c.deref.ensures.value in
    let rest = length-drop c.self.inside.taken c.self.inside.buffer.items in
    let sum = length-append c.args.self.now.bytes c.in_ok-fill.ensures.adds.piece in
    omega (arith, c.self.invariant.taken, c.len-held.ensures, c.deref.ensures.len)

pub slice_bounds-counted_len-count : goal.slice_bounds-counted_len-count
slice_bounds-counted_len-count g c =
    let held = ap (λ (w : Held). length w.bytes) (c.self.view_is ∙ c.in_ok-fill.ensures.adds.added) in
    let deref = ap length c.deref.ensures.value in
    let rest = length-drop c.self.inside.taken c.self.inside.buffer.items in
    let sum = length-append c.args.self.now.bytes c.in_ok-fill.ensures.adds.piece in
    omega (arith, c.self.invariant.taken, c.len-held.ensures, c.deref.ensures.len)

pub slice_bounds-counted_len-start : goal.slice_bounds-counted_len-start
slice_bounds-counted_len-start g c =
    let held = ap (λ (w : Held). length w.bytes) (c.self.view_is ∙ c.in_ok-fill.ensures.adds.added) in
    let deref = ap length c.deref.ensures.value in
    let rest = length-drop c.self.inside.taken c.self.inside.buffer.items in
    let sum = length-append c.args.self.now.bytes c.in_ok-fill.ensures.adds.piece in
    let at : c.self.inside.taken + c.len-held.result ≤ length c.deref.result.now =
    omega (arith, c.self.invariant.taken, c.len-held.ensures, c.deref.ensures.len) in
    search rules

-- a zero is there
pub returns-then-first-len-clause-gains : goal.returns-then-first-len-clause-gains
returns-then-first-len-clause-gains g c =
    let a = c.in_ok-fill.ensures.adds in
    let old = c.args.self.now in
    let w = c.self.inside in
    let held : drop w.taken w.buffer.items ≡ old.bytes ++ a.piece =
    ap (λ (w : Held). w.bytes) (c.self.view_is ∙ a.added) in
    let at : w.at ≡ old.at = ap (λ (w : Held). w.at) (c.self.view_is ∙ a.added) in
    let count : c.len-held.result ≡ length old.bytes = c.len-held.ensures in
    let n = c.counted_len-first.result in
    let first : n ≡ length (counted a.piece) = c.counted_len-first.ensures
    ∙ ap (λ (l : List ℕ). length (counted l)) (piece_seen w.taken w.buffer.items old.bytes a.piece held
    c.len-held.result count c.deref.result.now c.deref.ensures.value) in
    let size = ap (λ (v : Held). length v.bytes) a.added in
    let cut : n < length a.piece = omega (arith, c.if-first-len.true, c.len.ensures, length-append {A = ℕ}) in
    let bytes : drop w.taken c.truncate.new.self.items ≡ old.bytes ++ take n a.piece =
    ap (drop w.taken) c.truncate.ensures.items
    ∙ ap (λ (k : ℕ). drop w.taken (take (w.taken + k + n) w.buffer.items)) count
    ∙ piece_cut w.taken w.buffer.items old.bytes a.piece held n in
    let new : List ℕ → ℕ → Held = λ b k. record { at = k; bytes = b } in
    gains_cut a n (w.at + c.len-held.result + n) first cut
    (omega (arith, at, count)) (ap (λ (b : List ℕ). new b w.at) bytes ∙ ap (new (old.bytes ++ take n a.piece)) at)

-- none is
pub returns-else-first-len-clause-gains : goal.returns-else-first-len-clause-gains
returns-else-first-len-clause-gains g c =
    let a = c.in_ok-fill.ensures.adds in
    let old = c.args.self.now in
    let w = c.self.inside in
    let held : drop w.taken w.buffer.items ≡ old.bytes ++ a.piece =
    ap (λ (w : Held). w.bytes) (c.self.view_is ∙ a.added) in
    let count : c.len-held.result ≡ length old.bytes = c.len-held.ensures in
    let first : c.counted_len-first.result ≡ length (counted a.piece) = c.counted_len-first.ensures
    ∙ ap (λ (l : List ℕ). length (counted l)) (piece_seen w.taken w.buffer.items old.bytes a.piece held
    c.len-held.result count c.deref.result.now c.deref.ensures.value) in
    let size = ap (λ (v : Held). length v.bytes) a.added in
    gains_all a (omega (arith, first, c.if-first-len.false, c.len.ensures, length-append {A = ℕ})) refl
