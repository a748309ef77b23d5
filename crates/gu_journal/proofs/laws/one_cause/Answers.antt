use Rattle.gu_journal.proofs.laws.one_cause.Goals as goal
use Rattle.gu_journal.specs.declared.damage.Cause.TheVariants as cause
use Rattle.gu_journal.proofs.{Leading.fronts, Vocabulary.{ap, arith, Broken, Cause, Entry, Fresh, Front, Garbled}}
use Rattle.gu_journal.proofs.Vocabulary.{HasCause, House, inl, inr, IsFrontOf, IsNoLogon, IsNumbered, IsPinned}
use Rattle.gu_journal.proofs.Vocabulary.{IsUntaken, LacksDigest, LacksForm, length, List, longest_beginning, Message}
use Rattle.gu_journal.proofs.Vocabulary.{Partial, refl, Stand, subst, Whole, [], ℕ, ◌+◌, ◌<◌, ◌≡◌, ◌≤◌, ◌⊎◌}

-- ---- one cause at most holds of what is left of a file

-- where only a front of a frame is left, these tell the causes apart
abbrev IsEndCause : Stand → List ℕ → List ℕ → Cause → Type 0
IsEndCause s rest behind cause.Cut = behind ≡ []
IsEndCause s rest behind cause.LaterGroup =
    (0 < length behind) × (s ≡ Fresh → length rest + length behind ≤ longest_beginning)
IsEndCause s rest behind cause.NoBeginning =
    (0 < length behind) × (s ≡ Fresh) × (longest_beginning < length rest + length behind)
IsEndCause s rest behind _ = ⊥

module _ (t : House) (pin taken : List ℕ) (s : Stand) (h : List Entry) (rest behind : List ℕ) where
  -- what a cause says beside what stands at the front
  abbrev IsToldBy : Front → Cause → Type 0
  IsToldBy (Whole m len) c = IsUntaken t pin taken s h m c
  IsToldBy Partial c = IsEndCause s rest behind c
  IsToldBy (Garbled len) cause.Garbled = Unit {0}
  IsToldBy (Broken at) cause.NoFrame = Unit {0}
  IsToldBy _ _ = ⊥

  told_by : (c : Cause) → HasCause t pin taken s h rest behind c → (f : Front) × IsFrontOf rest f × IsToldBy f c
  told_by cause.Garbled has = (Garbled has.0, has.1, tt)
  told_by cause.NoFrame has = (Broken has.0, has.1, tt)
  told_by cause.Cut has = (Partial, has.0, has.1)
  told_by cause.LaterGroup has = (Partial, has.0, (has.1, has.2))
  told_by cause.NoBeginning has = (Partial, has.0, (has.1, has.2, has.3))
  told_by cause.NoHead has = (Whole has.0 has.1.0, has.1.1, has.2)
  told_by cause.OtherNumber has = (Whole has.0 has.1.0, has.1.1, has.2)
  told_by cause.NoEntry has = (Whole has.0 has.1.0, has.1.1, has.2)
  told_by cause.OtherDigest has = (Whole has.0 has.1.0, has.1.1, has.2)

  -- ---- one cause, by what stands behind

  end_one : (c d : Cause) → IsEndCause s rest behind c → IsEndCause s rest behind d → c ≡ d
  end_one cause.Cut cause.LaterGroup a b = absurd (omega (arith, b.0, ap length a))
  end_one cause.Cut cause.NoBeginning a b = absurd (omega (arith, b.0, ap length a))
  end_one cause.LaterGroup cause.Cut a b = absurd (omega (arith, a.0, ap length b))
  end_one cause.LaterGroup cause.NoBeginning a b = absurd (omega (arith, a.1 b.1, b.2))
  end_one cause.NoBeginning cause.Cut a b = absurd (omega (arith, a.0, ap length b))
  end_one cause.NoBeginning cause.LaterGroup a b = absurd (omega (arith, b.1 a.1, a.2))
  end_one _ _ a b = search absurd

  no_number : (m : Message) → s ≡ Fresh → (LacksForm m ⊎ (LacksDigest pin m ⊎ IsNoLogon t pin h m))
      → (s ≡ Fresh → IsPinned pin m) → (IsNumbered (length h + 1) m → ⊥) → ⊥
  no_number m fresh (inl none) pinned other = let told = (pinned fresh).version in cc
  no_number m fresh (inr (inl none)) pinned other = none.this (pinned fresh).digest
  no_number m fresh (inr (inr none)) pinned other = other none.number

  -- one cause for which a message is not taken
  untaken_one : (c d : Cause) (m : Message) → IsUntaken t pin taken s h m c → IsUntaken t pin taken s h m d → c ≡ d
  untaken_one cause.NoHead cause.OtherNumber m a b = absurd (no_number m a.0 a.1 b.0 b.1)
  untaken_one cause.NoHead cause.NoEntry m a b = absurd (b.behind a.0)
  untaken_one cause.NoHead cause.OtherDigest m a b = absurd (b.behind a.0)
  untaken_one cause.OtherNumber cause.NoHead m a b = absurd (no_number m b.0 b.1 a.0 a.1)
  untaken_one cause.OtherNumber cause.NoEntry m a b = absurd (a.1 b.number)
  untaken_one cause.OtherNumber cause.OtherDigest m a b = absurd (a.1 b.number)
  untaken_one cause.NoEntry cause.NoHead m a b = absurd (a.behind b.0)
  untaken_one cause.NoEntry cause.OtherNumber m a b = absurd (b.1 a.number)
  untaken_one cause.NoEntry cause.OtherDigest m a b = absurd (a.meaning b.meaning)
  untaken_one cause.OtherDigest cause.NoHead m a b = absurd (a.behind b.0)
  untaken_one cause.OtherDigest cause.OtherNumber m a b = absurd (b.1 a.number)
  untaken_one cause.OtherDigest cause.NoEntry m a b = absurd (b.meaning a.meaning)
  untaken_one _ _ m a b = search absurd

  -- ---- the whole

  told_one : (f : Front) (c d : Cause) → IsToldBy f c → IsToldBy f d → c ≡ d
  told_one (Whole m len) c d a b = untaken_one c d m a b
  told_one Partial c d a b = end_one c d a b
  told_one (Garbled len) cause.Garbled cause.Garbled a b = refl
  told_one (Broken at) cause.NoFrame cause.NoFrame a b = refl
  told_one _ _ _ a b = absurd search

  one_cause : (c d : Cause) → HasCause t pin taken s h rest behind c → HasCause t pin taken s h rest behind d
      → c ≡ d
  one_cause c d a b =
      let one = told_by c a in
      let two = told_by d b in
      told_one one.0 c d one.2
      (subst (λ (f : Front). IsToldBy f d) (fronts rest two.0 one.0 two.1 one.1) two.2)

pub returns : goal.returns
returns c = λ t pin taken rest stand h behind cause other a b.
    one_cause t pin taken stand h rest behind cause other a b
