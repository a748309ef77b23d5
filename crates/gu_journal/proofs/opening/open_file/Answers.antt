use Rattle.gu_journal.proofs.opening.open_file.Goals as goal
use Rattle.gu_journal.proofs.Vocabulary.{Bool, inl, inr, List, Only, subst, sym, [], ℕ, ◌∷◌, ◌≡◌}
use Rattle.sqlite_disk.specs.{Events.{Event, replay, settled}, History.MayLeave, Modelled.start_of}

-- ---- a file that was settled as it was opened is on the disk as it reads

-- after these calls on a file that held these bytes a crash leaves what is read
abbrev IsDurable : Bool → List ℕ → List Event → Type 0
IsDurable mixes start events = let m = replay start events in Only m.seen (MayLeave mixes m.seen m.synced m.steps)

settled_durable : (mixes : Bool) (start : List ℕ) (key : ℕ) → IsDurable mixes start (settled key ∷ [])
settled_durable mixes start key c left = elim left [ inl is ↦ is | inr is ↦ is ]

fresh_durable : (mixes : Bool) (start : List ℕ) (key : ℕ) (events : List Event) → events ≡ settled key ∷ []
    → IsDurable mixes start events
fresh_durable mixes start key events is =
    subst (IsDurable mixes start) (sym is) (settled_durable mixes start key)

pub returns-in-Ok-clause-durable : goal.returns-in-Ok-clause-durable
returns-in-Ok-clause-durable g c =
    fresh_durable g.S.Start.is_mixing (start_of g.S.Start c.in-Ok.field-0.db) c.in-Ok.field-0.db.key _
    c.in-Ok.ensures.fresh.1.1
