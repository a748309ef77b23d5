-- The calls of a run's entries make the run again.
use Rattle.std.proofs.Common.{◌≡◌, ◌≤◌, List, [], ◌∷◌, ◌++◌, length, sym, ◌∙◌, ap, arith, map}
use Rattle.std.proofs.Common.{append_assoc, append-nil, length-append}
use Rattle.gu_base.specs.House.{House}
use Rattle.gu_base.specs.Answers.{after, after_by}
use Rattle.gu_base.specs.Runs.{after_all, call_of, IsRunFrom}
use Rattle.gu_base.specs.declared.entry.Entry.{Entry}

module _ {t : House} {o h : List Entry} (run : IsRunFrom t o h) where
  replayed : (done todo : List Entry) → h ≡ done ++ todo → length o ≤ length done
      → after_all t done (map call_of todo) ≡ done ++ todo
  replayed done [] e le = sym (append-nil done)
  replayed done (d ∷ todo) e le =
      let one : after t done (call_of d) ≡ done ++ d ∷ [] =
      ap (after_by done (call_of d)) (run.accepted done todo d e le) in
      let longer = length-append done (d ∷ []) in
      ap (λ g. after_all t g (map call_of todo)) one
      ∙ (replayed (done ++ d ∷ []) todo (e ∙ sym (append_assoc done (d ∷ []) todo)) (omega (arith, le, longer))
      ∙ append_assoc done (d ∷ []) todo)

  pub run_replayed : (rest : List Entry) → h ≡ o ++ rest → after_all t o (map call_of rest) ≡ h
  run_replayed rest e = replayed o rest e (omega arith) ∙ sym e
