use Rattle.std.proofs.Common.{◌≡◌, ◌<◌, ◌+◌, [], ◌∷◌, ◌++◌, length, take, sym, ◌∙◌, ap, subst, arith}
use Rattle.std.proofs.lemmas.List.{take_all, take_more}
use Rattle.gu_ids.specs.Chains.{AreIdsOf}
use Rattle.gu_ids.specs.Hashing.{hash_of}
use Rattle.gu_ids.proofs.ids.Ids.rekey.Goals as goal

pub loop-place-preserved : goal.loop-place-preserved
loop-place-preserved c =
    let at = c.loop-place.invariant in
    let h = c.args.entries.now in
    let place = c.loop-place.place in
    let e = c.index-entries-place.result in
    let hashed : c.hash_anew.result ≡ hash_of c.loop-place.self.key e.firm e.id =
    c.hash_anew.ensures ∙ ap (λ k. hash_of k e.firm e.id) (sym at.key) in
    record {
      key = c.file.ensures.key ∙ at.key;
      ids = subst (AreIdsOf c.file.new.self)
          (sym (take_more h place e c.loop-place-test.true
          ∙ ap (λ x. take place h ++ x ∷ []) (sym c.index-entries-place.is)))
          (c.file.ensures.filed (take place h) e hashed at.ids);
      room = c.file.ensures.room ∙ at.room;
      buckets = c.file.ensures.buckets ∙ at.buckets;
    }

pub returns-clause-ids : goal.returns-clause-ids
returns-clause-ids c =
    let h = c.args.entries.now in
    subst (AreIdsOf c.loop-place.self) (take_all c.loop-place.place h c.loop-place-test.false)
    c.loop-place.invariant.ids
