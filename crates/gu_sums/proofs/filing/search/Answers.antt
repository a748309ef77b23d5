use Rattle.gu_sums.proofs.filing.search.Goals as goal
use Rattle.gu_sums.{proofs.Filings.searched, specs.declared.filing.Filed.Filed}
use Rattle.std.proofs.{Common.rules, lemmas.List.Sorted.answers_always}

-- the closure gives the number of an entry
pub returns : goal.returns
returns g c =
    let facts = c.binary_search_by_key.ensures in
    let by_key = facts.position (λ (x : Filed _). x.number) (answers_always _ _ _ (λ f a r g called. search rules)) in
    rw (← c.get.ensures.value) (searched _ c.requires c.get.result _ facts.bound by_key)
