use Rattle.gu_book.proofs.grove.split.Goals as goal
use Rattle.gu_book.proofs
use proofs.FiledChanges.{has_accounts, may_split, not_deep, part_count, split_filed}
use proofs.{OnePlace.named_spot, Vocabulary.{ap, named_node}}
use Rattle.std.specs.Prelude.{Err, Ok, OnOk, Result}

pub unreachable-requires : goal.unreachable-requires
unreachable-requires c =
    rw (ap named_node c.requires.split.1, c.in_default.is) at c.requires.there

pub split-requires : goal.split-requires
split-requires c =
    let next = c.requires.due.2 in
    let is = c.requires.split.1 in
    let s = named_spot next _ _ c.requires.there _ (ap named_node is) _ c.in-Some.is in
    let count = part_count next s _ is in
    record {
      leaf = may_split next s _ is;
      accounts = has_accounts next s _ is;
      some = count.0;
      most = count.1;
      shallow = not_deep next s _ is;
      above = next.later;
      place_room = c.requires.place_room;
    }

-- what follows where three things do
on_ok : {T E P Q R U : Type 0} (o : Result T E) → OnOk o P → OnOk o Q → OnOk o R → (P → Q → R → U) → OnOk o U
on_ok (Ok x) p q r then = then p q r
on_ok (Err e) p q r then = tt

pub returns-clause-follows : goal.returns-clause-follows
returns-clause-follows c =
    on_ok c.split.result c.split.ensures.tree c.split.ensures.place c.split.ensures.shows (λ tree place shows t l next.
    let is = c.requires.split.1 in
    let s = named_spot next _ _ c.requires.there _ (ap named_node is) _ c.in-Some.is in
    split_filed next s _ is _ (record { tree = tree; place = place }) shows)
