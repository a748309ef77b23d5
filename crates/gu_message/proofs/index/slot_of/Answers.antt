use Rattle.gu_message.proofs.Indexing.{low_slot, low_few}
use Rattle.gu_message.proofs.index.slot_of.Goals as goal

pub returns-then-tag-lt-LOW_TAGS-clause-slot : goal.returns-then-tag-lt-LOW_TAGS-clause-slot
returns-then-tag-lt-LOW_TAGS-clause-slot c = low_slot c.args.tag c.if-tag-lt-LOW_TAGS.true

pub returns-then-tag-lt-LOW_TAGS-clause-few : goal.returns-then-tag-lt-LOW_TAGS-clause-few
returns-then-tag-lt-LOW_TAGS-clause-few c = low_few c.args.tag c.if-tag-lt-LOW_TAGS.true
